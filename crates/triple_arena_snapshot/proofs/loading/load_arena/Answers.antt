use Rattle.triple_arena_snapshot.specs.ArenaCodings.{arena_content}
use Rattle.triple_arena_snapshot.specs.ArenaLayouts.{arena_coding}
use Rattle.triple_arena_snapshot.specs.Shapes.{arena_shape}
use Rattle.triple_arena_snapshot.proofs.Loads.{known_vec, known_again, known_change}
use Rattle.triple_arena_snapshot.proofs.loading.load_arena.Goals as goal

pub returns-in-Ok-clause-again : goal.returns-in-Ok-clause-again
returns-in-Ok-clause-again g c = λ k fits is.
    let known = g.R.Read.remaining c.args.input.now in
    known_again (arena_coding g.P.Inx.PtrInx.greatest g.P.Gen.GenerationCodec.width (g.S.NonZeroInxGenericStack.limit c.args.stack) g.P.Gen.GenerationCodec.numbered g.T.Codec.coding) (arena_content g.T.Codec.content) c.read_arena_file.result (arena_shape g.T.Codec.shape) known c.deref.result.now c.read_arena_file.ensures.few (known_vec known c.in-Ok.bytes.items c.deref.result.now c.deref.ensures.value c.in-Ok.ensures.bytes) c.read_arena_file.ensures.read k fits is

pub returns-in-Ok-clause-change_found : goal.returns-in-Ok-clause-change_found
returns-in-Ok-clause-change_found g c = λ shape saved front burst other rest bytes long few apart e is.
    let known = g.R.Read.remaining c.args.input.now in
    known_change (arena_coding g.P.Inx.PtrInx.greatest g.P.Gen.GenerationCodec.width (g.S.NonZeroInxGenericStack.limit c.args.stack) g.P.Gen.GenerationCodec.numbered g.T.Codec.coding) (arena_content g.T.Codec.content) c.read_arena_file.result (arena_shape g.T.Codec.shape) known c.deref.result.now c.read_arena_file.ensures.small (known_vec known c.in-Ok.bytes.items c.deref.result.now c.deref.ensures.value c.in-Ok.ensures.bytes) c.read_arena_file.ensures.read shape saved front burst other rest bytes long few apart e is

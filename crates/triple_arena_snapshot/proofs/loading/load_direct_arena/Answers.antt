use Rattle.std.proofs.Common.{map}
use Rattle.std.specs.Option.{option_map}
use Rattle.triple_arena_traits.specs.ArenaState.{map_entry}
use Rattle.triple_arena_snapshot.specs.ArenaLayouts.{direct_arena_coding}
use Rattle.triple_arena_snapshot.specs.Shapes.{direct_arena_shape}
use Rattle.triple_arena_snapshot.proofs.Loads.{known_vec, known_again, known_change}
use Rattle.triple_arena_snapshot.proofs.loading.load_direct_arena.Goals as goal

pub returns-in-Ok-clause-again : goal.returns-in-Ok-clause-again
returns-in-Ok-clause-again g c = λ k fits is.
    let known = g.R.Read.remaining c.args.input.now in
    known_again (direct_arena_coding g.P.Inx.PtrInx.greatest g.P.Gen.GenerationCodec.width (g.S.NonZeroInxGenericStack.limit c.args.stack) g.P.Gen.GenerationCodec.numbered g.T.Codec.coding) (λ arena. map (option_map (map_entry g.T.Codec.content)) arena.slots) c.read_direct_arena_file.result (direct_arena_shape g.T.Codec.shape) known c.deref.result.now c.read_direct_arena_file.ensures.few (known_vec known c.in-Ok.bytes.items c.deref.result.now c.deref.ensures.value c.in-Ok.ensures.bytes) c.read_direct_arena_file.ensures.read k fits is

pub returns-in-Ok-clause-change_found : goal.returns-in-Ok-clause-change_found
returns-in-Ok-clause-change_found g c = λ shape saved front burst other rest bytes long few apart e is.
    let known = g.R.Read.remaining c.args.input.now in
    known_change (direct_arena_coding g.P.Inx.PtrInx.greatest g.P.Gen.GenerationCodec.width (g.S.NonZeroInxGenericStack.limit c.args.stack) g.P.Gen.GenerationCodec.numbered g.T.Codec.coding) (λ arena. map (option_map (map_entry g.T.Codec.content)) arena.slots) c.read_direct_arena_file.result (direct_arena_shape g.T.Codec.shape) known c.deref.result.now c.read_direct_arena_file.ensures.small (known_vec known c.in-Ok.bytes.items c.deref.result.now c.deref.ensures.value c.in-Ok.ensures.bytes) c.read_direct_arena_file.ensures.read shape saved front burst other rest bytes long few apart e is

use Rattle.std.proofs.Common.{sym}
use Rattle.triple_arena_snapshot.specs.ArenaCodings.{arena_content}
use Rattle.triple_arena_snapshot.specs.StrictFiles.{strict_arena_coding}
use Rattle.triple_arena_snapshot.specs.Shapes.{strict_arena_shape}
use Rattle.triple_arena_snapshot.proofs.Loads.{known_vec, known_again, known_change}
use Rattle.triple_arena_snapshot.proofs.StrictFiles.{loaded_has, gone_in_same}
use Rattle.triple_arena_snapshot.proofs.strict_arenas.load_strict_arena.Goals as goal

pub returns-in-Ok-clause-again : goal.returns-in-Ok-clause-again
returns-in-Ok-clause-again g c = λ k fits is.
    let known = g.R.Read.remaining c.args.input.now in
    known_again (strict_arena_coding g.P.Gen.PtrGen.generations.counting g.P.Inx.PtrInx.greatest g.P.Gen.GenerationCodec.width (g.S.NonZeroInxGenericStack.limit c.args.stack) g.P.Gen.GenerationCodec.numbered g.T.Codec.coding) (arena_content g.T.Codec.content) c.read_strict_arena_file.result (strict_arena_shape g.T.Codec.shape) known c.deref.result.now c.read_strict_arena_file.ensures.few (known_vec known c.in-Ok.bytes.items c.deref.result.now c.deref.ensures.value c.in-Ok.ensures.bytes) c.read_strict_arena_file.ensures.read k fits is

pub returns-in-Ok-clause-change_found : goal.returns-in-Ok-clause-change_found
returns-in-Ok-clause-change_found g c = λ shape saved front burst other rest bytes long few apart e is.
    let known = g.R.Read.remaining c.args.input.now in
    known_change (strict_arena_coding g.P.Gen.PtrGen.generations.counting g.P.Inx.PtrInx.greatest g.P.Gen.GenerationCodec.width (g.S.NonZeroInxGenericStack.limit c.args.stack) g.P.Gen.GenerationCodec.numbered g.T.Codec.coding) (arena_content g.T.Codec.content) c.read_strict_arena_file.result (strict_arena_shape g.T.Codec.shape) known c.deref.result.now c.read_strict_arena_file.ensures.small (known_vec known c.in-Ok.bytes.items c.deref.result.now c.deref.ensures.value c.in-Ok.ensures.bytes) c.read_strict_arena_file.ensures.read shape saved front burst other rest bytes long few apart e is

pub returns-in-Ok-clause-found : goal.returns-in-Ok-clause-found
returns-in-Ok-clause-found g c = λ saved fits is.
    loaded_has (arena_content g.T.Codec.content) c.read_strict_arena_file.result (arena_content g.T.Codec.content saved) _ (returns-in-Ok-clause-again g c (arena_content g.T.Codec.content saved) fits is) (λ s same q. c.read_answers_as_written.ensures.look_ups saved s q same)

pub returns-in-Ok-clause-next : goal.returns-in-Ok-clause-next
returns-in-Ok-clause-next g c = λ saved fits is.
    loaded_has (arena_content g.T.Codec.content) c.read_strict_arena_file.result (arena_content g.T.Codec.content saved) _ (returns-in-Ok-clause-again g c (arena_content g.T.Codec.content saved) fits is) (λ s same. c.read_answers_as_written.ensures.next saved s same)

pub returns-in-Ok-clause-gone : goal.returns-in-Ok-clause-gone
returns-in-Ok-clause-gone g c = λ saved fits is.
    loaded_has (arena_content g.T.Codec.content) c.read_strict_arena_file.result (arena_content g.T.Codec.content saved) _ (returns-in-Ok-clause-again g c (arena_content g.T.Codec.content saved) fits is) (λ s same. gone_in_same g.T.Codec.content saved s (sym same))

pub returns-in-Ok-clause-history : goal.returns-in-Ok-clause-history
returns-in-Ok-clause-history g c = λ saved fits is.
    loaded_has (arena_content g.T.Codec.content) c.read_strict_arena_file.result (arena_content g.T.Codec.content saved) _ (returns-in-Ok-clause-again g c (arena_content g.T.Codec.content saved) fits is) (λ s same. c.read_answers_as_written.ensures.history saved s same)

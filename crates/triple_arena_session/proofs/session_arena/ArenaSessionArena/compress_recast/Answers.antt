use Rattle.std.proofs.lemmas.Result.{on_ok_weaker}
use Rattle.triple_arena_ptr.specs.Numbers.{raise}
use Rattle.triple_arena_traits.specs.Compression.{raised_if_any}
use Rattle.triple_arena_traits.specs.Walks.{values}
use Rattle.triple_arena_session.proofs.Uncounted.{uncounted-compressed}
use Rattle.triple_arena_session.proofs.session_arena.ArenaSessionArena.compress_recast.Goals as goal

pub returns-clause-done : goal.returns-clause-done
returns-clause-done g c =
    uncounted-compressed c.compress_recast.result c.args.self.now c.compress_recast.new.this (raised_if_any (raise g.P.Gen.PtrGen.generations) c.args.self.now) _
    (on_ok_weaker c.compress_recast.result (λ is. (values c.compress_recast.new.this.slots, is.made, is.left)) c.compress_recast.ensures.compacted)

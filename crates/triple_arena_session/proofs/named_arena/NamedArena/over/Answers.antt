use Rattle.std.proofs.Common.{◌≡◌, refl, sym, subst, ◌∙◌}
use Rattle.triple_arena_traits.specs.ArenaState.{map_values}
use Rattle.triple_arena_session.specs.SessionState.{node_of, new_session}
use Rattle.triple_arena_session.specs.SessionLayout.{session_of}
use Rattle.triple_arena_session.specs.Shown.{IsSound}
use Rattle.triple_arena_session.proofs.Mapped.{len-mapped}
use Rattle.triple_arena_session.proofs.Soundness.{IsSound-empty}
use Rattle.triple_arena_session.proofs.named_arena.NamedArena.over.Goals as goal

pub returns-clause-sound : goal.returns-clause-sound
returns-clause-sound g c none =
    let arena = g.A.SessionArena.state c.args.arena in
    let made : session_of g.P.Ptr.numbers arena c.new.result.items c.new.result.room ≡ new_session (map_values (node_of g.P.Ptr.numbers) arena) = rw (c.new.ensures.items, c.new.ensures.room) refl in
    subst IsSound (sym made) (IsSound-empty (map_values (node_of g.P.Ptr.numbers) arena) (len-mapped (node_of g.P.Ptr.numbers) arena ∙ none))

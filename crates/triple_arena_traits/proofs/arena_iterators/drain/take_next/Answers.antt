use Rattle.std.proofs.Common.{◌∙◌, ap}
use Rattle.triple_arena_base.specs.Invalidation.{as_option}
use Rattle.triple_arena_traits.specs.Ending.{told_of}
use Rattle.triple_arena_traits.specs.laws.WalkLaws.{found}
use Rattle.triple_arena_traits.proofs.Walking.{unwrapped}
use Rattle.triple_arena_traits.proofs.arena_iterators.drain.take_next.Goals as goal

pub returns : goal.returns
returns g c =
    let steps = g.met.A.CompactArenaTrait.advanced _ _ _ _ (rw c.in_ok-p.was at c.advance.ensures.steps) in
    let f = found (g.A.ArenaStates.slots c.args.arena.now) (g.P.Ptr.numbers c.in_ok-p.p) steps.answers.0 in
    let answer = c.remove.ensures.answer ∙ ap (told_of (g.A.ArenaStates.ending_wraps c.args.arena.now)) f.looked_up in
    record { step = (f.value, unwrapped _ _ _ (c.unwrap.ensures ∙ ap as_option answer), steps, f.looked_up, (c.remove.ensures.done steps.answers.0, c.remove.ensures.history steps.answers.0)) }

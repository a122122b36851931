use Rattle.std.proofs.Common.{[], refl}
use Rattle.triple_arena_direct.specs.laws.GoneLaws.{up_to-continues, gone-continues}
use Rattle.triple_arena_direct.proofs.strict_arena.StrictArena.for_each_mut.Goals as goal

pub invariant_of-self : goal.invariant_of-self
invariant_of-self g c counts =
    up_to-continues c.self.inside.arena c.for_each_mut.new.self (c.self.invariant counts) [] c.for_each_mut.ensures.history

pub returns-clause-visited : goal.returns-clause-visited
returns-clause-visited g c = rw (← c.self.view_is) c.for_each_mut.ensures.visited

pub returns-clause-step : goal.returns-clause-step
returns-clause-step g c =
    let written = c.for_each_mut.ensures.written in
    rw (← c.self.view_is) (written.0, (refl, written.1))

pub returns-clause-stays_gone : goal.returns-clause-stays_gone
returns-clause-stays_gone g c =
    rw (← c.self.view_is) (λ counts. gone-continues c.self.inside.arena c.for_each_mut.new.self (c.self.invariant counts) [] c.for_each_mut.ensures.history)

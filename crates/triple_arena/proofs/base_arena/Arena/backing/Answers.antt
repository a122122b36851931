use Rattle.std.proofs.Common.{subst}
use Rattle.triple_arena_slots.specs.Layout.{Shows}
use Rattle.triple_arena_slots.proofs.Links.{linked_from_first}
use Rattle.triple_arena.proofs.base_arena.Arena.backing.Goals as goal

pub returns-clause-links : goal.returns-clause-links
returns-clause-links g c =
    let shows = subst (Shows g.P.Gen.PtrGen.number _ _ _) c.self.view_is c.self.invariant in
    rw c.uncounted_stack.ensures (linked_from_first _ _ c.args.self.now.free shows.linked)

use Rattle.std.proofs.Common.{◌∙◌, sym, ap}
use Rattle.triple_arena_ptr.specs.Pointers.{Pointer}
use Rattle.triple_arena_traits.specs.Insertion.{next_pointer}
use Rattle.triple_arena_traits.specs.laws.EntryLaws.{slots-inserted}
use Rattle.triple_arena_traits.proofs.LookUps.{new_found, others_found}
use Rattle.triple_arena.proofs.base_arena.insertion.ArenaArenaInsertTrait.insert_within_capacity.Goals as goal

pub returns-then-len-capacity-clause-found : goal.returns-then-len-capacity-clause-found
returns-then-len-capacity-clause-found g c =
    let change = slots-inserted c.args.self.now c.args.t c.insert_reserved.ensures.valid in
    rw c.insert_reserved.ensures.inserted (new_found _ _ _ (next_pointer c.args.self.now) _ c.insert_reserved.ensures.pointer change)

pub returns-then-len-capacity-clause-others : goal.returns-then-len-capacity-clause-others
returns-then-len-capacity-clause-others g c q away =
    let change = slots-inserted c.args.self.now c.args.t c.insert_reserved.ensures.valid in
    rw c.insert_reserved.ensures.inserted (others_found _ _ _ _ change q (λ here. away (here ∙ sym (ap (λ (n : Pointer). n.0) c.insert_reserved.ensures.pointer))))

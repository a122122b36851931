use Rattle.std.proofs.Common.{◌∙◌, sym, ap}
use Rattle.std.specs.Option.{option_and_then}
use Rattle.triple_arena_ptr.specs.Pointers.{Pointer}
use Rattle.triple_arena_traits.specs.ArenaState.{ArenaState}
use Rattle.triple_arena_traits.specs.Entries.{entry_in, value_of_generation}
use Rattle.triple_arena_traits.specs.Insertion.{next_pointer}
use Rattle.triple_arena_traits.specs.laws.EntryLaws.{slots-inserted, slots-grown}
use Rattle.triple_arena_traits.proofs.LookUps.{new_found, others_found}
use Rattle.triple_arena.proofs.base_arena.insertion.ArenaArenaInsertTrait.try_insert.Goals as goal

pub returns-in-Ok-clause-found : goal.returns-in-Ok-clause-found
returns-in-Ok-clause-found g c =
    let change = slots-inserted c.make_place.new.self c.args.t c.insert_reserved.ensures.valid in
    rw c.insert_reserved.ensures.inserted (new_found _ _ _ (next_pointer c.make_place.new.self) _ c.insert_reserved.ensures.pointer change)

pub returns-in-Ok-clause-others : goal.returns-in-Ok-clause-others
returns-in-Ok-clause-others g c q away =
    let change = slots-inserted c.make_place.new.self c.args.t c.insert_reserved.ensures.valid in
    let kept = ap (λ (s : ArenaState g.row.T.Denot). entry_in s.slots q.0) c.in-Ok.ensures.done ∙ slots-grown g.S.NonZeroInxGenericStack.kind c.args.self.now q.0 in
    rw c.insert_reserved.ensures.inserted (
    others_found _ _ _ _ change q (λ here. away (here ∙ sym (ap (λ (n : Pointer). n.0) c.insert_reserved.ensures.pointer)))
    ∙ ap (option_and_then (value_of_generation q.1)) kept
    )

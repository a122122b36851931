-- What stands in an arena after an insertion.
use Rattle.std.proofs.Common.{◌≡◌, ℕ, ◌+◌, List, [], ◌∷◌, Option, Some, None, IsSome, cond, refl, ap, ◌∙◌}
use Rattle.std.specs.Borrow.{MutBor}
use Rattle.std.specs.Option.{option_and_then, option_copied_mut}
use Rattle.triple_arena_ptr.specs.Pointers.{Pointer}
use Rattle.triple_arena_traits.specs.Items.{item}
use Rattle.triple_arena_traits.specs.Entries.{value_of_generation, look_up}
use Rattle.triple_arena_traits.specs.ArenaState.{ArenaState, slot_count, with_value, IsWellFormed}
use Rattle.triple_arena_traits.specs.Insertion.{place_among, place, next_pointer, inserted_among, inserted}
use Rattle.triple_arena_traits.specs.laws.ItemLaws.{joined, eq_true, item_within, item-with_same, item-push_same, with_item-twice, with_item-push}
use Rattle.triple_arena_traits.specs.laws.EntryLaws.{first_free}
use Rattle.triple_arena_traits.specs.laws.WellFormedLaws.{with_value_is}

module _ {T : Type 0} where
  -- the slot at the place has the value, under the counter
  item-inserted : (s : ArenaState T) (v : T) → IsWellFormed s → item (inserted s v).slots (place s) ≡ Some (Some (s.counter, v))
  item-inserted s v well = by_free s.free refl
    where
      by_free : (f : List ℕ) → s.free ≡ f → item (inserted_among f s v).slots (place_among f (slot_count s)) ≡ Some (Some (s.counter, v))
      by_free [] e = item-push_same s.slots (slot_count s + 1) (Some (s.counter, v)) refl
      by_free (i ∷ rest) e =
          let within = item_within s.slots i None (first_free s i rest well e).0 in
          item-with_same s.slots i (Some (s.counter, v)) within.0 within.1

  -- another value at the place is an insertion of that value
  with_value-inserted : (s : ArenaState T) (v w : T) → IsWellFormed s → with_value (inserted s v) (place s) w ≡ inserted s w
  with_value-inserted s v w well = by_free s.free (ap joined (item-inserted s v well))
    where
      by_free : (f : List ℕ) → joined (item (inserted_among f s v).slots (place_among f (slot_count s))) ≡ Some (s.counter, v) → with_value (inserted_among f s v) (place_among f (slot_count s)) w ≡ inserted_among f s w
      by_free [] there =
          ap (λ xs. record s { slots = xs }) (with_value_is (inserted_among [] s v).slots (slot_count s + 1) s.counter v w there
          ∙ with_item-push s.slots (slot_count s + 1) (Some (s.counter, v)) (Some (s.counter, w)) refl)
      by_free (i ∷ rest) there =
          ap (λ xs. record s { slots = xs; free = rest }) (with_value_is (inserted_among (i ∷ rest) s v).slots i s.counter v w there
          ∙ with_item-twice s.slots i (Some (s.counter, v)) (Some (s.counter, w)))

  -- the pointer of an insertion finds the value
  pub found_inserted : (s new : ArenaState T) (p : Pointer) (v : T) → IsWellFormed s → p ≡ next_pointer s → new ≡ inserted s v → look_up new.slots p ≡ Some v
  found_inserted s new p v well pointer is =
      rw (pointer, is) (ap (λ o. option_and_then (value_of_generation s.counter) (joined o)) (item-inserted s v well) ∙ ap (λ b. cond b (Some v) None) (eq_true s.counter s.counter refl))

  -- what is written under the pointer of an insertion stands as if it was inserted
  pub rewritten : (s new : ArenaState T) (i : ℕ) (v w : T) → IsWellFormed s → i ≡ place s → new ≡ inserted s v → with_value new i w ≡ inserted s w
  rewritten s new i v w well here is = rw (here, is) (with_value-inserted s v w well)

  pub some_lent : (o : Option (MutBor T)) (v : T) → option_copied_mut o ≡ Some v → IsSome o
  some_lent None v e = absurd (cc)
  some_lent (Some x) v e = refl

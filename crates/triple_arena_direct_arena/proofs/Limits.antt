-- How a change of the limit finds and leaves a direct arena.
use Rattle.std.proofs.Common.{◌≡◌, ℕ, ◌≤◌, ◌↔◌, List, length, Option, Some, max, min, sym, ap, ◌∙◌, arith}
use Rattle.std.proofs.lemmas.List.{length-take, take_all}
use Rattle.triple_arena_stack.specs.Capacity.{stack_capacity}
use Rattle.triple_arena_traits.specs.FreeList.{last_index}
use Rattle.triple_arena_traits.specs.FreeEnd.{shortened}
use Rattle.triple_arena_traits.specs.laws.FreeListLaws.{trimmed_length}
use Rattle.triple_arena_direct_arena.specs.DirectState.{DirectState, direct_slot_count, direct_capacity, SlotsFit, direct_shortened, direct_with_limit}

module _ {T : Type 0} where
  length-shortened : (m : ℕ) (xs : List (Option (ℕ × T))) → length (shortened m xs) ≡ min (max (last_index xs) m) (length xs)
  length-shortened m xs = length-take (max (last_index xs) m) xs

  -- the slots that are left are no more than a limit exactly where no entry stands past it
  pub left_within : (s : DirectState T) (m : ℕ) → (direct_slot_count (direct_shortened s m) ≤ m) ↔ (last_index s.slots ≤ m)
  left_within s m =
      let left = length-shortened m s.slots in
      let last = trimmed_length s.slots in
      ((λ few. omega (arith, left, last, few)), (λ low. omega (arith, left, low)))

  slots_within : (s : DirectState T) (x most : ℕ) → SlotsFit s → s.limit ≡ Some most → length (shortened x s.slots) ≤ most
  slots_within s x most fit e =
      let allowed : direct_capacity s ≤ most = rw e (omega arith) in
      omega (arith, length-shortened x s.slots, fit, allowed)

  -- an old limit can be set again
  pub set_back_fits : (s t : DirectState T) (x most : ℕ) → SlotsFit s → s.limit ≡ Some most → t ≡ direct_with_limit (direct_shortened s x) x → last_index t.slots ≤ most
  set_back_fits s t x most fit e is =
      rw is (omega (arith, trimmed_length (shortened x s.slots), slots_within s x most fit e))

  -- and then the old capacity is there again
  pub capacity_set_back : (s t : DirectState T) (x most : ℕ) → s.limit ≡ Some most → t ≡ direct_with_limit (direct_shortened s x) x → direct_capacity (direct_with_limit (direct_shortened t most) most) ≡ direct_capacity s
  capacity_set_back s t x most e is = rw is (ap (λ l. min (stack_capacity s.room l) s.greatest) (sym e))

  -- the free slots at the end that went stay away, and all else is as it was
  pub set_back : (s t : DirectState T) (x most : ℕ) → SlotsFit s → s.limit ≡ Some most → t ≡ direct_with_limit (direct_shortened s x) x → direct_with_limit (direct_shortened t most) most ≡ direct_shortened s x
  set_back s t x most fit e is =
      let few = slots_within s x most fit e in
      let stay : shortened most (shortened x s.slots) ≡ shortened x s.slots = take_all (max (last_index (shortened x s.slots)) most) (shortened x s.slots) (omega (arith, few)) in
      ap (λ u. direct_with_limit (direct_shortened u most) most) is
      ∙ ap (λ xs. record s { slots = xs; limit = Some most }) stay
      ∙ ap (λ l. record s { slots = shortened x s.slots; limit = l }) (sym e)

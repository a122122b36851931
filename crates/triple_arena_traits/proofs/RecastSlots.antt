-- Recasting the values of an arena, as a refill of its slots.
use Rattle.std.proofs.Common.{◌≡◌, ℕ, ◌+◌, List, [], ◌∷◌, ◌++◌, length, take, drop, Option, Some, None, refl, sym, ap, ◌∙◌, arith, append_assoc}
use Rattle.std.proofs.lemmas.List.{length_push}
use Rattle.std.specs.Option.{option_map}
use Rattle.triple_arena_base.specs.Held.{recast_items, held_all, refill_all}
use Rattle.triple_arena_ptr.specs.Pointers.{Pointer}
use Rattle.triple_arena_traits.specs.Items.{with_item}
use Rattle.triple_arena_traits.specs.laws.ItemLaws.{joined}
use Rattle.triple_arena_traits.specs.Entries.{with_value_in}
use Rattle.triple_arena_traits.specs.Walks.{entries_from, keys_of, values_of, keys, values}
use Rattle.triple_arena_traits.specs.Recasting.{written, recast_values}
use Rattle.triple_arena_traits.specs.HeldSlots.{held_slots, refill_slots}
use Rattle.triple_arena_traits.proofs.Compressing.{item-after, set-after}

module _ {T : Type 0} where
  -- the slots with these values in their entries, in order
  abbrev put_values : List (Option (ℕ × T)) → List T → List (Option (ℕ × T))
  put_values [] vs = []
  put_values (None ∷ xs) vs = None ∷ put_values xs vs
  put_values (Some e ∷ xs) [] = Some e ∷ xs
  put_values (Some e ∷ xs) (v ∷ vs) = Some (e.0, v) ∷ put_values xs vs

  write_after : (front xs : List (Option (ℕ × T))) (e : ℕ × T) (i : ℕ) (v : T) → i ≡ length front + 1 → with_value_in (front ++ Some e ∷ xs) i v ≡ front ++ Some (e.0, v) ∷ xs
  write_after front xs e i v at =
      ap (λ o. with_item (front ++ Some e ∷ xs) i (option_map (λ (x : ℕ × T). (x.0, v)) (joined o))) (item-after front (Some e) xs i at)
      ∙ set-after front (Some e) (Some (e.0, v)) xs i at

  written_from : (front xs : List (Option (ℕ × T))) (at : ℕ) (vs : List T) → at ≡ length front + 1 → written with_value_in (keys_of (entries_from at xs)) vs (front ++ xs) ≡ front ++ put_values xs vs
  written_from front [] at vs place = refl
  written_from front (None ∷ xs) at vs place =
      ap (written with_value_in (keys_of (entries_from (at + 1) xs)) vs) (sym (append_assoc front (None ∷ []) xs))
      ∙ written_from (front ++ None ∷ []) xs (at + 1) vs (omega (arith, place, length_push front None))
      ∙ append_assoc front (None ∷ []) (put_values xs vs)
  written_from front (Some e ∷ xs) at [] place = refl
  written_from front (Some e ∷ xs) at (v ∷ vs) place =
      ap (written with_value_in (keys_of (entries_from (at + 1) xs)) vs) (write_after front xs e at v place ∙ sym (append_assoc front (Some (e.0, v) ∷ []) xs))
      ∙ written_from (front ++ Some (e.0, v) ∷ []) xs (at + 1) vs (omega (arith, place, length_push front (Some (e.0, v))))
      ∙ append_assoc front (Some (e.0, v) ∷ []) (put_values xs vs)

  module _ {I : Type 0} (held : T → List I) (refill : T → List I → T) where
    pub held_from : (at : ℕ) (xs : List (Option (ℕ × T))) → held_slots held refill xs ≡ held_all held (values_of (entries_from at xs))
    held_from at [] = refl
    held_from at (None ∷ xs) = held_from (at + 1) xs
    held_from at (Some e ∷ xs) = ap (λ l. held e.1 ++ l) (held_from (at + 1) xs)

    refilled_from : (at : ℕ) (xs : List (Option (ℕ × T))) (l : List I) → put_values xs (refill_all held refill (values_of (entries_from at xs)) l) ≡ refill_slots held refill xs l
    refilled_from at [] l = refl
    refilled_from at (None ∷ xs) l = ap (λ ys. None ∷ ys) (refilled_from (at + 1) xs l)
    refilled_from at (Some e ∷ xs) l = ap (λ ys. Some (e.0, refill e.1 (take (length (held e.1)) l)) ∷ ys) (refilled_from (at + 1) xs (drop (length (held e.1)) l))

    -- values that are recast and written again are a refill of the slots
    pub recast_refills : (image : I → Option I) (slots : List (Option (ℕ × T))) → written with_value_in (keys slots) (recast_values held refill image (values slots)) slots ≡ refill_slots held refill slots (recast_items image (held_slots held refill slots))
    recast_refills image slots =
        written_from [] slots 1 (recast_values held refill image (values slots)) refl
        ∙ refilled_from 1 slots (recast_items image (held_all held (values slots)))
        ∙ ap (λ h. refill_slots held refill slots (recast_items image h)) (sym (held_from 1 slots))

-- a state that differs by its slots alone
pub written_state : {T A : Type 0} (slots : A → List (Option (ℕ × T))) (with_slots : A → List (Option (ℕ × T)) → A) (with_value : A → ℕ → T → A)
    → ((s : A) → with_slots s (slots s) ≡ s) → ((s : A) (i : ℕ) (v : T) → with_value s i v ≡ with_slots s (with_value_in (slots s) i v)) → ((s : A) (xs : List (Option (ℕ × T))) → slots (with_slots s xs) ≡ xs)
    → ((s : A) (xs ys : List (Option (ℕ × T))) → with_slots (with_slots s xs) ys ≡ with_slots s ys)
    → (ps : List Pointer) (vs : List T) (s : A) → written with_value ps vs s ≡ with_slots s (written with_value_in ps vs (slots s))
written_state slots with_slots with_value same writes get put [] vs s = sym (same s)
written_state slots with_slots with_value same writes get put (p ∷ ps) [] s = sym (same s)
written_state slots with_slots with_value same writes get put (p ∷ ps) (v ∷ vs) s =
    ap (written with_value ps vs) (writes s p.0 v)
    ∙ written_state slots with_slots with_value same writes get put ps vs (with_slots s (with_value_in (slots s) p.0 v))
    ∙ ap (λ xs. with_slots (with_slots s (with_value_in (slots s) p.0 v)) (written with_value_in ps vs xs)) (get s (with_value_in (slots s) p.0 v))
    ∙ put s (with_value_in (slots s) p.0 v) (written with_value_in ps vs (with_value_in (slots s) p.0 v))

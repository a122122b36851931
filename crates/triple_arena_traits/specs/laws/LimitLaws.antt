-- How a change of the limit finds and leaves an arena.
use Rattle.std.proofs.Common.{◌≡◌, ℕ, ◌<◌, ◌≤◌, ◌↔◌, ◌⊎◌, inl, inr, Bool, true, false, List, [], ◌∷◌, length, Option, Some, None, Result, Ok, Err, IsOk, OnErr, cond, min, nat_lt, refl, sym, ap, ◌∙◌, arith, true≢false}
use Rattle.std.proofs.lemmas.Bool.{ltb-true, ltb-false}
use Rattle.triple_arena_traits.specs.Items.{item}
use Rattle.triple_arena_traits.specs.Entries.{entry_in}
use Rattle.triple_arena_traits.specs.ArenaState.{ArenaState, capacity, slot_count, is_free, IsWellFormed}
use Rattle.triple_arena_traits.specs.FreeList.{trimmed, tidied}
use Rattle.triple_arena_traits.specs.Reallocation.{EndsBy, ready_for_limit, with_limit}
use Rattle.triple_arena_traits.specs.laws.ItemLaws.{joined, item_past}
use Rattle.triple_arena_traits.specs.laws.FreeListLaws.{trimmed_length, IsTidied-tidied}

module _ {T : Type 0} where
  last_live : (y : Option (ℕ × T)) (ys : List (Option (ℕ × T))) → is_free (item (y ∷ ys) (length (y ∷ ys))) ≡ false → entry_in (y ∷ ys) (length (y ∷ ys)) ≡ None → ⊥
  last_live None [] live none = true≢false live
  last_live (Some e) [] live none = absurd (cc)
  last_live y (z ∷ zs) live none = last_live z zs live none

  -- slots that end with an entry are no more than an index that no entry is past
  pub ends_within : (xs : List (Option (ℕ × T))) (x : ℕ) → is_free (item xs (length xs)) ≡ false → ((i : ℕ) → x < i → entry_in xs i ≡ None) → length xs ≤ x
  ends_within [] x live none = omega arith
  ends_within (y ∷ ys) x live none =
      let past : x < length (y ∷ ys) → ⊥ = λ h. last_live y ys live (none (length (y ∷ ys)) h) in
      omega (arith, past)

  none_past : (s : ArenaState T) (x : ℕ) → slot_count s ≤ x → EndsBy s x
  none_past s x fits i h = ap joined (item_past s.slots i (omega (arith, fits, h)))

  tidied_ends : (s : ArenaState T) (x : ℕ) → (slot_count (tidied s) ≤ x) ↔ EndsBy s x
  tidied_ends s x =
      let order = IsTidied-tidied s in
      ((λ fits i h. sym (order.entries i) ∙ none_past (tidied s) x fits i h), (λ none. ends_within (trimmed s.slots) x order.ends_live (λ i h. order.entries i ∙ none i h)))

  -- the slots that a limit finds are no more than it exactly where no entry stands past it
  pub ready_ends : (s : ArenaState T) (x : ℕ) → slot_count s ≤ capacity s → (slot_count (ready_for_limit s x) ≤ x) ↔ EndsBy s x
  ready_ends s x fit = by_order (nat_lt x (capacity s)) refl
    where
      by_order : (b : Bool) → nat_lt x (capacity s) ≡ b → (slot_count (cond b (tidied s) s) ≤ x) ↔ EndsBy s x
      by_order true below = tidied_ends s x
      by_order false above =
          let fits : slot_count s ≤ x = omega (arith, fit, ltb-false x (capacity s) above) in
          ((λ h. none_past s x fits), (λ h. fits))

  -- where they are more, the free list is tidied
  ready_beyond : (s : ArenaState T) (x : ℕ) → slot_count s ≤ capacity s → (slot_count (ready_for_limit s x) ≤ x → ⊥) → ready_for_limit s x ≡ tidied s
  ready_beyond s x fit = by_order (nat_lt x (capacity s)) refl
    where
      by_order : (b : Bool) → nat_lt x (capacity s) ≡ b → (slot_count (cond b (tidied s) s) ≤ x → ⊥) → cond b (tidied s) s ≡ tidied s
      by_order true below more = refl
      by_order false above more = absurd (more (omega (arith, fit, ltb-false x (capacity s) above)))

  pub refused_ready : {A E : Type 0} (r : Result A E) (s now : ArenaState T) (x : ℕ) → slot_count s ≤ capacity s → (IsOk r ↔ (slot_count (ready_for_limit s x) ≤ x)) → OnErr r (now ≡ ready_for_limit s x) → OnErr r (now ≡ tidied s)
  refused_ready (Ok a) s now x fit variant left = left
  refused_ready (Err e) s now x fit variant left = left ∙ ready_beyond s x fit (λ fits. true≢false (sym (variant.1 fits)))

  -- the capacity under a limit that is set
  pub capacity-with_limit : (s : ArenaState T) (x : ℕ) → capacity (with_limit s x) ≡ min (min s.room x) s.greatest
  capacity-with_limit s x = by_order (nat_lt x (capacity s))
    where
      by_order : (b : Bool) → capacity (record (cond b (tidied s) s) { limit = Some x }) ≡ min (min s.room x) s.greatest
      by_order true = refl
      by_order false = refl

  same_limit : (s : ArenaState T) (most : ℕ) → s.limit ≡ Some most → record s { limit = Some most } ≡ s
  same_limit s most e = ap (λ l. record s { limit = l }) (sym e)

  capacity_within_limit : (s : ArenaState T) (most : ℕ) → s.limit ≡ Some most → capacity s ≤ most
  capacity_within_limit s most e = rw e (omega arith)

  -- a limit that is set back leaves the arena as it was, or tidied
  pub set_back : (s : ArenaState T) (x most : ℕ) → s.limit ≡ Some most → (with_limit (with_limit s x) most ≡ s) ⊎ (with_limit (with_limit s x) most ≡ tidied s)
  set_back s x most e = by_order (nat_lt x (capacity s)) refl
    where
      again : (t : ArenaState T) (b : Bool) → nat_lt most (capacity t) ≡ b → b ≡ false → with_limit t most ≡ record t { limit = Some most }
      again t b is off = rw (is ∙ off) refl

      late : (b : Bool) → (record (cond b (tidied (record s { limit = Some x })) (record s { limit = Some x })) { limit = Some most } ≡ s) ⊎ (record (cond b (tidied (record s { limit = Some x })) (record s { limit = Some x })) { limit = Some most } ≡ tidied s)
      late true = inr (same_limit (tidied s) most e)
      late false = inl (same_limit s most e)

      by_order : (b : Bool) → nat_lt x (capacity s) ≡ b → (with_limit (record (cond b (tidied s) s) { limit = Some x }) most ≡ s) ⊎ (with_limit (record (cond b (tidied s) s) { limit = Some x }) most ≡ tidied s)
      by_order false above = late (nat_lt most (capacity (record s { limit = Some x })))
      by_order true below = inr (again (record (tidied s) { limit = Some x }) (nat_lt most (min (min s.room x) s.greatest)) refl (not_below (nat_lt most (min (min s.room x) s.greatest)) refl) ∙ same_limit (tidied s) most e)
        where
          not_below : (b : Bool) → nat_lt most (min (min s.room x) s.greatest) ≡ b → b ≡ false
          not_below false is = refl
          not_below true is = absurd (omega (arith, ltb-true most (min (min s.room x) s.greatest) is, ltb-true x (capacity s) below, capacity_within_limit s most e))

  pub capacity_set_back : (s : ArenaState T) (x most : ℕ) → s.limit ≡ Some most → capacity (with_limit (with_limit s x) most) ≡ capacity s
  capacity_set_back s x most e = elim (set_back s x most e) [ inl same ↦ ap capacity same | inr order ↦ ap capacity order ]

  -- and an old limit can be set again
  pub set_back_ends : (s : ArenaState T) (x most : ℕ) → IsWellFormed s → s.limit ≡ Some most → EndsBy (with_limit s x) most
  set_back_ends s x most well e = none_past (with_limit s x) most (by_order (nat_lt x (capacity s)))
    where
      by_order : (b : Bool) → slot_count (record (cond b (tidied s) s) { limit = Some x }) ≤ most
      by_order true = omega (arith, trimmed_length s.slots, well.fits, capacity_within_limit s most e)
      by_order false = omega (arith, well.fits, capacity_within_limit s most e)

-- The end of a list of slots, and how the free ones there go.
use Rattle.std.proofs.Common.{◌≡◌, ℕ, zero, suc, ◌+◌, ◌-◌, ◌<◌, ◌≤◌, ◌==◌, true, false, List, length, get_or, Option, Some, None, is_some, IsSome, count_by, cond, refl, sym, ap, ◌∙◌, inl, inr, arith, true≢false}
use Rattle.std.proofs.lemmas.Bool.{cases_lt}
use Rattle.std.proofs.lemmas.Option.{slice_get-get_or}
use Rattle.triple_arena_traits.specs.Items.{item}
use Rattle.triple_arena_traits.specs.ArenaState.{ArenaState, slot_count, is_free, IsWellFormed}
use Rattle.triple_arena_traits.specs.Entries.{entry_in}
use Rattle.triple_arena_traits.specs.FreeList.{trimmed, up_to, without_free_end}
use Rattle.triple_arena_traits.specs.laws.EntryLaws.{entry-trimmed}
use Rattle.triple_arena_traits.specs.laws.ItemLaws.{joined, item_past, item-take}
use Rattle.triple_arena_traits.specs.laws.FreeListLaws.{trimmed_length, trimmed_done, trimmed_last}
use Rattle.triple_arena_traits.specs.laws.LengthLaws.{trimmed_live}
use Rattle.triple_arena_traits.specs.laws.LimitLaws.{ends_within}
use Rattle.triple_arena_traits.proofs.Shortening.{trimmed_front}
use Rattle.triple_arena_traits.proofs.UpTo.{count-up_to, count-past, length_more, up_to_all}

module _ {T : Type 0} where
  -- so many slots there are up to the last entry
  pub end_is : (xs : List (Option (ℕ × T))) (n : ℕ) → IsSome (entry_in xs n) → ((i : ℕ) → n < i → entry_in xs i ≡ None) → n ≡ length (trimmed xs)
  end_is xs n live none =
      let below = ends_within (trimmed xs) n (trimmed_last xs) (λ i h. entry-trimmed xs i ∙ none i h) in
      let above : length (trimmed xs) < n → ⊥ = λ h. true≢false (sym live ∙ ap is_some (sym (entry-trimmed xs n) ∙ ap joined (item_past (trimmed xs) n h))) in
      omega (arith, below, above)

  pub end_none : (xs : List (Option (ℕ × T))) → ((i : ℕ) → entry_in xs i ≡ None) → 0 ≡ length (trimmed xs)
  end_none xs none = omega (arith, ends_within (trimmed xs) 0 (trimmed_last xs) (λ i h. entry-trimmed xs i ∙ none i))

  item-trimmed : (xs : List (Option (ℕ × T))) (i : ℕ) → i ≤ length (trimmed xs) → item (trimmed xs) i ≡ item xs i
  item-trimmed xs i h = ap (λ l. item l i) (trimmed_front xs) ∙ item-take (length (trimmed xs)) xs i h

  -- the slots behind them are free
  past_free : (xs : List (Option (ℕ × T))) (i : ℕ) → length (trimmed xs) < i → i ≤ length xs → is_free (item xs i) ≡ true
  past_free xs zero h l = absurd (omega arith)
  past_free xs (suc k) h l =
      by_slot (get_or xs k None) (slice_get-get_or xs k None (omega arith)) (sym (entry-trimmed xs (suc k)) ∙ ap joined (item_past (trimmed xs) (suc k) h))
    where
      by_slot : (o : Option (ℕ × T)) → item xs (suc k) ≡ Some o → entry_in xs (suc k) ≡ None → is_free (item xs (suc k)) ≡ true
      by_slot None there none = ap is_free there
      by_slot (Some e) there none = absurd (let live = ap joined there in cc)

  -- the free indexes are those of slots
  all_within : (s : ArenaState T) → IsWellFormed s → up_to (slot_count s) s.free ≡ s.free
  all_within s well = up_to_all (slot_count s) s.free (λ i h. rw (item_past s.slots i h) at (well.free_once i))

  -- where the last slot has an entry, there is none to go
  pub without_none : (s : ArenaState T) → IsWellFormed s → is_free (item s.slots (slot_count s)) ≡ false → without_free_end s ≡ s
  without_none s well live = rw (trimmed_done s.slots live, all_within s well) refl

  pub IsWellFormed-without_free_end : (s : ArenaState T) → IsWellFormed s → IsWellFormed (without_free_end s)
  IsWellFormed-without_free_end s well =
      let n = length (trimmed s.slots) in
      let less = trimmed_length s.slots in
      let popped : (i : ℕ) → n < i → i ≤ n + (length s.slots - n) → count_by (λ j. j == i) s.free ≡ 1 =
      λ i h l. well.free_once i ∙ ap (λ b. cond b 1 0) (past_free s.slots i h (omega (arith, less, l))) in
      let all : n + (length s.slots - n) ≡ length s.slots = omega (arith, less) in
      let left = rw (all, all_within s well) at (length_more n (length s.slots - n) s.free popped) in
      record {
        free_once = λ i. elim (cases_lt n i) [
          | inl beyond ↦ rw (item_past (trimmed s.slots) i beyond) (count-past n i s.free beyond)
          | inr within ↦ rw (item-trimmed s.slots i within) (count-up_to n i s.free within ∙ well.free_once i)
        ];
        total = omega (arith, trimmed_live s.slots, well.total, left, less);
        fits = omega (arith, less, well.fits);
      }

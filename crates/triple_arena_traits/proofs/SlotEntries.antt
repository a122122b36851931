-- Entries that are read in the slots of any arena.
use Rattle.std.proofs.Common.{◌≡◌, ℕ, ◌+◌, ◌-◌, ◌<◌, ◌≤◌, Bool, true, false, List, map, length, get_or, Option, Some, None, is_some, IsSome, MatchOption, not, slice_get, refl, sym, ap, subst, ◌∙◌, inl, inr, arith, true≢false}
use Rattle.std.proofs.lemmas.Bool.{cases_lt}
use Rattle.std.proofs.lemmas.List.{length-map}
use Rattle.std.proofs.lemmas.Option.{slice_get_read, slice_get_within}
use Rattle.std.specs.Int.NonZero.{non_zero_usize_get}
use Rattle.std.specs.Option.{option_map}
use Rattle.std.specs.declared.num.NonZeroUsize.{NonZeroUsize}
use Rattle.triple_arena_traits.specs.Items.{item}
use Rattle.triple_arena_traits.specs.Entries.{entry_in}
use Rattle.triple_arena_traits.specs.ArenaState.{is_free}
use Rattle.triple_arena_traits.specs.laws.ItemLaws.{joined, item_at, item_last, item_past, item_within, item-map}
use Rattle.triple_arena_traits.specs.laws.WellFormedLaws.{is_free_not}

module _ {X T : Type 0} (entry : X → Option (ℕ × T)) where
  -- the entry at an index, by the slot that stands there
  pub entry_read : (es : List X) (i : ℕ) (o : Option X) → item es i ≡ o → entry_in (map entry es) i ≡ joined (option_map entry o)
  entry_read es i o read = ap joined (item-map entry es i ∙ ap (option_map entry) read)

  pub entry_item : (es : List X) (i : ℕ) (e : X) → item es i ≡ Some e → entry_in (map entry es) i ≡ entry e
  entry_item es i e found = entry_read es i (Some e) found

  -- an index with an entry has a slot
  pub item_live : (es : List X) (i : ℕ) → IsSome (entry_in (map entry es) i) → IsSome (item es i)
  item_live es i live = by_item (item es i) refl
    where
      by_item : (o : Option X) → item es i ≡ o → IsSome (item es i)
      by_item None h = absurd (true≢false (sym (rw (entry_read es i None h) at live)))
      by_item (Some e) h = ap is_some h

  -- a slot at an index with an entry has this entry
  pub live_slot : (es : List X) (i : ℕ) (e : X) → item es i ≡ Some e → IsSome (entry_in (map entry es) i) → IsSome (entry e)
  live_slot es i e there live = subst (λ o. IsSome o) (entry_item es i e there) live

  -- a slot that is read at a place
  read_item : (es xs : List X) (at : ℕ) (e : X) → xs ≡ es → at < length xs → e ≡ get_or xs at e → item es (at + 1) ≡ Some e
  read_item es xs at e same within read =
      let place : at + 1 - 1 ≡ at = omega arith in
      ap (λ ys. item ys (at + 1)) (sym same) ∙ item_at xs (at + 1) (omega arith) ∙ ap (slice_get xs) place ∙ slice_get_read xs (length xs) at e refl within read

  -- its entry
  pub entry_here : (es xs : List X) (at : ℕ) (e : X) → xs ≡ es → at < length xs → e ≡ get_or xs at e → entry_in (map entry es) (at + 1) ≡ entry e
  entry_here es xs at e same within read = entry_item es (at + 1) e (read_item es xs at e same within read)

  -- an index without an entry, by whether it has a slot
  pub none_at : (es : List X) (i : ℕ) → (0 < i → i ≤ length es → entry_in (map entry es) i ≡ None) → entry_in (map entry es) i ≡ None
  none_at es i inside = by_item (item es i) refl
    where
      by_item : (o : Option X) → item es i ≡ o → entry_in (map entry es) i ≡ None
      by_item None h = entry_read es i None h
      by_item (Some e) h = let within = item_within es i e h in inside within.0 within.1

  pub none_past : (es : List X) (i : ℕ) → length es < i → entry_in (map entry es) i ≡ None
  none_past es i past = none_at es i (λ positive within. absurd (omega (arith, past, within)))

  -- whether the last slot is free, by what is read there
  pub free_end : (es xs : List X) (at : ℕ) (e : X) → xs ≡ es → at + 1 ≡ length xs → e ≡ get_or xs at e → is_free (item (map entry es) (length (map entry es))) ≡ not (is_some (entry e))
  free_end es xs at e same size read =
      let found = read_item es xs at e same (omega (arith, size)) read in
      let end : length (map entry es) ≡ at + 1 = length-map es entry ∙ ap length (sym same) ∙ sym size in
      ap (λ n. is_free (item (map entry es) n)) end ∙ ap is_free (item-map entry es (at + 1) ∙ ap (option_map entry) found) ∙ is_free_not (entry e)

  -- a slot that is popped from a free end is free
  pub free_popped : (es : List X) (e : X) → is_free (item (map entry es) (length (map entry es))) ≡ true → slice_get es (length es - 1) ≡ Some e → is_some (entry e) ≡ false
  free_popped es e free popped =
      let within = slice_get_within es (length es - 1) e popped in
      let found = item_last es (length es) e (omega arith) refl popped in
      not_true (is_some (entry e)) (sym (ap (λ n. is_free (item (map entry es) n)) (length-map es entry) ∙ ap is_free (item-map entry es (length es) ∙ ap (option_map entry) found) ∙ is_free_not (entry e)) ∙ free)
    where
      not_true : (b : Bool) → not b ≡ true → b ≡ false
      not_true true h = absurd (true≢false (sym h))
      not_true false h = refl

-- the greatest index of an entry, from the one that is met first downward
pub greatest_of_all : {T : Type 0} (xs : List (Option (ℕ × T))) (o : Option NonZeroUsize) (to : ℕ) → length xs ≤ to → MatchOption o ((i : ℕ) → i ≤ to → entry_in xs i ≡ None) (λ inx. IsSome (entry_in xs (non_zero_usize_get inx)) × (non_zero_usize_get inx ≤ to) × ((i : ℕ) → i ≤ to → non_zero_usize_get inx < i → entry_in xs i ≡ None)) → MatchOption o ((i : ℕ) → entry_in xs i ≡ None) (λ inx. IsSome (entry_in xs (non_zero_usize_get inx)) × ((i : ℕ) → non_zero_usize_get inx < i → entry_in xs i ≡ None))
greatest_of_all xs None to all none = λ i. elim (cases_lt to i) [
  | inl past ↦ ap joined (item_past xs i (omega (arith, past, all)))
  | inr within ↦ none i within
]
greatest_of_all xs (Some inx) to all found = (
  found.0,
  λ i above. elim (cases_lt to i) [
    | inl past ↦ ap joined (item_past xs i (omega (arith, past, all)))
    | inr within ↦ found.2 i within above
  ],
)

pub none_of : {A : Type 0} (o : Option A) → is_some o ≡ false → o ≡ None
none_of None h = refl
none_of (Some x) h = absurd (true≢false h)

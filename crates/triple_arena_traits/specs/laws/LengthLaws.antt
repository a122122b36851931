-- How many entries each change of an arena leaves.
use Rattle.std.proofs.Common.{◌≡◌, ℕ, zero, suc, ◌+◌, ◌-◌, ◌==◌, true≢false, List, [], ◌∷◌, ◌++◌, take, Option, Some, None, is_some, IsSome, count_by, cond, refl, sym, ap, ◌∙◌, inl, inr, arith}
use Rattle.std.proofs.lemmas.Bool.{cases_eq}
use Rattle.std.proofs.lemmas.List.Sums.{sum_by-set, sum_by_push, sum_by-cons}
use Rattle.std.proofs.lemmas.Option.{slice_get_within, get_or_from_slice_get}
use Rattle.std.specs.Option.{option_map}
use Rattle.triple_arena_stack.specs.StackKind.{StackKind}
use Rattle.triple_arena_traits.specs.Items.{item, with_item}
use Rattle.triple_arena_traits.specs.laws.ItemLaws.{joined, eq_true, eq_false, with_item-past, split_last}
use Rattle.triple_arena_traits.specs.Entries.{entry_in, entry_count}
use Rattle.triple_arena_traits.specs.ArenaState.{ArenaState, arena_len, capacity, slot_count, with_value, IsWellFormed}
use Rattle.triple_arena_traits.specs.Insertion.{inserted_among, inserted}
use Rattle.triple_arena_traits.specs.Ending.{removed, invalidated}
use Rattle.triple_arena_traits.specs.FreeList.{put_before, trimmed, tidied, without_free_end}
use Rattle.triple_arena_traits.specs.Reallocation.{reallocated, grown}
use Rattle.triple_arena_traits.specs.laws.EntryLaws.{by_case, first_free}

module _ {T : Type 0} where
  -- the count of entries after a write under an index
  pub count-with_item : (xs : List (Option (ℕ × T))) (i : ℕ) (old new : Option (ℕ × T)) → item xs i ≡ Some old → count_by is_some (with_item xs i new) + cond (is_some old) 1 0 ≡ count_by is_some xs + cond (is_some new) 1 0
  count-with_item xs zero old new found = absurd (cc)
  count-with_item xs (suc k) old new found =
      let within = slice_get_within xs k old found in
      rw (get_or_from_slice_get xs k old None found) at (sum_by-set (λ o. cond (is_some o) 1 0) xs k new None within)

  -- an entry that is changed is as many
  len_changed : (change : ℕ × T → ℕ × T) (xs : List (Option (ℕ × T))) (i : ℕ) → entry_count (with_item xs i (option_map change (entry_in xs i))) ≡ entry_count xs
  len_changed change xs i = by_item (item xs i) refl
    where
      by_item : (o : Option (Option (ℕ × T))) → item xs i ≡ o → entry_count (with_item xs i (option_map change (joined o))) ≡ entry_count xs
      by_item None e = ap (count_by is_some) (with_item-past xs i None e)
      by_item (Some None) e = omega (arith, count-with_item xs i None None e)
      by_item (Some (Some x)) e = omega (arith, count-with_item xs i (Some x) (Some (change x)) e)

  pub len-with_value : (s : ArenaState T) (i : ℕ) (v : T) → arena_len (with_value s i v) ≡ arena_len s
  len-with_value s i v = len_changed (λ e. (e.0, v)) s.slots i

  pub len-invalidated : (raise : ℕ → ℕ) (old : ArenaState T) (i : ℕ) (new : ArenaState T) → new ≡ invalidated raise old i → arena_len new ≡ arena_len old
  len-invalidated raise old i new is = ap arena_len is ∙ len_changed (λ e. (raise old.counter, e.1)) old.slots i

  -- an index with an entry has a slot with it
  pub live_slot : (xs : List (Option (ℕ × T))) (i : ℕ) → IsSome (entry_in xs i) → (e : ℕ × T) × (item xs i ≡ Some (Some e))
  live_slot xs i live = by_item (item xs i) refl live
    where
      by_item : (o : Option (Option (ℕ × T))) → item xs i ≡ o → IsSome (joined o) → (e : ℕ × T) × (item xs i ≡ Some (Some e))
      by_item None is some = absurd (true≢false (sym some))
      by_item (Some None) is some = absurd (true≢false (sym some))
      by_item (Some (Some e)) is some = (e, is)

  len_taken : (raise : ℕ → ℕ) (s : ArenaState T) (i : ℕ) (e : ℕ × T) → item s.slots i ≡ Some (Some e) → arena_len (removed raise s i) + 1 ≡ arena_len s
  len_taken raise s i e found =
      elim (cases_eq i (slot_count s)) [
        | inl same ↦
            let rest : List (Option (ℕ × T)) = take (slot_count s - 1) s.slots in
            let split : s.slots ≡ rest ++ Some e ∷ [] = split_last s.slots (Some e) (ap (item s.slots) (sym same) ∙ found) in
            let fewer = ap (count_by is_some) split ∙ sum_by_push (λ o. cond (is_some o) 1 0) rest (Some e) in
            rw (eq_true i (slot_count s) same) (sym fewer)
        | inr other ↦ rw (eq_false i (slot_count s) other) (omega (arith, count-with_item s.slots i (Some e) None found))
      ]

  pub len-removed : (raise : ℕ → ℕ) (old : ArenaState T) (i : ℕ) (new : ArenaState T) → new ≡ removed raise old i → IsSome (entry_in old.slots i) → arena_len new + 1 ≡ arena_len old
  len-removed raise old i new is live =
      let found = live_slot old.slots i live in
      ap (λ s. arena_len s + 1) is ∙ len_taken raise old i found.0 found.1

  before_live : (x : Option (ℕ × T)) (ys : List (Option (ℕ × T))) → count_by is_some (put_before x ys) ≡ cond (is_some x) 1 0 + count_by is_some ys
  before_live (Some e) ys = sum_by-cons (λ o. cond (is_some o) 1 0) (Some e) ys
  before_live None [] = refl
  before_live None (y ∷ ys) = sum_by-cons (λ o. cond (is_some o) 1 0) None (y ∷ ys)

  -- the slots up to the last one with an entry have as many
  pub trimmed_live : (xs : List (Option (ℕ × T))) → count_by is_some (trimmed xs) ≡ count_by is_some xs
  trimmed_live [] = refl
  trimmed_live (x ∷ xs) = omega (arith, before_live x (trimmed xs), trimmed_live xs, sum_by-cons (λ o. cond (is_some o) 1 0) x xs)

  pub len-tidied : (old new : ArenaState T) → new ≡ tidied old → arena_len new ≡ arena_len old
  len-tidied old new is = ap arena_len is ∙ trimmed_live old.slots

  pub len-without_free_end : (old new : ArenaState T) → new ≡ without_free_end old → arena_len new ≡ arena_len old
  len-without_free_end old new is = ap arena_len is ∙ trimmed_live old.slots

  pub len-reallocated : (kind : StackKind) (old : ArenaState T) (m : ℕ) (new : ArenaState T) → new ≡ reallocated kind old m → arena_len new ≡ arena_len old
  len-reallocated kind old m new is = ap arena_len is ∙ trimmed_live old.slots

  pub len-inserted : (s : ArenaState T) (v : T) → IsWellFormed s → arena_len (inserted s v) ≡ arena_len s + 1
  len-inserted s v well = by_free s.free refl
    where
      by_free : (f : List ℕ) → s.free ≡ f → arena_len (inserted_among f s v) ≡ arena_len s + 1
      by_free [] e = sum_by_push (λ o. cond (is_some o) 1 0) s.slots (Some (s.counter, v))
      by_free (i ∷ rest) e = omega (arith, count-with_item s.slots i None (Some (s.counter, v)) (first_free s i rest well e).0)

  pub len-grown : (kind : StackKind) (s : ArenaState T) → arena_len (grown kind s) ≡ arena_len s
  len-grown kind s = by_case arena_len (arena_len s == capacity s) _ _ (arena_len s) refl refl

-- What each step of a direct arena leaves of its entries.
use Rattle.std.proofs.Common.{◌≡◌, ℕ, zero, suc, ◌+◌, ◌≤◌, List, [], ◌∷◌, length, take, Option, Some, None, is_some, IsSome, count_by, cond, max, slice_get, refl, sym, ap, ◌∙◌, arith, true≢false}
use Rattle.std.proofs.lemmas.List.Sums.{sum_by-cons}
use Rattle.std.specs.Option.{option_map}
use Rattle.triple_arena_stack.specs.StackKind.{StackKind}
use Rattle.triple_arena_traits.specs.Items.{item, with_item}
use Rattle.triple_arena_traits.specs.laws.ItemLaws.{joined, with_item-past}
use Rattle.triple_arena_traits.specs.Entries.{entry_in, entry_count, ChangesAt, KeepsEntries}
use Rattle.triple_arena_traits.specs.FreeList.{put_before, trimmed}
use Rattle.triple_arena_traits.specs.laws.EntryLaws.{changes_at}
use Rattle.triple_arena_traits.specs.laws.LengthLaws.{count-with_item}
use Rattle.triple_arena_traits.specs.FreeEnd.{shortened}
use Rattle.triple_arena_direct_arena.specs.DirectState.{DirectState, generation_of, direct_len, direct_with_value, direct_removed, direct_cleared, direct_shortened, direct_reallocated}

module _ {T : Type 0} where
  -- an entry with its own generation is the entry
  same_entry : (o : Option (ℕ × T)) → option_map (λ (e : ℕ × T). (generation_of o, e.1)) o ≡ o
  same_entry None = refl
  same_entry (Some e) = refl

  pub slots-kept : (old : DirectState T) (i : ℕ) (new : DirectState T) → new ≡ old → ChangesAt old.slots i (option_map (λ (e : ℕ × T). (generation_of (entry_in old.slots i), e.1)) (entry_in old.slots i)) new.slots
  slots-kept old i new is =
      record {
        there = ap (λ (s : DirectState T). entry_in s.slots i) is ∙ sym (same_entry (entry_in old.slots i));
        others = λ j other. ap (λ (s : DirectState T). entry_in s.slots j) is;
      }

  pub len-with_value : (s : DirectState T) (i : ℕ) (value : T) → direct_len (direct_with_value s i value) ≡ direct_len s
  len-with_value s i value = by_item (item s.slots i) refl
    where
      by_item : (o : Option (Option (ℕ × T))) → item s.slots i ≡ o → entry_count (with_item s.slots i (option_map (λ (e : ℕ × T). (e.0, value)) (joined o))) ≡ entry_count s.slots
      by_item None e = ap (count_by is_some) (with_item-past s.slots i None e)
      by_item (Some None) e = omega (arith, count-with_item s.slots i None None e)
      by_item (Some (Some x)) e = omega (arith, count-with_item s.slots i (Some x) (Some (x.0, value)) e)

  pub slots-removed : (old : DirectState T) (i : ℕ) (new : DirectState T) → new ≡ direct_removed old i → ChangesAt old.slots i None new.slots
  slots-removed old i new is = rw is (changes_at old.slots i None (λ h. refl))

  pub len_taken : (s : DirectState T) (i : ℕ) → IsSome (entry_in s.slots i) → direct_len (direct_removed s i) + 1 ≡ direct_len s
  len_taken s i live = by_item (item s.slots i) refl live
    where
      by_item : (o : Option (Option (ℕ × T))) → item s.slots i ≡ o → IsSome (joined o) → direct_len (direct_removed s i) + 1 ≡ direct_len s
      by_item None is some = absurd (true≢false (sym some))
      by_item (Some None) is some = absurd (true≢false (sym some))
      by_item (Some (Some e)) is some = omega (arith, count-with_item s.slots i (Some e) None is)

  pub len-removed : (old : DirectState T) (i : ℕ) (new : DirectState T) → new ≡ direct_removed old i → IsSome (entry_in old.slots i) → direct_len new + 1 ≡ direct_len old
  len-removed old i new is live = ap (λ s. direct_len s + 1) is ∙ len_taken old i live

  pub slots-cleared : (old new : DirectState T) → new ≡ direct_cleared old → (i : ℕ) → entry_in new.slots i ≡ None
  slots-cleared old new is zero = refl
  slots-cleared old new is (suc k) = ap (λ (s : DirectState T). entry_in s.slots (suc k)) is

  -- past the last entry there is none
  front_before : (x : Option (ℕ × T)) (ys zs : List (Option (ℕ × T))) (n k : ℕ) → length (put_before x ys) ≤ suc n → (length ys ≤ n → joined (slice_get (take n zs) k) ≡ joined (slice_get zs k)) → joined (slice_get (take (suc n) (x ∷ zs)) (suc k)) ≡ joined (slice_get (x ∷ zs) (suc k))
  front_before (Some e) ys zs n k h same = same (omega arith)
  front_before None [] zs n k h same = same (omega arith)
  front_before None (y ∷ ys) zs n k h same = same (omega arith)

  nothing_first : (x : Option (ℕ × T)) (ys : List (Option (ℕ × T))) → length (put_before x ys) ≤ 0 → (x ≡ None) × (length ys ≤ 0)
  nothing_first (Some e) ys h = absurd (omega arith)
  nothing_first None [] h = (refl, omega arith)
  nothing_first None (y ∷ ys) h = absurd (omega arith)

  front_entry : (n : ℕ) (xs : List (Option (ℕ × T))) (k : ℕ) → length (trimmed xs) ≤ n → joined (slice_get (take n xs) k) ≡ joined (slice_get xs k)
  front_entry zero [] k h = refl
  front_entry zero (x ∷ xs) zero h = sym (nothing_first x (trimmed xs) h).0
  front_entry zero (x ∷ xs) (suc k) h = front_entry zero xs k (nothing_first x (trimmed xs) h).1
  front_entry (suc n) [] k h = refl
  front_entry (suc n) (x ∷ xs) zero h = refl
  front_entry (suc n) (x ∷ xs) (suc k) h = front_before x (trimmed xs) xs n k h (λ less. front_entry n xs k less)

  front_count : (n : ℕ) (xs : List (Option (ℕ × T))) → length (trimmed xs) ≤ n → entry_count (take n xs) ≡ entry_count xs
  front_count zero [] h = refl
  front_count zero (x ∷ xs) h =
      let none = nothing_first x (trimmed xs) h in
      omega (arith, sum_by-cons (λ o. cond (is_some o) 1 0) x xs, ap {B = ℕ} (λ o. cond (is_some o) 1 0) none.0, front_count zero xs none.1)
  front_count (suc n) [] h = refl
  front_count (suc n) (x ∷ xs) h =
      omega (arith, sum_by-cons (λ o. cond (is_some o) 1 0) x xs, sum_by-cons (λ o. cond (is_some o) 1 0) x (take n xs), front_count n xs (shorter x (trimmed xs) h))
    where
      shorter : (x : Option (ℕ × T)) (ys : List (Option (ℕ × T))) → length (put_before x ys) ≤ suc n → length ys ≤ n
      shorter (Some e) ys h = omega arith
      shorter None [] h = omega arith
      shorter None (y ∷ ys) h = omega arith

  -- free slots at the end that are taken away leave every entry
  entry-shortened : (m : ℕ) (xs : List (Option (ℕ × T))) (i : ℕ) → entry_in (shortened m xs) i ≡ entry_in xs i
  entry-shortened m xs zero = refl
  entry-shortened m xs (suc k) = front_entry (max (length (trimmed xs)) m) xs k (omega arith)

  pub count-shortened : (m : ℕ) (xs : List (Option (ℕ × T))) → entry_count (shortened m xs) ≡ entry_count xs
  count-shortened m xs = front_count (max (length (trimmed xs)) m) xs (omega arith)

  pub slots-tidied : (old : DirectState T) (m : ℕ) (new : DirectState T) → new ≡ direct_shortened old m → KeepsEntries old.slots new.slots
  slots-tidied old m new is i = ap (λ (s : DirectState T). entry_in s.slots i) is ∙ entry-shortened m old.slots i

  pub len-tidied : (old : DirectState T) (m : ℕ) (new : DirectState T) → new ≡ direct_shortened old m → direct_len new ≡ direct_len old
  len-tidied old m new is = ap direct_len is ∙ count-shortened m old.slots

  pub slots-reallocated : (kind : StackKind) (old : DirectState T) (m : ℕ) (new : DirectState T) → new ≡ direct_reallocated kind old m → KeepsEntries old.slots new.slots
  slots-reallocated kind old m new is i = ap (λ (s : DirectState T). entry_in s.slots i) is ∙ entry-shortened m old.slots i

  pub len-reallocated : (kind : StackKind) (old : DirectState T) (m : ℕ) (new : DirectState T) → new ≡ direct_reallocated kind old m → direct_len new ≡ direct_len old
  len-reallocated kind old m new is = ap direct_len is ∙ count-shortened m old.slots

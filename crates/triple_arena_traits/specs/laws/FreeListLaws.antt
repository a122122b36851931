-- Laws of the tidied free list: the slots without the free ones at their end, and the gaps that are left.
use Rattle.std.proofs.Common.{◌≡◌, ℕ, zero, suc, ◌+◌, ◌-◌, ◌<◌, ◌≤◌, ◌==◌, true, false, List, [], ◌∷◌, ◌++◌, length, take, Option, Some, None, is_some, count_by, cond, slice_get, refl, sym, ap, ◌∙◌, arith, true≢false}
use Rattle.std.proofs.lemmas.List.Sums.{sum_by-cons}
use Rattle.triple_arena_traits.specs.Items.{item}
use Rattle.triple_arena_traits.specs.ArenaState.{ArenaState, is_free}
use Rattle.triple_arena_traits.specs.FreeList.{put_before, trimmed, gaps, tidied, IsRising, IsTidied}
use Rattle.triple_arena_traits.specs.laws.EntryLaws.{entry-trimmed, count_head}
use Rattle.triple_arena_traits.specs.laws.ItemLaws.{item_within, split_last}
use Rattle.triple_arena_traits.specs.laws.WellFormedLaws.{count_tail}

module _ {T : Type 0} where
  -- a free slot at the end makes no difference
  trimmed_push : (xs : List (Option (ℕ × T))) → trimmed (xs ++ None ∷ []) ≡ trimmed xs
  trimmed_push [] = refl
  trimmed_push (x ∷ xs) = ap (put_before x) (trimmed_push xs)

  pub vacant_is : (o : Option (Option (ℕ × T))) → is_free o ≡ true → o ≡ Some None
  vacant_is None e = absurd (true≢false (sym e))
  vacant_is (Some None) e = refl
  vacant_is (Some (Some x)) e = absurd (true≢false (sym e))

  pub trimmed_popped : (xs : List (Option (ℕ × T))) → is_free (item xs (length xs)) ≡ true → trimmed (take (length xs - 1) xs) ≡ trimmed xs
  trimmed_popped xs free =
      let found = vacant_is (item xs (length xs)) free in
      let within = item_within xs (length xs) None found in
      let split = split_last xs None found in
      sym (ap trimmed split ∙ trimmed_push (take (length xs - 1) xs))

  -- with none there the slots are trimmed
  pub trimmed_done : (xs : List (Option (ℕ × T))) → is_free (item xs (length xs)) ≡ false → trimmed xs ≡ xs
  trimmed_done [] live = refl
  trimmed_done (None ∷ []) live = absurd (true≢false live)
  trimmed_done (Some e ∷ []) live = refl
  trimmed_done (None ∷ y ∷ ys) live = ap (put_before None) (trimmed_done (y ∷ ys) live)
  trimmed_done (Some e ∷ y ∷ ys) live = ap (put_before (Some e)) (trimmed_done (y ∷ ys) live)

  before_length : (x : Option (ℕ × T)) (ys : List (Option (ℕ × T))) → length (put_before x ys) ≤ 1 + length ys
  before_length (Some e) ys = omega arith
  before_length None [] = omega arith
  before_length None (y ∷ ys) = omega arith

  pub trimmed_length : (xs : List (Option (ℕ × T))) → length (trimmed xs) ≤ length xs
  trimmed_length [] = omega arith
  trimmed_length (x ∷ xs) = omega (arith, before_length x (trimmed xs), trimmed_length xs)

IsRising-lower : (low high : ℕ) (xs : List ℕ) → low ≤ high → IsRising high xs → IsRising low xs
IsRising-lower low high [] h r = tt
IsRising-lower low high (i ∷ rest) h r = (omega (arith, r.0), r.1)

module _ {T : Type 0} where
  gaps_rising : (at : ℕ) (xs : List (Option (ℕ × T))) → IsRising at (gaps at xs)
  gaps_rising at [] = tt
  gaps_rising at (None ∷ xs) = (omega arith, gaps_rising (at + 1) xs)
  gaps_rising at (Some e ∷ xs) = IsRising-lower at (at + 1) (gaps (at + 1) xs) (omega arith) (gaps_rising (at + 1) xs)

  before_last : (x : Option (ℕ × T)) (ys : List (Option (ℕ × T))) → is_free (item ys (length ys)) ≡ false → is_free (item (put_before x ys) (length (put_before x ys))) ≡ false
  before_last (Some e) [] last = refl
  before_last (Some e) (y ∷ ys) last = last
  before_last None [] last = refl
  before_last None (y ∷ ys) last = last

  pub trimmed_last : (xs : List (Option (ℕ × T))) → is_free (item (trimmed xs) (length (trimmed xs))) ≡ false
  trimmed_last [] = refl
  trimmed_last (x ∷ xs) = before_last x (trimmed xs) (trimmed_last xs)

  pub IsTidied-tidied : (s : ArenaState T) → IsTidied s (tidied s)
  IsTidied-tidied s = record { entries = entry-trimmed s.slots; ends_live = trimmed_last s.slots; rising = gaps_rising 1 (trimmed s.slots) }

  -- the gaps are above the indexes before the first slot
  pub gaps_above : (at : ℕ) (xs : List (Option (ℕ × T))) (k : ℕ) → k < at → count_by (λ j. j == k) (gaps at xs) ≡ 0
  gaps_above at [] k h = refl
  gaps_above at (None ∷ xs) k h = count_tail at k (gaps (at + 1) xs) (λ e. omega arith) ∙ gaps_above (at + 1) xs k (omega arith)
  gaps_above at (Some e ∷ xs) k h = gaps_above (at + 1) xs k (omega arith)

  -- and each is one of them once
  gaps_once : (at : ℕ) (xs : List (Option (ℕ × T))) (k i : ℕ) → i ≡ at + k → count_by (λ j. j == i) (gaps at xs) ≡ cond (is_free (slice_get xs k)) 1 0
  gaps_once at [] k i e = refl
  gaps_once at (None ∷ xs) zero i e =
      let same : i ≡ at = omega arith in
      rw same (count_head at (gaps (at + 1) xs) ∙ ap (λ n. 1 + n) (gaps_above (at + 1) xs at (omega arith)))
  gaps_once at (None ∷ xs) (suc k) i e = count_tail at i (gaps (at + 1) xs) (λ h. omega arith) ∙ gaps_once (at + 1) xs k i (omega arith)
  gaps_once at (Some x ∷ xs) zero i e = gaps_above (at + 1) xs i (omega arith)
  gaps_once at (Some x ∷ xs) (suc k) i e = gaps_once (at + 1) xs k i (omega arith)

  pub gaps_free : (xs : List (Option (ℕ × T))) (i : ℕ) → count_by (λ j. j == i) (gaps 1 xs) ≡ cond (is_free (item xs i)) 1 0
  gaps_free xs zero = gaps_above 1 xs 0 (omega arith)
  gaps_free xs (suc k) = gaps_once 1 xs k (suc k) (omega arith)

  pub gaps_total : (at : ℕ) (xs : List (Option (ℕ × T))) → count_by is_some xs + length (gaps at xs) ≡ length xs
  gaps_total at [] = refl
  gaps_total at (None ∷ xs) = omega (arith, gaps_total (at + 1) xs, sum_by-cons (λ o. cond (is_some o) 1 0) None xs)
  gaps_total at (Some e ∷ xs) = omega (arith, gaps_total (at + 1) xs, sum_by-cons (λ o. cond (is_some o) 1 0) (Some e) xs)

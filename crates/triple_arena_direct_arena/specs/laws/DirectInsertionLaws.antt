-- What an insertion under a pointer leaves of the entries of a direct arena.
use Rattle.std.proofs.Common.{◌≡◌, ℕ, zero, suc, ◌+◌, ◌-◌, ◌<◌, List, [], ◌∷◌, ◌++◌, length, replicate, Option, Some, None, is_some, cond, max, slice_get, refl, ap, ◌∙◌, arith}
use Rattle.std.proofs.lemmas.List.{length-append, length-replicate}
use Rattle.std.proofs.lemmas.List.Sums.{sum_by-append, sum_by-cons}
use Rattle.triple_arena_ptr.specs.Pointers.{Pointer}
use Rattle.triple_arena_traits.specs.Items.{item}
use Rattle.triple_arena_traits.specs.laws.ItemLaws.{joined}
use Rattle.triple_arena_traits.specs.Entries.{entry_in, entry_count, ChangesAt}
use Rattle.triple_arena_traits.specs.laws.EntryLaws.{changes_at}
use Rattle.triple_arena_traits.specs.laws.LengthLaws.{count-with_item}
use Rattle.triple_arena_traits.specs.DirectInsertion.{IsVacant}
use Rattle.triple_arena_traits.specs.FreeEnd.{extended}
use Rattle.triple_arena_direct_arena.specs.DirectState.{DirectState, direct_len, direct_capacity, inserted_at}

none_in_gap : (T : Type 0) (n : ℕ) → entry_count (replicate {A = Option (ℕ × T)} n None) ≡ 0
none_in_gap T zero = refl
none_in_gap T (suc n) =
    omega (arith, sum_by-cons (λ (o : Option (ℕ × T)). cond (is_some o) 1 0) None (replicate n None), none_in_gap T n)

module _ {T : Type 0} where
  in_gap : (n k : ℕ) → joined (slice_get (replicate {A = Option (ℕ × T)} n None) k) ≡ None
  in_gap zero k = refl
  in_gap (suc n) zero = refl
  in_gap (suc n) (suc k) = in_gap n k

  before_gap : (xs : List (Option (ℕ × T))) (n k : ℕ) → joined (slice_get (xs ++ replicate n None) k) ≡ joined (slice_get xs k)
  before_gap [] n k = in_gap n k
  before_gap (x ∷ xs) n zero = refl
  before_gap (x ∷ xs) n (suc k) = before_gap xs n k

  -- free slots after them leave every entry
  pub entry-extended : (xs : List (Option (ℕ × T))) (n i : ℕ) → entry_in (extended xs n) i ≡ entry_in xs i
  entry-extended xs n zero = refl
  entry-extended xs n (suc k) = before_gap xs (n - length xs) k

  count-extended : (xs : List (Option (ℕ × T))) (n : ℕ) → entry_count (extended xs n) ≡ entry_count xs
  count-extended xs n =
      omega (arith, sum_by-append (λ (o : Option (ℕ × T)). cond (is_some o) 1 0) xs (replicate (n - length xs) None), none_in_gap T (n - length xs))

  pub length-extended : (xs : List (Option (ℕ × T))) (n : ℕ) → length (extended xs n) ≡ max (length xs) n
  length-extended xs n =
      omega (arith, length-append xs (replicate (n - length xs) None), length-replicate {A = Option (ℕ × T)} (n - length xs) None)

  slot_inside : (xs : List (Option (ℕ × T))) (k : ℕ) → k < length xs → slice_get xs k ≡ Some (joined (slice_get xs k))
  slot_inside [] k h = absurd (omega arith)
  slot_inside (x ∷ xs) zero h = refl
  slot_inside (x ∷ xs) (suc k) h = slot_inside xs k (omega arith)

  -- there is a slot at each index up to so many, with the entry that stands there
  pub slot-extended : (xs : List (Option (ℕ × T))) (i : ℕ) → 0 < i → item (extended xs i) i ≡ Some (entry_in xs i)
  slot-extended xs zero positive = absurd (omega arith)
  slot-extended xs (suc k) positive =
      slot_inside (extended xs (suc k)) k (omega (arith, length-extended xs (suc k)))
      ∙ ap (λ o. Some o) (entry-extended xs (suc k) (suc k))

  pub slots-inserted_at : (s : DirectState T) (p : Pointer) (value : T) → 0 < p.0 → ChangesAt s.slots p.0 (Some (p.1, value)) (inserted_at s p value).slots
  slots-inserted_at s p value positive =
      let slot = slot-extended s.slots p.0 positive in
      let put = changes_at (extended s.slots p.0) p.0 (Some (p.1, value)) (λ none. absurd (cc)) in
      record {
        there = put.there;
        others = λ j other. put.others j other ∙ entry-extended s.slots p.0 j;
      }

  pub len-inserted_at : (s : DirectState T) (p : Pointer) (value : T) → 0 < p.0 → IsVacant s.slots (direct_capacity s) p.0 → direct_len (inserted_at s p value) ≡ direct_len s + 1
  len-inserted_at s p value positive vacant =
      let slot = slot-extended s.slots p.0 positive ∙ ap (λ o. Some o) vacant.free in
      omega (arith, count-with_item (extended s.slots p.0) p.0 None (Some (p.1, value)) slot, count-extended s.slots p.0)

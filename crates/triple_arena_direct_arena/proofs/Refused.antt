-- What is past the greatest index, and what is refused for it.
use Rattle.std.proofs.Common.{◌≡◌, ℕ, ◌<◌, ◌≤◌, ◌⊎◌, Option, Some, None, IsSome, MatchOption, Result, Ok, Err, refl, ap, ◌∙◌, arith}
use Rattle.std.specs.Int.NonZero.{non_zero_usize_get}
use Rattle.std.specs.declared.num.NonZeroUsize.{NonZeroUsize}
use Rattle.triple_arena_traits.specs.Entries.{entry_in}
use Rattle.triple_arena_traits.specs.laws.ItemLaws.{joined, item_past}
use Rattle.triple_arena_traits.specs.laws.WalkLaws.{live_within}
use Rattle.std.specs.Prelude.{IsErrAnd, ok_or}
use Rattle.triple_arena_base.specs.declared.errors.GetDisjointMutError.{GetDisjointMutError}
use Rattle.triple_arena_base.specs.declared.errors.GetDisjointMutError.TheVariants.{IndexOutOfBounds}
use Rattle.triple_arena_base.specs.declared.errors.ReallocationError.{ReallocationError}
use Rattle.triple_arena_base.specs.declared.errors.ReallocationError.TheVariants.{AllocError, BeyondMaxCapacity}
use Rattle.triple_arena_stack.specs.Disjoint.{DisjointAnswer}
use Rattle.triple_arena_traits.proofs.Refused.{err_is}
use Rattle.triple_arena_direct_arena.specs.DirectState.{DirectState, direct_slot_count}
use Rattle.triple_arena_direct_arena.specs.DirectLayout.{Counts}

module _ {T : Type 0} where
  -- what is past the greatest index is past the slots
  pub past_slots : (len : ℕ) (s t : DirectState T) (n : ℕ) → Counts len t → t ≡ s → t.greatest < n → direct_slot_count s < n
  past_slots len s t n counts is past = omega (arith, counts.fits, past, ap direct_slot_count is)

  -- and no entry stands there
  pub none_past : (len : ℕ) (s t : DirectState T) (n : ℕ) → Counts len t → t ≡ s → t.greatest < n → entry_in s.slots n ≡ None
  none_past len s t n counts is past = ap joined (item_past s.slots n (past_slots len s t n counts is past))

  -- so where one stands, the index is not past it
  pub entry_indexed : (len : ℕ) (s t : DirectState T) (n : ℕ) → Counts len t → t ≡ s → IsSome (entry_in s.slots n) → n ≤ t.greatest
  entry_indexed len s t n counts is live =
      omega (arith, (live_within s.slots n live).1, counts.fits, ap direct_slot_count is)

pub below_above : (a b : ℕ) → b < a → a ≤ b → ⊥
below_above a b below above = omega (arith, below, above)

-- a refusal of memory is none for the limit
pub not_beyond : {A : Type 0} → ◌≡◌ {A = Result A ReallocationError} (Err AllocError) (Err BeyondMaxCapacity) → ⊥
not_beyond h = cc

-- the number of an index that was found
pub number_found : {E : Type 0} (r : Option NonZeroUsize) (inx : NonZeroUsize) (e : E) (most n : ℕ) → Ok inx ≡ ok_or r e → MatchOption r (most < n) (λ i. non_zero_usize_get i ≡ n) → non_zero_usize_get inx ≡ n
number_found None inx e most n is h = absurd (cc)
number_found (Some i) inx e most n is h = let same : inx ≡ i = cc in ap non_zero_usize_get same ∙ h

-- two indexes are refused where one of them is no number
pub out_of_bounds : {A B : Type 0} (r : Option B) (e : GetDisjointMutError) (answer : Result A GetDisjointMutError) (len i j : ℕ) → IsErrAnd answer (λ v. v ≡ e) → Err e ≡ ok_or r IndexOutOfBounds → (r ≡ None → (len < i) ⊎ (len < j)) → DisjointAnswer len i j answer
out_of_bounds (Some x) e answer len i j is was past = absurd (cc)
out_of_bounds None e answer len i j is was past = let same : e ≡ IndexOutOfBounds = cc in rw (err_is answer e is, same) (past refl)

-- Two items that are written at once.
use Rattle.std.specs.Prelude.{◌≡◌, ℕ, ◌<◌, ◌≤◌, ◌≢◌, ◌⊎◌, List, Option, Some, Result, Ok, Err, slice_set}
use Rattle.std.specs.Borrow.{MutBor}
use Rattle.std.specs.Fn.{Once}
use Rattle.triple_arena_base.specs.declared.errors.GetDisjointMutError.{GetDisjointMutError}
use Rattle.triple_arena_base.specs.declared.errors.GetDisjointMutError.TheVariants.{IndexOutOfBounds, OverlappingIndices}

-- two indices, counted from 1, name two of so many items
abbrev pub AreTwo : (len first second : ℕ) → Type 0
AreTwo len first second = (first ≤ len) × (second ≤ len) × (first ≢ second)

-- why two indices, counted from 1, are refused at so many items
abbrev pub IsRefused : (len first second : ℕ) → GetDisjointMutError → Type 0
IsRefused len first second IndexOutOfBounds = (len < first) ⊎ (len < second)
IsRefused len first second OverlappingIndices = (first ≤ len) × (second ≤ len) × (first ≡ second)

-- the answer on two indices, counted from 1, at so many items
abbrev pub DisjointAnswer : (len first second : ℕ) {A : Type 0} → Result A GetDisjointMutError → Type 0
DisjointAnswer len first second (Ok done) = AreTwo len first second
DisjointAnswer len first second (Err e) = IsRefused len first second e

-- the list with two other items
abbrev pub set_both : {A : Type 0} (xs : List A) (i j : ℕ) (x y : A) → List A
set_both xs i j x y = slice_set (slice_set xs i x) j y

module _ {F A R : Type 0} (g : Once F (MutBor A × (MutBor A × Unit {0})) (R × (MutBor A × (MutBor A × Unit {0})))) (f : F) where
  -- f may be called at a `&mut` to x and one to y
  abbrev pub FnOnceTakesAtPairMut : A → A → Type 0
  FnOnceTakesAtPairMut x y = (p q : MutBor A) → p.now ≡ x → q.now ≡ y → g.pre f (p, (q, tt))

  -- such a call may give r, and leave x' and y' there
  pub record FnOnceReturnsAtPairMut (x y : A) (r : R) (x' y' : A) : Type 0 where
    pub first : MutBor A
    pub second : MutBor A
    pub shows : (first.now ≡ x) × (second.now ≡ y)
    pub left : MutBor A × (MutBor A × Unit {0})
    pub met : g.post f (first, (second, tt)) (r, left)
    pub leaves : (left.0.now ≡ x') × (left.1.0.now ≡ y')

  -- f may be called at two values, where both are there
  abbrev pub MayWork : Option A → Option A → Type 0
  MayWork first second = (x y : A) → first ≡ Some x → second ≡ Some y → FnOnceTakesAtPairMut x y

  -- a call of f at two values, and what it gave; this holds of what it left there
  pub record Worked (first second : Option A) (gave : R) (Left : A → A → Type 0) : Type 0 where
    pub first_value : A
    pub second_value : A
    pub first_left : A
    pub second_left : A
    pub first_is : first ≡ Some first_value
    pub second_is : second ≡ Some second_value
    pub called : FnOnceReturnsAtPairMut first_value second_value gave first_left second_left
    pub left : Left first_left second_left

-- Two values of an arena that are written at once.
use Rattle.std.specs.Prelude.{◌≡◌, ℕ, ◌≢◌, ◌⊎◌, List, length, Option, Some, None, IsSome, Result, Ok, Err}
use Rattle.std.specs.Borrow.{MutBor}
use Rattle.std.specs.Fn.{Once}
use Rattle.std.specs.Option.{option_map}
use Rattle.triple_arena_base.specs.declared.errors.GetDisjointMutError.{GetDisjointMutError}
use Rattle.triple_arena_base.specs.declared.errors.GetDisjointMutError.TheVariants.{IndexOutOfBounds, OverlappingIndices}
use Rattle.triple_arena_ptr.specs.Pointers.{Pointer}
use Rattle.triple_arena_stack.specs.Disjoint.{AreTwo, IsRefused, FnOnceTakesAtPairMut, FnOnceReturnsAtPairMut}
use Rattle.triple_arena_traits.specs.Entries.{entry_in, look_up}

module _ {T : Type 0} where
  -- the value of an entry, if there is one
  abbrev pub value_of : Option (ℕ × T) → Option T
  value_of entry = option_map (λ e. e.1) entry

  -- the answer on two pointers: both are valid and name two entries, one is invalid, or both are one valid pointer
  abbrev pub DisjointPtrAnswer : List (Option (ℕ × T)) → Pointer → Pointer → {A : Type 0} → Result A GetDisjointMutError → Type 0
  DisjointPtrAnswer slots p q (Ok done) = IsSome (look_up slots p) × IsSome (look_up slots q) × (p.0 ≢ q.0)
  DisjointPtrAnswer slots p q (Err IndexOutOfBounds) = (look_up slots p ≡ None) ⊎ (look_up slots q ≡ None)
  DisjointPtrAnswer slots p q (Err OverlappingIndices) = IsSome (look_up slots p) × (p ≡ q)

  -- the answer on two indexes: both name entries, and two of them; or they are refused as on a stack of so many slots; or
  -- they are two of the slots, and one of these is free
  abbrev pub DisjointInxAnswer : (slots : List (Option (ℕ × T))) (i j : ℕ) {A : Type 0} → Result A GetDisjointMutError → Type 0
  DisjointInxAnswer slots i j (Ok done) = IsSome (entry_in slots i) × IsSome (entry_in slots j) × (i ≢ j)
  DisjointInxAnswer slots i j (Err IndexOutOfBounds) =
      IsRefused (length slots) i j IndexOutOfBounds
      ⊎ (AreTwo (length slots) i j × ((entry_in slots i ≡ None) ⊎ (entry_in slots j ≡ None)))
  DisjointInxAnswer slots i j (Err OverlappingIndices) = IsRefused (length slots) i j OverlappingIndices

-- calls of an F at two values of T, written as those of a closure that gives an R
abbrev pub PairOnce : Type 0 → Type 0 → Type 0 → Type 1
PairOnce F T R = Once F (MutBor T × (MutBor T × Unit {0})) (R × (MutBor T × (MutBor T × Unit {0})))

module _ {F G T R : Type 0} (c : Once F (G × (MutBor T × (G × (MutBor T × Unit {0})))) (R × (MutBor T × (MutBor T × Unit {0})))) where
  -- its calls at two values, each after its generation
  abbrev pub after_generations : G → G → PairOnce F T R
  after_generations a b =
      record {
        pre = λ f values. c.pre f (a, (values.0, (b, values.1)));
        post = λ f values given. c.post f (a, (values.0, (b, values.1))) given;
      }

module _ {F G T R : Type 0} (number : G → ℕ) (c : Once F (G × (MutBor T × (G × (MutBor T × Unit {0})))) (R × (MutBor T × (MutBor T × Unit {0})))) (f : F) where
  -- f may be called at the generations and the values of two entries, where both are there
  abbrev pub MayWorkAtEntries : Option (ℕ × T) → Option (ℕ × T) → Type 0
  MayWorkAtEntries first second =
      (a b : G) (x y : T) → first ≡ Some (number a, x) → second ≡ Some (number b, y)
      → FnOnceTakesAtPairMut (after_generations c a b) f x y

  -- a call of f at the generations and the values of two entries, and what it gave; this holds of the values that it left
  -- there
  pub record WorkedAtEntries (first second : Option (ℕ × T)) (gave : R) (Left : T → T → Type 0) : Type 0 where
    pub first_under : G
    pub second_under : G
    pub first_value : T
    pub second_value : T
    pub first_left : T
    pub second_left : T
    pub first_is : first ≡ Some (number first_under, first_value)
    pub second_is : second ≡ Some (number second_under, second_value)
    pub called : FnOnceReturnsAtPairMut (after_generations c first_under second_under) f first_value second_value gave first_left second_left
    pub left : Left first_left second_left

-- Closures that are called at each entry of an arena.
use Rattle.std.specs.Prelude.{◌≡◌, List, [], ◌∷◌}
use Rattle.std.specs.Borrow.{MutBor}
use Rattle.triple_arena_ptr.specs.Pointers.{Pointer}

module _ {P T F : Type 0} (numbers : P → Pointer) (step : F → P → MutBor T → Unit {0} → MutBor T → F → Type 0) where
  -- a call of the closure at this pointer and a `&mut` to the value x left the value y there, and the closure as `after`
  pub record CalledAt (f : F) (q : Pointer) (x y : T) (after : F) : Type 0 where
    pub pointer : P
    pub names : numbers pointer ≡ q
    pub shown : MutBor T
    pub shows : shown.now ≡ x
    pub left : MutBor T
    pub called : step f pointer shown tt left after
    pub leaves : left.now ≡ y

  -- calls at the entries, one after another, left these, each with its pointer and the value that its call left, and the
  -- closure as `last`
  abbrev pub Visits : F → List (Pointer × T) → List (Pointer × T) → F → Type 0
  Visits f [] left last = (left ≡ []) × (last ≡ f)
  Visits f (e ∷ es) left last =
      (y : T) × (after : F) × (others : List (Pointer × T)) × CalledAt f e.0 e.1 y after × (left ≡ (e.0, y) ∷ others)
      × Visits after es others last

-- Entries that are kept or removed, as a closure says of each.
use Rattle.std.specs.Prelude.{◌≡◌, ℕ, ◌||◌, Bool, true, false, cond, List, [], ◌∷◌}
use Rattle.std.specs.Borrow.{MutBor}
use Rattle.triple_arena_ptr.specs.Pointers.{Pointer}

module _ {A : Type 0} (removes : A → ℕ → A → Type 0) where
  -- the entry at an index stays, or is removed
  abbrev pub StaysOrGoes : (kept : Bool) → A → ℕ → A → Type 0
  StaysOrGoes true a i left = left ≡ a
  StaysOrGoes false a i left = removes a i left

module _ {A P T F : Type 0} (numbers : P → Pointer) (step : F → P → MutBor T → Bool → MutBor T → F → Type 0)
    (with_value : A → ℕ → T → A) (removes : A → ℕ → A → Type 0) (wraps : A → Bool) where
  -- a call of the closure at this pointer and a `&mut` to the value x: the arena is as `left` after it, with the entry, whose
  -- value is the one that the call left, or without it, as the call answered; whether its removal wrapped the counter
  pub record AsksAt (f : F) (a : A) (q : Pointer) (x : T) (wrapped : Bool) (after : F) (left : A) : Type 0 where
    pub pointer : P
    pub names : numbers pointer ≡ q
    pub shown : MutBor T
    pub shows : shown.now ≡ x
    pub kept : Bool
    pub written : MutBor T
    pub called : step f pointer shown kept written after
    pub done : StaysOrGoes removes kept (with_value a q.0 written.now) q.0 left
    pub told : wrapped ≡ cond kept false (wraps (with_value a q.0 written.now))

  -- calls at the entries, one after another, left the arena as `new`, and the closure as `last`; whether a removal wrapped
  abbrev pub Retains : F → A → List (Pointer × T) → Bool → F → A → Type 0
  Retains f a [] wrapped last new = (wrapped ≡ false) × (last ≡ f) × (new ≡ a)
  Retains f a (e ∷ es) wrapped last new =
      (first : Bool) × (after : F) × (left : A) × (later : Bool) × AsksAt f a e.0 e.1 first after left × (wrapped ≡ (first || later)) × Retains after left es later last new

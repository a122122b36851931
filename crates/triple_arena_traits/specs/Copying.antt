-- What copying through a closure does.
use Rattle.std.specs.Prelude.{◌≡◌, ℕ, ◌-◌, false, List, [], ◌∷◌, ◌++◌, map, length, replicate, Option, Some, None, Result, Ok, Err, MatchResult}
use Rattle.std.specs.List.{FoldsTo}
use Rattle.std.specs.Borrow.{Bor}
use Rattle.triple_arena_ptr.specs.Pointers.{Pointer}
use Rattle.triple_arena_traits.specs.Items.{item}
use Rattle.triple_arena_traits.specs.ArenaState.{is_free}
use Rattle.triple_arena_traits.specs.Walks.{entries}

-- one call of the closure that gave a value
pub record Mapping (P U T : Type 0) : Type 0 where
  pub pointer : P
  pub from : U
  pub to : T

-- the slots with an entry after them, at an index past the last; the slots between are free
abbrev pub put_after : {T : Type 0} → List (Option (ℕ × T)) → Pointer → T → List (Option (ℕ × T))
put_after slots p value = slots ++ (replicate (p.0 - 1 - length slots) None ++ Some (p.1, value) ∷ [])

module _ {P U T : Type 0} (numbers : P → Pointer) where
  -- the entries that the closure was called at
  abbrev pub mapped_from : List (Mapping P U T) → List (Pointer × U)
  mapped_from = map (λ m. (numbers m.pointer, m.from))

  -- the entries with the values that it gave
  abbrev pub mapped_to : List (Mapping P U T) → List (Pointer × T)
  mapped_to = map (λ m. (numbers m.pointer, m.to))

module _ {P U T E M : Type 0} (numbers : P → Pointer) (step : M → P → Bor U → Result T E → M → Type 0) where
  -- a call at the pointer and a reference to the value gave this answer
  abbrev pub CallAt : M → P → U → Result T E → M → Type 0
  CallAt before p u answer after = (x : Bor U) × (x.now ≡ u) × step before p x answer after

  abbrev pub MapTurn : M → Mapping P U T → M → Type 0
  MapTurn before m after = CallAt before m.pointer m.from (Ok m.to) after

  -- the closure refused the first of these
  pub record RefusesFirst (f : M) (rest : List (Pointer × U)) (refusal : E) : Type 0 where
    pub pointer : P
    pub value : U
    pub others : List (Pointer × U)
    pub after : M
    pub first : rest ≡ (numbers pointer, value) ∷ others
    pub refused : CallAt f pointer value (Err refusal) after

  -- the closure was called at the entries in order, up to its first refusal; exactly the entries that it mapped stand, under
  -- the same pointers, and the slots end with the last of them
  pub record Copies (f : M) (source : List (Pointer × U)) (answer : Result (Unit {0}) E) (new : List (Option (ℕ × T))) : Type 0 where
    pub mapped : List (Mapping P U T)
    pub rest : List (Pointer × U)
    pub last : M
    pub ran : FoldsTo MapTurn f mapped last
    pub split : source ≡ mapped_from numbers mapped ++ rest
    pub stands : entries new ≡ mapped_to numbers mapped
    pub ends_live : is_free (item new (length new)) ≡ false
    pub ends : MatchResult answer (λ _. rest ≡ []) (RefusesFirst last rest)

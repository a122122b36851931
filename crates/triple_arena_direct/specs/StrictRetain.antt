-- What `retain` of a strict arena does: a closure is asked of each entry, and those that it doesn't keep are taken out, under
-- one raise of the counter.
use Rattle.std.specs.Prelude.{◌≡◌, ℕ, Bool, true, false, not, cond, List, [], ◌∷◌, filter}
use Rattle.std.specs.Borrow.{Bor}
use Rattle.triple_arena_ptr.specs.Pointers.{Pointer}
use Rattle.triple_arena_traits.specs.ArenaState.{ArenaState}
use Rattle.triple_arena_traits.specs.Ending.{removed}
use Rattle.triple_arena_traits.specs.Compression.{raised_if_any}
use Rattle.triple_arena_traits.specs.Walks.{keys}
use Rattle.triple_arena_traits.specs.Histories.{is_live}

module _ {P T F : Type 0} (numbers : P → Pointer) (step : F → P → Bor T → Bool → F → Type 0) where
  -- a call of the closure at this pointer and a reference to this value gave this answer, and left the closure as `after`
  pub record AskedAt (f : F) (q : Pointer) (x : T) (answer : Bool) (after : F) : Type 0 where
    pub pointer : P
    pub names : numbers pointer ≡ q
    pub shown : Bor T
    pub shows : shown.now ≡ x
    pub called : step f pointer shown answer after

  -- calls at the entries, one after another, did not keep those of the pointers `gone`, and left the closure as `last`
  abbrev pub Sorts : F → List (Pointer × T) → List Pointer → F → Type 0
  Sorts f [] gone last = (gone ≡ []) × (last ≡ f)
  Sorts f (e ∷ es) gone last =
      (keeps : Bool) × (after : F) × (others : List Pointer) × AskedAt f e.0 e.1 keeps after
      × (gone ≡ cond keeps others (e.0 ∷ others)) × Sorts after es others last

-- whether there is one of them
abbrev pub is_any : {A : Type 0} → List A → Bool
is_any [] = false
is_any (x ∷ xs) = true

module _ {T : Type 0} where
  -- the entries of these pointers were taken out, one after another, and the counter stays
  abbrev pub without_entries : List Pointer → ArenaState T → ArenaState T
  without_entries [] s = s
  without_entries (p ∷ ps) s = without_entries ps (removed (λ n. n) s p.0)

  -- and where there was one, the counter was raised once
  abbrev pub ended_entries : (ℕ → ℕ) → List Pointer → ArenaState T → ArenaState T
  ended_entries raise [] s = s
  ended_entries raise (p ∷ ps) s = record (without_entries (p ∷ ps) s) { counter = raised_if_any raise s }

  -- no slot is left, and the counter stays
  abbrev pub emptied : ArenaState T → ArenaState T
  emptied s = record s { slots = []; free = [] }

  -- the pointers of the first arena that the second has not
  abbrev pub pointers_lost : ArenaState T → ArenaState T → List Pointer
  pointers_lost s t = filter (λ p. not (is_live t p)) (keys s.slots)

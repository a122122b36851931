-- Compaction of two arenas that point at each other: values that hold pointers of two kinds, each renamed in its own way.
use Rattle.std.specs.Prelude.{◌≡◌, ℕ, List, map, length, Option, None}
use Rattle.std.specs.Option.{option_map}
use Rattle.std.specs.List.{AllZip}
use Rattle.triple_arena_ptr.specs.Pointers.{Pointer}
use Rattle.triple_arena_recasting.specs.declared.errors.CompactBothError.{CompactBothError}
use Rattle.triple_arena_recasting.specs.declared.errors.CompactBothError.TheVariants.{First, Second}
use Rattle.triple_arena_recasting.specs.Renaming.{Refuses, AllResolve, RefusesStray}

-- the two kinds stand apart in a value: where pointers of one kind are put in it, those of the other stay
abbrev pub StandApart : {P Q T : Type 0} → (T → List P) → (T → List P → T) → (T → List Q) → (T → List Q → T) → Type 0
StandApart {P = P} {Q} {T} held refill held_too refill_too =
    ((v : T) (ps : List P) → length ps ≡ length (held v) → held_too (refill v ps) ≡ held_too v)
    × ((v : T) (qs : List Q) → length qs ≡ length (held_too v) → held (refill_too v qs) ≡ held v)

-- what is renamed: pointers of the one kind, which values hold, and those of the other, which they hold too
module _ {P Q T : Type 0}
    (numbers : P → Pointer) (rename : Pointer → Pointer) (held : T → List P) (refill : T → List P → T)
    (numbers_too : Q → Pointer) (rename_too : Pointer → Pointer) (held_too : T → List Q) (refill_too : T → List Q → T) where
  -- a value, and the same with each pointer of both kinds that it holds renamed once
  pub record IsRenamedBoth (old new : T) : Type 0 where
    pub holds : map numbers (held new) ≡ map rename (map numbers (held old))
    pub holds_too : map numbers_too (held_too new) ≡ map rename_too (map numbers_too (held_too old))
    pub filled : new ≡ refill_too (refill old (held new)) (held_too new)

  -- values, and the same, in their order
  abbrev pub AreRenamedBoth : List T → List T → Type 0
  AreRenamedBoth olds news = AllZip IsRenamedBoth olds news

  -- what is found, and what is found after: nothing, or a value, and the same so renamed
  pub record IsFoundRenamedBoth (before after : Option T) : Type 0 where
    pub holds : option_map (λ v. map numbers (held v)) after ≡ option_map (map rename) (option_map (λ v. map numbers (held v)) before)
    pub holds_too : option_map (λ v. map numbers_too (held_too v)) after ≡ option_map (map rename_too) (option_map (λ v. map numbers_too (held_too v)) before)
    pub pointers : List P
    pub pointers_held : option_map held after ≡ option_map (λ _. pointers) before
    pub pointers_too : List Q
    pub pointers_too_held : option_map held_too after ≡ option_map (λ _. pointers_too) before
    pub filled : after ≡ option_map (λ v. refill_too (refill v pointers) pointers_too) before

-- why neither of two arenas was compacted, which have so many entries, and to each of which this is the first stored pointer
-- that finds nothing: those to the first are looked for before those to the second
abbrev pub RefusesBoth : {P Q : Type 0} (count : ℕ) (first : Option P) (count_too : ℕ) (first_too : Option Q) → CompactBothError P Q → Type 0
RefusesBoth count first count_too first_too (First refusal) = Refuses count first refusal
RefusesBoth count first count_too first_too (Second refusal) = (first ≡ None) × Refuses count_too first_too refusal

-- the same in look-ups, where the values in the slots of each arena hold pointers to the other's alone
abbrev pub RefusesBothStray : {P Q T U : Type 0} (numbers : P → Pointer) (numbers_too : Q → Pointer) (slots : List (Option (ℕ × T))) (held : U → List P) (slots_too : List (Option (ℕ × U))) (held_too : T → List Q) → CompactBothError P Q → Type 0
RefusesBothStray numbers numbers_too slots held slots_too held_too (First refusal) = RefusesStray numbers slots held slots_too refusal
RefusesBothStray numbers numbers_too slots held slots_too held_too (Second refusal) =
    AllResolve numbers slots held slots_too × RefusesStray numbers_too slots_too held_too slots refusal

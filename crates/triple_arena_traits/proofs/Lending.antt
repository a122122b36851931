-- Slots that are passed one by one, each of which lends its value.
use Rattle.std.proofs.Common.{◌≡◌, ℕ, ◌+◌, ◌≤◌, true, List, [], ◌∷◌, map, length, min, Option, Some, None, IsSome, refl, sym, ap, ◌∙◌, arith}
use Rattle.std.proofs.lemmas.Option.{same_Some}
use Rattle.std.specs.Option.{option_map}
use Rattle.triple_arena_ptr.specs.Pointers.{Pointer}
use Rattle.triple_arena_traits.specs.DisjointEntries.{value_of}
use Rattle.triple_arena_traits.specs.Walks.{put_entry, entries_from}
use Rattle.triple_arena_traits.proofs.Present.{some_mapped}

module _ {X G T : Type 0} (number : G → ℕ) (entry : X → Option (ℕ × T)) where
  -- the slots behind the first one, whose index is one more, as far as there are numbers
  pub behind_first : (i j most : ℕ) (ys : List X) → j ≡ min (i + 1) most → i + length ys ≤ most → entries_from j (map entry ys) ≡ entries_from (i + 1) (map entry ys)
  behind_first i j most [] next fits = refl
  behind_first i j most (y ∷ ys) next fits = let is : j ≡ i + 1 = omega arith in rw is refl

  -- a slot that lends its value has a generation
  pub generation_there : (x y : X) (xs ys all : List X) (o : Option G) (v : T) → all ≡ x ∷ xs → all ≡ y ∷ ys → option_map number o ≡ option_map (λ e. e.0) (entry x) → Some v ≡ value_of (entry y) → IsSome o
  generation_there x y xs ys all o v at_x at_y stamped lent =
      let same : y ≡ x = cc (sym at_y ∙ at_x) in
      some_mapped number o _ stamped (by_entry (entry x) (lent ∙ ap (λ z. value_of (entry z)) same))
    where
      by_entry : (q : Option (ℕ × T)) → Some v ≡ value_of q → IsSome (option_map (λ (e : ℕ × T). e.0) q)
      by_entry None lent = absurd (cc)
      by_entry (Some e) lent = refl

  -- the first slot's entry is the first of the entries
  pub first_lent : (i j : ℕ) (x y : X) (xs ys all : List X) (o : Option G) (g : G) (v : T) (p : Pointer) → all ≡ x ∷ xs → all ≡ y ∷ ys → o ≡ Some g → option_map number o ≡ option_map (λ e. e.0) (entry x) → Some v ≡ value_of (entry y) → entries_from j (map entry ys) ≡ entries_from (i + 1) (map entry ys) → p ≡ (i, number g) → entries_from i (map entry all) ≡ (p, v) ∷ entries_from j (map entry ys)
  first_lent i j x y xs ys all o g v p at_x at_y has stamped lent behind pointer =
      let same : x ≡ y = cc (sym at_x ∙ at_y) in
      let generation : Some (number g) ≡ option_map (λ e. e.0) (entry y) = sym (ap (option_map number) has) ∙ stamped ∙ ap (λ z. option_map (λ (e : ℕ × T). e.0) (entry z)) same in
      rw (at_y, behind, pointer) (by_entry (entry y) (entries_from (i + 1) (map entry ys)) generation lent)
    where
      by_entry : (q : Option (ℕ × T)) (rest : List (Pointer × T)) → Some (number g) ≡ option_map (λ e. e.0) q → Some v ≡ value_of q → put_entry true i q rest ≡ ((i, number g), v) ∷ rest
      by_entry None rest generation lent = absurd (cc)
      by_entry (Some e) rest generation lent = rw (same_Some _ _ generation, same_Some _ _ lent) refl

  -- a first slot that lends its value has one of the entries
  pub one_lent : (i j : ℕ) (y : X) (ys all : List X) (v : T) → all ≡ y ∷ ys → Some v ≡ value_of (entry y) → entries_from j (map entry ys) ≡ entries_from (i + 1) (map entry ys) → length (entries_from i (map entry all)) ≡ 1 + length (entries_from j (map entry ys))
  one_lent i j y ys all v at lent behind = rw (at, behind) (by_entry (entry y) (entries_from (i + 1) (map entry ys)) lent)
    where
      by_entry : (q : Option (ℕ × T)) (rest : List (Pointer × T)) → Some v ≡ value_of q → length (put_entry true i q rest) ≡ 1 + length rest
      by_entry None rest lent = absurd (cc)
      by_entry (Some e) rest lent = omega arith

  -- a first slot that lends nothing has no entry
  pub first_passed : (i j : ℕ) (y : X) (ys all : List X) → all ≡ y ∷ ys → None ≡ value_of (entry y) → entries_from j (map entry ys) ≡ entries_from (i + 1) (map entry ys) → entries_from j (map entry ys) ≡ entries_from i (map entry all)
  first_passed i j y ys all at none behind = rw (at, behind) (by_entry (entry y) (entries_from (i + 1) (map entry ys)) none)
    where
      by_entry : (q : Option (ℕ × T)) (rest : List (Pointer × T)) → None ≡ value_of q → rest ≡ put_entry true i q rest
      by_entry None rest none = refl
      by_entry (Some e) rest none = absurd (cc)

  pub none_left : (i : ℕ) (all : List X) → length all ≤ 0 → entries_from i (map entry all) ≡ []
  none_left i [] none = refl
  none_left i (x ∷ xs) none = absurd (omega arith)

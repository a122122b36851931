-- What a copy holds, where each value is cloned.
use Rattle.std.proofs.Common.{◌≡◌, ℕ, zero, suc, ◌+◌, ◌<◌, ◌==◌, cond, List, [], ◌∷◌, ◌++◌, map, Option, Some, None, slice_get, Result, Ok, Err, refl, sym, ap, subst, ◌∙◌, arith, append-nil}
use Rattle.std.specs.Prelude.{MatchResult, OnOk, IsOk, Contains}
use Rattle.std.specs.Borrow.{Bor}
use Rattle.std.specs.List.{FoldsTo}
use Rattle.std.proofs.lemmas.List.Elements.{Contains-append_right}
use Rattle.triple_arena_base.specs.declared.errors.AllocError.{AllocError}
use Rattle.triple_arena_base.specs.declared.errors.CloneFromError.{CloneFromError}
use Rattle.triple_arena_base.specs.declared.errors.CloneFromError.TheVariants.{Reallocation, Map}
use Rattle.triple_arena_ptr.specs.Pointers.{Pointer}
use Rattle.triple_arena_traits.specs.laws.ItemLaws.{joined, eq_true, eq_false}
use Rattle.triple_arena_traits.specs.Entries.{KeepsEntries}
use Rattle.triple_arena_traits.specs.Walks.{entries_from, entries}
use Rattle.triple_arena_traits.specs.Copying.{Mapping, mapped_from, mapped_to, MapTurn, RefusesFirst, Copies}
use Rattle.triple_arena_traits.specs.Cloning.{FirstMayFail, SomeMayFail, IsFront, IsRoomRefusal, IsMapRefusal}

module _ {T : Type 0} where
  -- the entry of an index, among entries
  abbrev found_in : List (Pointer × T) → ℕ → Option (ℕ × T)
  found_in [] i = None
  found_in (e ∷ rest) i = cond (e.0.0 == i) (Some (e.0.1, e.1)) (found_in rest i)

  none_below : (at i : ℕ) (xs : List (Option (ℕ × T))) → i < at → found_in (entries_from at xs) i ≡ None
  none_below at i [] below = refl
  none_below at i (None ∷ xs) below = none_below (at + 1) i xs (omega arith)
  none_below at i (Some e ∷ xs) below =
      ap (λ b. cond b (Some (e.0, e.1)) (found_in (entries_from (at + 1) xs) i)) (eq_false at i (omega arith)) ∙ none_below (at + 1) i xs (omega arith)

  found_at : (at k : ℕ) (xs : List (Option (ℕ × T))) → found_in (entries_from at xs) (at + k) ≡ joined (slice_get xs k)
  found_at at k [] = refl
  found_at at zero (None ∷ xs) = none_below (at + 1) (at + 0) xs (omega arith)
  found_at at (suc k) (None ∷ xs) = let e : at + suc k ≡ at + 1 + k = omega arith in rw e (found_at (at + 1) k xs)
  found_at at zero (Some e ∷ xs) = ap (λ b. cond b (Some (e.0, e.1)) (found_in (entries_from (at + 1) xs) (at + 0))) (eq_true at (at + 0) (omega arith))
  found_at at (suc k) (Some e ∷ xs) =
      let next : at + suc k ≡ at + 1 + k = omega arith in
      ap (λ b. cond b (Some (e.0, e.1)) (found_in (entries_from (at + 1) xs) (at + suc k))) (eq_false at (at + suc k) (omega arith))
      ∙ ap (found_in (entries_from (at + 1) xs)) next
      ∙ found_at (at + 1) k xs

  -- slots with the same entries in the order of their indexes have them at the same indexes
  pub same_entries : (old new : List (Option (ℕ × T))) → entries new ≡ entries old → KeepsEntries old new
  same_entries old new same zero = refl
  same_entries old new same (suc k) = sym (found_at 1 k new) ∙ ap (λ es. found_in es (1 + k)) same ∙ found_at 1 k old

module _ {P T M : Type 0} (numbers : P → Pointer) (step : M → P → Bor T → Result T AllocError → M → Type 0) (infallible : T → Type 0)
    (clones : (before : M) (p : P) (x : Bor T) (answer : Result T AllocError) (after : M) → step before p x answer after → MatchResult answer (λ t. t ≡ x.now) (λ _. ¬ (infallible x.now))) where
  same_values : (f last : M) (mapped : List (Mapping P T T)) → FoldsTo (MapTurn numbers step) f mapped last → mapped_to numbers mapped ≡ mapped_from numbers mapped
  same_values f last [] ran = refl
  same_values f last (m ∷ mapped) (g, (x, shown, called), ran) =
      ap (λ t. (numbers m.pointer, t) ∷ mapped_to numbers mapped) (clones f m.pointer x (Ok m.to) g called ∙ shown)
      ∙ ap (λ es. (numbers m.pointer, m.from) ∷ es) (same_values g last mapped ran)

  may_fail : (f : M) (rest : List (Pointer × T)) (answer : Result (Unit {0}) AllocError) → MatchResult answer (λ _. rest ≡ []) (RefusesFirst numbers step f rest) → MatchResult answer (λ _. rest ≡ []) (λ _. FirstMayFail infallible rest)
  may_fail f rest (Ok x) none = none
  may_fail f rest (Err refusal) first =
      rw first.first (λ sure. clones f first.pointer first.refused.0 (Err refusal) first.after first.refused.2 (rw first.refused.1 sure))

  -- a copy through a closure that clones each value holds the entries as they are
  pub copies_front : (f : M) (source : List (Pointer × T)) (answer : Result (Unit {0}) AllocError) (new : List (Option (ℕ × T))) → Copies numbers step f source answer new → IsFront infallible source answer new
  copies_front f source answer new c =
      record {
        rest = c.rest;
        split = c.split ∙ ap (λ es. es ++ c.rest) (sym (c.stands ∙ same_values f c.last c.mapped c.ran));
        ends_live = c.ends_live;
        ends = may_fail c.last c.rest answer c.ends;
      }

-- where a clone equals its original, the answer of a clone is the original or a refusal
pub clones_exactly : {T E : Type 0} (is_clone : T → T → Type 0) (infallible : T → Type 0) → ((x y : T) → is_clone x y → y ≡ x) → (x : T) (answer : Result T E) → MatchResult answer (is_clone x) (λ _. ¬ (infallible x)) → MatchResult answer (λ t. t ≡ x) (λ _. ¬ (infallible x))
clones_exactly is_clone infallible exact x (Ok t) cloned = exact x t cloned
clones_exactly is_clone infallible exact x (Err refusal) fails = fails

-- where every clone was given, the entries are those of the source
pub front_keeps : {T : Type 0} (infallible : T → Type 0) (old copy new : List (Option (ℕ × T))) (x : Unit {0}) → IsFront infallible (entries old) (Ok x) copy → KeepsEntries copy new → KeepsEntries old new
front_keeps infallible old copy new x front keeps i =
    keeps i ∙ same_entries old copy (sym (front.split ∙ ap (λ rest. entries copy ++ rest) front.ends ∙ append-nil (entries copy))) i

-- where no clone can be refused, none is
pub front_given : {T : Type 0} (infallible : T → Type 0) (source : List (Pointer × T)) (refusal : AllocError) (copy : List (Option (ℕ × T))) → ((x : T) → infallible x) → IsFront infallible source (Err refusal) copy → ⊥
front_given infallible source refusal copy sure front = sure_first front.rest front.ends
  where
    sure_first : (rest : List _) → FirstMayFail infallible rest → ⊥
    sure_first [] never = never
    sure_first (e ∷ others) fails = fails (sure e.1)

-- a clone that is refused is of an entry that may fail
pub front_refused : {T : Type 0} (infallible : T → Type 0) (source : List (Pointer × T)) (refusal : AllocError) (copy : List (Option (ℕ × T))) → IsFront infallible source (Err refusal) copy → SomeMayFail infallible source
front_refused {T = T} infallible source refusal copy front = by_first front.rest front.split front.ends
  where
    by_first : (rest : List (Pointer × T)) → source ≡ entries copy ++ rest → FirstMayFail infallible rest → SomeMayFail infallible source
    by_first [] split never = absurd never
    by_first (e ∷ others) split fails =
        (e, subst (λ es. Contains es e) (sym split) (Contains-append_right (entries copy) (e ∷ others) e (zero, omega arith, refl)), fails)

-- the refusal of a value, as cloning answers it
pub map_refusal : {X E : Type 0} (result : Result X (CloneFromError E)) → IsMapRefusal result → (refusal : E) × (result ≡ Err (Map refusal))
map_refusal (Ok x) refused = absurd refused
map_refusal (Err (Reallocation refusal)) refused = absurd refused
map_refusal (Err (Map refusal)) refused = (refusal, refl)

-- a refusal that is passed on is as it was
pub room_passed : {X E : Type 0} (Y : Type 0) (r : Result X (CloneFromError E)) (e : CloneFromError E) → r ≡ Err e → IsRoomRefusal r → IsRoomRefusal {X = Y} (Err e)
room_passed Y r (Reallocation refusal) is refused = tt
room_passed Y r (Map refusal) is refused = rw is at refused

pub map_passed : {X E : Type 0} (Y : Type 0) (r : Result X (CloneFromError E)) (e : CloneFromError E) → r ≡ Err e → IsMapRefusal r → IsMapRefusal {X = Y} (Err e)
map_passed Y r (Reallocation refusal) is refused = rw is at refused
map_passed Y r (Map refusal) is refused = tt

-- a fact of every answer but a refusal
pub on_ok : {X E : Type 0} (result : Result X E) (Q : Type 0) → ((x : X) → result ≡ Ok x → Q) → OnOk result Q
on_ok (Ok x) Q given = given x refl
on_ok (Err refusal) Q given = tt

-- an answer that is neither refusal of cloning
pub not_refused : (result : Result (Unit {0}) (CloneFromError AllocError)) → (IsRoomRefusal result → ⊥) → ((refusal : AllocError) → result ≡ Err (Map refusal) → ⊥) → IsOk result
not_refused (Ok x) room map = refl
not_refused (Err (Reallocation refusal)) room map = absurd (room tt)
not_refused (Err (Map refusal)) room map = absurd (map refusal refl)

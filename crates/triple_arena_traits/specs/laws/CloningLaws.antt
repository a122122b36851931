-- Laws of cloning into an arena.
use Rattle.std.proofs.Common.{◌≡◌, ℕ, ◌≤◌, nat_lt, cond, Bool, true, false, List, [], ◌∷◌, Option, refl, sym, ap, ◌∙◌, arith}
use Rattle.std.specs.List.{FoldsTo}
use Rattle.std.proofs.lemmas.Bool.Decides.{nat_tests}
use Rattle.triple_arena_stack.specs.StackKind.{StackKind}
use Rattle.triple_arena_traits.specs.ArenaState.{ArenaState, capacity}
use Rattle.triple_arena_traits.specs.Entries.{entry_in, KeepsEntries}
use Rattle.triple_arena_traits.specs.FreeList.{laid_out}
use Rattle.triple_arena_traits.specs.Cloning.{Clonable, end_of, counter_of, CloneTurn}
use Rattle.triple_arena_traits.specs.Reallocation.{ready_for, reallocated}

module _ {T : Type 0} (kind : StackKind) where
  -- where there is a place for so many, the arena is ready as it is
  pub ready-fits : (s : ArenaState T) (m : ℕ) → m ≤ capacity s → ready_for kind s m ≡ s
  ready-fits s m fits = let no : nat_lt (capacity s) m ≡ false = grind (arith, nat_tests) in ap (λ b. cond b (reallocated kind s m) s) no

  by_case : (b : Bool) (s t : ArenaState T) (x : Option ℕ) → s.limit ≡ x → t.limit ≡ x → (cond b s t).limit ≡ x
  by_case true s t x p q = p
  by_case false s t x p q = q

  pub limit-ready : (s : ArenaState T) (m : ℕ) → (ready_for kind s m).limit ≡ s.limit
  limit-ready s m = by_case (nat_lt (capacity s) m) (reallocated kind s m) s s.limit refl refl

  module _ (first : ℕ) where
    pub kept-cloned : (old : ArenaState T) (last : ℕ) (next : Option ℕ) (copy : List (Option (ℕ × T))) (new : ArenaState T) → new ≡ laid_out (ready_for kind old last) copy (counter_of first next) → KeepsEntries copy new.slots
    kept-cloned old last next copy new is i = ap (λ s. entry_in s.slots i) is

    pub limit-cloned : (old : ArenaState T) (last : ℕ) (next : Option ℕ) (copy : List (Option (ℕ × T))) (new : ArenaState T) → new ≡ laid_out (ready_for kind old last) copy (counter_of first next) → new.limit ≡ old.limit
    limit-cloned old last next copy new is = ap (λ s. s.limit) is ∙ limit-ready old last

    pub capacity-cloned : (old : ArenaState T) (last : ℕ) (next : Option ℕ) (copy : List (Option (ℕ × T))) (new : ArenaState T) → new ≡ laid_out (ready_for kind old last) copy (counter_of first next) → last ≤ capacity old → capacity new ≡ capacity old
    capacity-cloned old last next copy new is fits = ap capacity is ∙ ap capacity (ready-fits old last fits)

module _ {A B T U : Type 0} (one : Clonable A T) (other : Clonable B U)
    (stays : (old : A) (last : ℕ) (next : Option ℕ) (copy : List (Option (ℕ × T))) (new : A) → one.clones old last next copy new → last ≤ one.capacity old → one.capacity new ≡ one.capacity old)
    (other_stays : (old : B) (last : ℕ) (next : Option ℕ) (copy : List (Option (ℕ × U))) (new : B) → other.clones old last next copy new → last ≤ other.capacity old → other.capacity new ≡ other.capacity old) where
  abbrev Turn : A × B → Bool → A × B → Type 0
  Turn = CloneTurn one other

  -- both end with the same index, and the capacity of each reaches it
  record BothFit (pair : A × B) : Type 0 where
    pub same_end : end_of other pair.1 ≡ end_of one pair.0
    pub first_fits : end_of one pair.0 ≤ one.capacity pair.0
    pub second_fits : end_of other pair.1 ≤ other.capacity pair.1

  both_fit : (old : A × B) (turn : Bool) (new : A × B) → Turn old turn new → BothFit new
  both_fit old true new t =
      record {
        same_end = t.1.same_end ∙ sym (ap (end_of one) t.0);
        first_fits = rw t.0 t.1.source_fits;
        second_fits = t.1.fits;
      }
  both_fit old false new t =
      record {
        same_end = ap (end_of other) t.0 ∙ sym t.1.same_end;
        first_fits = t.1.fits;
        second_fits = rw t.0 t.1.source_fits;
      }

  keeps : (old : A × B) (turn : Bool) (new : A × B) → BothFit old → Turn old turn new → (one.capacity new.0 ≡ one.capacity old.0) × (other.capacity new.1 ≡ other.capacity old.1)
  keeps old true new s t =
      (ap one.capacity t.0, other_stays old.1 (end_of one old.0) t.1.next t.1.copy new.1 t.1.cloned (omega (arith, s.same_end, s.second_fits)))
  keeps old false new s t =
      (stays old.0 (end_of other old.1) t.1.next t.1.copy new.0 t.1.cloned (omega (arith, s.same_end, s.first_fits)), ap other.capacity t.0)

  keeps_all : (old : A × B) (turns : List Bool) (new : A × B) → BothFit old → FoldsTo Turn old turns new → (one.capacity new.0 ≡ one.capacity old.0) × (other.capacity new.1 ≡ other.capacity old.1)
  keeps_all old [] new s same = (ap (λ p. one.capacity p.0) (sym same), ap (λ p. other.capacity p.1) (sym same))
  keeps_all old (turn ∷ turns) new s (next, here, there) =
      let first = keeps old turn next s here in
      let rest = keeps_all next turns new (both_fit old turn next here) there in
      (rest.0 ∙ first.0, rest.1 ∙ first.1)

  -- once one of two arenas was cloned into the other, further clones leave both capacities
  pub clones_keep_capacity : (start : A × B) (first : Bool) (middle : A × B) (turns : List Bool) (end : A × B) → Turn start first middle → FoldsTo Turn middle turns end → (one.capacity end.0 ≡ one.capacity middle.0) × (other.capacity end.1 ≡ other.capacity middle.1)
  clones_keep_capacity start first middle turns end here there = keeps_all middle turns end (both_fit start first middle here) there

-- Closures that are called at each entry.
use Rattle.std.proofs.Common.{◌≡◌, ℕ, suc, List, [], ◌∷◌, ◌++◌, length, Option, Some, None, false, refl, sym, ap, subst, ◌∙◌, append_assoc, append-nil}
use Rattle.std.specs.Borrow.{MutBor}
use Rattle.triple_arena_ptr.specs.Pointers.{Pointer}
use Rattle.triple_arena_traits.specs.Entries.{look_up, with_value_in}
use Rattle.triple_arena_traits.specs.Walks.{Stand, Steps, IsAtFirst, entries, entries_ahead, entries_behind}
use Rattle.triple_arena_traits.specs.Recasting.{written}
use Rattle.triple_arena_traits.specs.Visits.{CalledAt, Visits}
use Rattle.triple_arena_traits.specs.laws.WalkLaws.{ahead_taken, ahead_written, ahead_none, ahead_first, behind_written, none_behind, all_behind}

module _ {P T F : Type 0} (numbers : P → Pointer) (step : F → P → MutBor T → Unit {0} → MutBor T → F → Type 0) where
  pub called_at : (f : F) (p : P) (shown : MutBor T) (r : Unit {0}) (left : MutBor T) (after : F) → step f p shown r left after → CalledAt numbers step f (numbers p) shown.now left.now after
  called_at f p shown r left after called =
      record { pointer = p; names = refl; shown = shown; shows = refl; left = left; called = called; leaves = refl }

  -- what calls at the entries ahead leave stands after those behind, and all are what calls from the start on leave
  abbrev pub GoesOn : F → List (Pointer × T) → Stand → List (Option (ℕ × T)) → F → Type 0
  GoesOn start old s slots f =
      (left : List (Pointer × T)) (last : F) → Visits numbers step f (entries_ahead s slots) left last
      → Visits numbers step start old (entries_behind s slots ++ left) last

  pub begins : (start : F) (slots : List (Option (ℕ × T))) (s : Stand) → IsAtFirst slots s → GoesOn start (entries slots) s slots start
  begins start slots s first left last visits =
      rw (none_behind slots s first) (subst (λ es. Visits numbers step start es left last) (ahead_first slots s first) visits)

  pub goes_on : (start : F) (old : List (Pointer × T)) (greatest : ℕ) (slots : List (Option (ℕ × T))) (b : Stand) (p : Pointer) (a : Stand) (f : F) (v w : T) (after : F) → b.reverse ≡ false → Steps greatest slots b (Some p) a → look_up slots p ≡ Some v → CalledAt numbers step f p v w after → GoesOn start old b slots f → GoesOn start old a (with_value_in slots p.0 w) after
  goes_on start old greatest slots b p a f v w after forward s is call so_far left last visits =
      let later = subst (λ es. Visits numbers step after es left last) (ahead_written greatest slots b p a w s) visits in
      let from = subst (λ es. Visits numbers step f es ((p, w) ∷ left) last) (sym (ahead_taken greatest slots b p a forward s v is)) (w, after, left, call, refl, later) in
      let behind = ap (λ es. es ++ left) (behind_written greatest slots b p a w forward s) ∙ append_assoc (entries_behind b slots) ((p, w) ∷ []) left in
      subst (λ es. Visits numbers step start old es last) (sym behind) (so_far ((p, w) ∷ left) last from)

  pub ends : (start : F) (old : List (Pointer × T)) (greatest : ℕ) (slots : List (Option (ℕ × T))) (b a : Stand) (f : F) → Steps greatest slots b None a → GoesOn start old b slots f → Visits numbers step start old (entries slots) f
  ends start old greatest slots b a f s so_far =
      let none = subst (λ es. Visits numbers step f es [] f) (sym (ahead_none greatest slots b a s)) (refl, refl) in
      subst (λ es. Visits numbers step start old es f) (append-nil (entries_behind b slots) ∙ all_behind greatest slots b a s) (so_far [] f none)

module _ {T A : Type 0} (with_value : A → ℕ → T → A) where
  -- the first of these pointers have been written, and those ahead have not
  pub record Wrote (all ahead : List Pointer) (start now : A) : Type 0 where
    pub done : List Pointer
    pub values : List T
    pub split : all ≡ done ++ ahead
    pub as_many : length values ≡ length done
    pub state : now ≡ written with_value done values start

  written_behind : (ps : List Pointer) (vs : List T) (p : Pointer) (v : T) (a : A) → length vs ≡ length ps → written with_value (ps ++ p ∷ []) (vs ++ v ∷ []) a ≡ with_value (written with_value ps vs a) p.0 v
  written_behind [] [] p v a e = refl
  written_behind [] (w ∷ vs) p v a e = absurd (cc)
  written_behind (q ∷ ps) [] p v a e = absurd (cc)
  written_behind (q ∷ ps) (w ∷ vs) p v a e = written_behind ps vs p v (with_value a q.0 w) (cc)

  one_longer : (ps : List Pointer) (vs : List T) (p : Pointer) (v : T) → length vs ≡ length ps → length (vs ++ v ∷ []) ≡ length (ps ++ p ∷ [])
  one_longer [] [] p v e = refl
  one_longer [] (w ∷ vs) p v e = absurd (cc)
  one_longer (q ∷ ps) [] p v e = absurd (cc)
  one_longer (q ∷ ps) (w ∷ vs) p v e = ap suc (one_longer ps vs p v (cc))

  pub wrote_none : (all ahead : List Pointer) (start : A) → ahead ≡ all → Wrote all ahead start start
  wrote_none all ahead start e = record { done = []; values = []; split = sym e; as_many = refl; state = refl }

  pub wrote_one : (all ahead after : List Pointer) (start now : A) (p : Pointer) (v : T) → ahead ≡ p ∷ after → Wrote all ahead start now → Wrote all after start (with_value now p.0 v)
  wrote_one all ahead after start now p v e w =
      record {
        done = w.done ++ p ∷ [];
        values = w.values ++ v ∷ [];
        split = w.split ∙ ap (λ ps. w.done ++ ps) e ∙ sym (append_assoc w.done (p ∷ []) after);
        as_many = one_longer w.done w.values p v w.as_many;
        state = ap (λ a. with_value a p.0 v) w.state ∙ sym (written_behind w.done w.values p v start w.as_many);
      }

  pub wrote_all : (all ahead : List Pointer) (start now : A) → ahead ≡ [] → Wrote all ahead start now → (values : List T) × (now ≡ written with_value all values start)
  wrote_all all ahead start now e w =
      (w.values, w.state ∙ ap (λ ps. written with_value ps w.values start) (sym (w.split ∙ ap (λ ps. w.done ++ ps) e ∙ append-nil w.done)))

-- Steps of an arena, where no slot is counted.
use Rattle.std.proofs.Common.{◌≡◌, ℕ, ◌==◌, Bool, true, false, cond, List, [], ◌∷◌, Result, Ok, Err, OnOk, OnErr, refl, ap, ◌∙◌}
use Rattle.triple_arena_stack.specs.StackKind.{StackKind}
use Rattle.triple_arena_traits.specs.ArenaState.{ArenaState, slot_count, arena_len, capacity}
use Rattle.triple_arena_traits.specs.Insertion.{inserted_among, inserted}
use Rattle.triple_arena_traits.specs.SlotSteps.{IsTouched, touched}
use Rattle.triple_arena_traits.specs.Ending.{removed}
use Rattle.triple_arena_traits.specs.Reallocation.{grown}
use Rattle.triple_arena_traits.specs.Compression.{compressed}
use Rattle.triple_arena_session.specs.SessionLayout.{uncounted}

module _ {T : Type 0} where
  -- of two states, the one or the other
  uncounted-cond : (b : Bool) (s t : ArenaState T) → uncounted (cond b s t) ≡ cond b (uncounted s) (uncounted t)
  uncounted-cond true s t = refl
  uncounted-cond false s t = refl

  pub uncounted-inserted : (s : ArenaState T) (value : T) → uncounted (inserted s value) ≡ inserted (uncounted s) value
  uncounted-inserted s value = by_free s.free
    where
      by_free : (free : List ℕ) → uncounted (inserted_among free s value) ≡ inserted_among free (uncounted s) value
      by_free [] = refl
      by_free (i ∷ rest) = refl

  pub uncounted-grown_inserted : (kind : StackKind) (s : ArenaState T) (value : T) → uncounted (inserted (grown kind s) value) ≡ inserted (grown kind (uncounted s)) value
  uncounted-grown_inserted kind s value =
      uncounted-inserted (grown kind s) value
      ∙ ap (λ (t : ArenaState T). inserted t value) (uncounted-cond (arena_len s == capacity s) _ s)

  pub uncounted-removed : (raise : ℕ → ℕ) (s : ArenaState T) (i : ℕ) → uncounted (removed raise s i) ≡ removed raise (uncounted s) i
  uncounted-removed raise s i = uncounted-cond (i == slot_count s) _ _

  -- what a call left
  module _ {A E : Type 0} where
    pub uncounted-done : (r : Result A E) (s t u : ArenaState T) → uncounted s ≡ u → OnOk r (IsTouched s t) → OnOk r (uncounted t ≡ u)
    uncounted-done (Ok x) s t u is done = ap uncounted done.0 ∙ is
    uncounted-done (Err e) s t u is done = tt

    pub uncounted-counted : (r : Result A E) (n : ℕ) (s t u : ArenaState T) → uncounted s ≡ u → OnOk r (t ≡ touched n s) → OnOk r (uncounted t ≡ u)
    uncounted-counted (Ok x) n s t u is done = ap uncounted done ∙ is
    uncounted-counted (Err e) n s t u is done = tt

    pub uncounted-refused : (r : Result A E) (s t u : ArenaState T) → uncounted s ≡ u → OnErr r (IsTouched s t) → OnErr r (uncounted t ≡ u)
    uncounted-refused (Ok x) s t u is refused = tt
    uncounted-refused (Err e) s t u is refused = ap uncounted refused.0 ∙ is

  -- what a compression left
  pub uncounted-compressed : {A E : Type 0} (r : Result A E) (s t : ArenaState T) (counter : ℕ) (R : List T → Type 0) → OnOk r ((new : List T) × R new × IsTouched (compressed s counter new) t) → OnOk r ((new : List T) × R new × (uncounted t ≡ compressed (uncounted s) counter new))
  uncounted-compressed (Ok x) s t counter R done = (done.0, done.1, ap uncounted done.2.0)
  uncounted-compressed (Err e) s t counter R done = tt

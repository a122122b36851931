-- What stands where more slots may have been touched.
use Rattle.std.proofs.Common.{◌≡◌, ℕ, ◌≤◌, ◌==◌, ◌↔◌, Bool, false, List, [], ◌∷◌, length, Result, Ok, Err, IsOk, OnOk, OnErr, sym, ap, subst, refl, ◌∙◌, arith}
use Rattle.triple_arena_ptr.specs.Numbers.{Generations, raise, wraps}
use Rattle.triple_arena_stack.specs.StackKind.{StackKind}
use Rattle.triple_arena_traits.specs.ArenaState.{ArenaState, slot_count, arena_len, capacity}
use Rattle.triple_arena_traits.specs.SlotSteps.{IsTouched}
use Rattle.triple_arena_traits.specs.Ending.{removed}
use Rattle.triple_arena_traits.specs.FreeList.{tidied}
use Rattle.triple_arena_traits.specs.Reallocation.{reallocated, ready_for_limit, with_limit}
use Rattle.triple_arena_traits.specs.laws.EntryLaws.{by_case}
use Rattle.triple_arena_traits.specs.laws.LimitLaws.{refused_ready}
use Rattle.triple_arena_traits.specs.laws.WellFormedLaws.{steps-removed}
use Rattle.triple_arena_traits.specs.Compression.{compressed, counter_after, wraps_after}
use Rattle.triple_arena_traits.specs.Walks.{keys}
use Rattle.triple_arena_traits.specs.Histories.{resizing, compression, begun_with, CountsUp, Fits, Continues}
use Rattle.triple_arena_traits.specs.laws.HistoryLaws.{Continues-touched, Continues-resized, Continues-limited, Continues-compressed, Fits-compressed}
use Rattle.triple_arena.specs.laws.TouchedLaws.{tidied_slots, reallocated_slots, Continues-unchanged}

pub on_err : {A E P Q : Type 0} (r : Result A E) → (P → Q) → OnErr r P → OnErr r Q
on_err (Ok x) f h = h
on_err (Err e) f h = f h

module _ {T : Type 0} where
  -- what is the same is so with no slot touched
  pub touched_same : (s new : ArenaState T) → new ≡ s → IsTouched s new
  touched_same s new is = (
    is ∙ ap (λ (n : ℕ). record s { steps = n }) (sym (ap (λ (t : ArenaState T). t.steps) is)),
    omega (arith, ap (λ (t : ArenaState T). t.steps) is),
  )

  -- a step that counts nothing, after slots were touched, and with others touched after it
  pub touched_through : (f : ArenaState T → ArenaState T) → ((s : ArenaState T) (n m : ℕ) → ◌≡◌ {A = ArenaState T} (record (f (record s { steps = n })) { steps = m }) (record (f s) { steps = m })) → ((s : ArenaState T) → (f s).steps ≡ s.steps) → (s t new : ArenaState T) → IsTouched s t → IsTouched (f t) new → IsTouched (f s) new
  touched_through f aside counts s t new first second = (
    second.0 ∙ ap (λ (u : ArenaState T). record (f u) { steps = new.steps }) first.0 ∙ aside s t.steps new.steps,
    omega (arith, counts s, counts t, first.1, second.1),
  )

  module _ (raise : ℕ → ℕ) where
    pub steps_of-removed : (s : ArenaState T) (i : ℕ) → (removed raise s i).steps ≡ s.steps
    steps_of-removed s i = by_case (λ t. t.steps) (i == slot_count s) _ _ s.steps refl refl

    -- a removal after a look at a slot
    pub removed_after : (s seen new : ArenaState T) (i j : ℕ) → IsTouched s seen → IsTouched (removed raise seen i) new → i ≡ j → IsTouched (removed raise s j) new
    removed_after s seen new i j same is at =
        subst (λ k. IsTouched (removed raise s k) new) at (touched_through (λ t. removed raise t i) (λ t n m. steps-removed raise t n m i) (λ t. steps_of-removed t i) s seen new same is)

  module _ {A E : Type 0} where
    -- a limit that is refused leaves the free list tidied
    pub refused_touched : (r : Result A E) (s ready new : ArenaState T) (x : ℕ) → slot_count s ≤ capacity s → (IsOk r ↔ (slot_count (ready_for_limit s x) ≤ x)) → IsTouched (ready_for_limit s x) ready → OnErr r (new ≡ ready) → OnErr r (IsTouched (tidied s) new)
    refused_touched (Ok a) s ready new x fit variant same left = left
    refused_touched (Err e) s ready new x fit variant same left =
        let order : ready_for_limit s x ≡ tidied s = refused_ready {A = A} (Err e) s (ready_for_limit s x) x fit variant refl in
        subst (λ t. IsTouched t new) order (subst (IsTouched (ready_for_limit s x)) (sym left) same)

    -- each history goes on
    pub limited_goes_on : (r : Result A E) (s new : ArenaState T) (x : ℕ) → OnOk r (IsTouched (with_limit s x) new) → OnErr r (IsTouched (tidied s) new) → Continues Fits s (resizing ∷ []) new
    limited_goes_on (Ok a) s new x done refused =
        Continues-touched s (with_limit s x) new (resizing ∷ []) done (Continues-limited {E = E} (Ok a) s (with_limit s x) x refl tt)
    limited_goes_on (Err e) s new x done refused =
        Continues-touched s (tidied s) new (resizing ∷ []) refused (Continues-limited {A = A} (Err e) s (tidied s) x tt refl)

    pub reallocated_goes_on : (kind : StackKind) (r : Result A E) (s new : ArenaState T) (m : ℕ) → OnOk r (IsTouched (reallocated kind s m) new) → OnErr r (IsTouched (tidied s) new) → Continues Fits s (resizing ∷ []) new
    reallocated_goes_on kind (Ok x) s new m done refused =
        Continues-resized s new (reallocated_slots kind s m new done) (ap (λ (t : ArenaState T). t.counter) done.0)
    reallocated_goes_on kind (Err e) s new m done refused =
        Continues-resized s new (tidied_slots s new refused) (ap (λ (t : ArenaState T). t.counter) refused.0)

  -- so it does after a compression, and one begins with the pointers that stand then
  pub compressed_goes_on : (generations : Generations) (s new : ArenaState T) (first : ℕ) (reset : Bool) (values : List T) → reset ≡ false → CountsUp generations (wraps_after (wraps generations) reset s) → length values ≡ arena_len s → IsTouched (compressed s (counter_after first (raise generations) reset s) values) new → Continues Fits s (compression (keys s.slots) (keys new.slots) ∷ []) new
  compressed_goes_on generations s new first reset values kept counts len same =
      let left : ArenaState T = compressed s (counter_after first (raise generations) reset s) values in
      let goes = Continues-compressed generations s left first reset values kept counts len refl in
      subst (λ ps. Continues Fits s (compression (keys s.slots) ps ∷ []) new) (sym (ap (λ (t : ArenaState T). keys t.slots) same.0)) (Continues-touched s left new (compression (keys s.slots) (keys left.slots) ∷ []) same goes)

  pub compressed_begins : (s new : ArenaState T) (counter : ℕ) (values : List T) → IsTouched (compressed s counter values) new → Fits (begun_with (keys new.slots)) new
  compressed_begins s new counter values same =
      let left : ArenaState T = compressed s counter values in
      subst (λ ps. Fits (begun_with ps) new) (sym (ap (λ (t : ArenaState T). keys t.slots) same.0)) (Continues-unchanged left new same (begun_with (keys left.slots)) (Fits-compressed s left counter values refl))

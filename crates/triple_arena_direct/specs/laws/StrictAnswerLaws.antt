-- Laws of strict calls: each takes every history that fits to one that fits, where generations count.
use Rattle.std.proofs.Common.{◌≡◌, ◌||◌, Bool, true, false, not, List, [], ◌∷◌, Ok, arith, refl, sym, inl, inr, true≢false}
use Rattle.triple_arena_ptr.specs.Pointers.{Pointer}
use Rattle.triple_arena_ptr.specs.Numbers.{Generations}
use Rattle.triple_arena_stack.specs.StackKind.{StackKind}
use Rattle.triple_arena_traits.specs.ArenaState.{ArenaState, with_value, IsWellFormed}
use Rattle.triple_arena_traits.specs.Insertion.{next_pointer, inserted}
use Rattle.triple_arena_traits.specs.SlotSteps.{IsTouched}
use Rattle.triple_arena_traits.specs.FreeList.{tidied, without_free_end}
use Rattle.triple_arena_traits.specs.Reallocation.{grown, reallocated, with_limit}
use Rattle.triple_arena_traits.specs.Recasting.{written}
use Rattle.triple_arena_traits.specs.Walks.{values}
use Rattle.triple_arena_traits.specs.laws.CompressionLaws.{length-values}
use Rattle.triple_arena_traits.specs.laws.EntryLaws.{slots-reallocated, slots-without_free_end, next-grown, well_formed-grown}
use Rattle.triple_arena_traits.specs.Histories.{ModelCall, insertion, resizing, is_live, Fits, Continues}
use Rattle.triple_arena_traits.specs.laws.HistoryLaws.{Continues-touched, Continues-append, Continues-grown, Continues-inserted, Continues-written, Continues-removed, Continues-invalidated, Continues-cleared, Continues-compressed, Continues-resized, Continues-tidied, Continues-limited}
use Rattle.triple_arena_direct.specs.StrictAnswers.{is_exhausted, is_exhausted_for_any}
use Rattle.triple_arena_direct.specs.laws.StrictRetainLaws.{Continues-ended}
use Rattle.triple_arena_direct.specs.StrictCalls.{StrictCall, to_insert, to_write, to_write_each, to_remove, to_invalidate, to_clear, to_retain, to_compress, to_reallocate, to_limit, to_tidy, to_give_up_end, IsUnless, cannot_end, IsStrictStep, AreStrictSteps}

not_refused : (live exhausted : Bool) → (not live || exhausted) ≡ false → (live ≡ true) × (exhausted ≡ false)
not_refused true true h = absurd (true≢false h)
not_refused true false h = (refl, refl)
not_refused false exhausted h = absurd (true≢false h)

module _ {T : Type 0} where
  -- a compression that is refused is a call too, which does nothing
  pub refused_compression : (kind : StackKind) (generations : Generations) (s : ArenaState T) → is_exhausted_for_any generations s ≡ true → IsStrictStep kind generations s (to_compress (values s.slots)) [] s
  refused_compression kind generations s exhausted = (length-values s.slots, rw exhausted (refl, (refl, omega arith)))

  Continues-unless : (refused : Bool) (call : ModelCall) (after s : ArenaState T) (calls : List ModelCall) (t : ArenaState T) → IsUnless refused call after s calls t → (refused ≡ false → Continues Fits s (call ∷ []) after) → Continues Fits s calls t
  Continues-unless true call after s calls t is done = rw is.0 (Continues-touched s s t [] is.1 (λ h fits. fits))
  Continues-unless false call after s calls t is done = rw is.0 (Continues-touched s after t (call ∷ []) is.1 (done refl))

  -- values that are written, one after another
  pub Continues-written_each : (ps : List Pointer) (values : List T) (s : ArenaState T) → Continues Fits s [] (written with_value ps values s)
  Continues-written_each [] values s h fits = fits
  Continues-written_each (p ∷ ps) [] s h fits = fits
  Continues-written_each (p ∷ ps) (v ∷ vs) s h fits = Continues-written_each ps vs (with_value s p.0 v) h (Continues-written s p.0 v h fits)

  -- the free slots at the end are given up
  pub Continues-without_free_end : (s t : ArenaState T) → IsTouched (without_free_end s) t → Continues Fits s (resizing ∷ []) t
  Continues-without_free_end s t is =
      Continues-touched s (without_free_end s) t (resizing ∷ []) is (Continues-resized s (without_free_end s) (slots-without_free_end s (without_free_end s) refl) refl)

  -- the free list is tidied
  pub Continues-tidy : (s t : ArenaState T) → IsTouched (tidied s) t → Continues Fits s (resizing ∷ []) t
  Continues-tidy s t is = Continues-touched s (tidied s) t (resizing ∷ []) is (Continues-tidied s (tidied s) refl)

  module _ (kind : StackKind) where
    -- an insertion, where a full arena grows first
    pub Continues-grown_inserted : (s t : ArenaState T) (value : T) → IsWellFormed s → IsTouched (inserted (grown kind s) value) t → Continues Fits s (insertion (next_pointer s) ∷ []) t
    Continues-grown_inserted s t value well is =
        let after = inserted (grown kind s) value in
        Continues-touched s after t (insertion (next_pointer s) ∷ []) is
        (Continues-append s (grown kind s) after [] (insertion (next_pointer s) ∷ [])
        (Continues-grown kind s (grown kind s) refl)
        (Continues-inserted (grown kind s) after (next_pointer s) value (well_formed-grown kind s well) (sym (next-grown kind s)) refl))

    module _ (generations : Generations) (counts : generations.counting ≡ true) where
      -- a call takes every history that fits to one that fits
      pub Continues-strict : (s : ArenaState T) (call : StrictCall T) (calls : List ModelCall) (t : ArenaState T) → IsStrictStep kind generations s call calls t → Continues Fits s calls t
      Continues-strict s (to_insert value) calls t (well, inl is) = rw is.1.0 (Continues-touched s s t [] is.1.1 (λ h fits. fits))
      Continues-strict s (to_insert value) calls t (well, inr is) = rw is.0 (Continues-grown_inserted s t value well is.1)
      Continues-strict s (to_write p value) calls t is = rw (is.1, is.2) (Continues-written s p.0 value)
      Continues-strict s (to_write_each ps values) calls t is = rw (is.0, is.1) (Continues-written_each ps values s)
      Continues-strict s (to_remove p) calls t is =
          Continues-unless (cannot_end kind generations s p) _ _ s calls t is
          (λ allowed.
          let both = not_refused (is_live s p) (is_exhausted generations s) allowed in
          Continues-removed generations s _ p (counts, both.1) both.0 refl)
      Continues-strict s (to_invalidate p) calls t is =
          Continues-unless (cannot_end kind generations s p) _ _ s calls t is
          (λ allowed.
          let both = not_refused (is_live s p) (is_exhausted generations s) allowed in
          Continues-invalidated generations s _ p (counts, both.1) both.0 refl)
      Continues-strict s to_clear calls t is =
          Continues-unless (is_exhausted_for_any generations s) _ _ s calls t is
          (λ allowed. Continues-cleared generations s _ (counts, allowed) refl)
      Continues-strict s (to_retain gone) calls t is =
          Continues-unless (is_exhausted_for_any generations s) _ _ s calls t is
          (λ allowed. Continues-ended generations gone s counts allowed)
      Continues-strict s (to_compress values) calls t (len, is) =
          Continues-unless (is_exhausted_for_any generations s) _ _ s calls t is
          (λ allowed. Continues-compressed generations s _ 2 false values refl (counts, allowed) len refl)
      Continues-strict s (to_reallocate m) calls t (one, inl is) =
          let after = reallocated kind s m in
          rw one (Continues-touched s after t (resizing ∷ []) is (Continues-resized s after (slots-reallocated kind s m after refl) refl))
      Continues-strict s (to_reallocate m) calls t (one, inr is) = rw one (Continues-tidy s t is)
      Continues-strict s (to_limit x) calls t (one, inl is) =
          rw one (Continues-touched s (with_limit s x) t (resizing ∷ []) is
          (Continues-limited {A = Unit {0}} {E = Unit {0}} (Ok tt) s (with_limit s x) x refl tt))
      Continues-strict s (to_limit x) calls t (one, inr is) = rw one (Continues-tidy s t is)
      Continues-strict s to_tidy calls t is = rw is.0 (Continues-tidy s t is.1)
      Continues-strict s to_give_up_end calls t is = rw is.0 (Continues-without_free_end s t is.1)

      -- and so do calls one after another
      pub Continues-steps : (s : ArenaState T) (steps : List (StrictCall T)) (calls : List ModelCall) (t : ArenaState T) → AreStrictSteps kind generations s steps calls t → Continues Fits s calls t
      Continues-steps s [] calls t ran = rw (ran.0, ran.1) (λ h fits. fits)
      Continues-steps s (step ∷ steps) calls t (m, first, second, step_ran, ran, both) =
          rw both (Continues-append s m t first second (Continues-strict s step first m step_ran) (Continues-steps m steps second t ran))

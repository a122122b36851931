-- What an arena answers whose counter is not exhausted, as strict arenas answer it.
use Rattle.std.proofs.Common.{◌≡◌, ◌<◌, ◌≤◌, arith, ℕ, ◌&&◌, ◌||◌, Bool, true, false, not, List, [], ◌∷◌, length, Option, Some, None, is_some, IsSome, Result, Ok, Err, IsOk, IfOk, OnOk, OnErr, refl, sym, ap, subst, ◌∙◌, inl, inr, true≢false}
use Rattle.std.proofs.lemmas.Bool.{cases_lt}
use Rattle.std.specs.Option.{option_map, ok_or}
use Rattle.std.specs.Result.{result_map_both}
use Rattle.triple_arena_base.specs.Invalidation.{allowed}
use Rattle.triple_arena_base.specs.declared.invalidation.InvalidationResult.{InvalidationResult}
use Rattle.triple_arena_base.specs.declared.invalidation.InvalidationResult.TheVariants.{Success, GenerationOverflow, InvalidPtr as invalid_ptr}
use Rattle.triple_arena_ptr.specs.Numbers.{Generations, raise}
use Rattle.triple_arena_ptr.specs.Pointers.{Pointer}
use Rattle.triple_arena_stack.specs.StackKind.{StackKind}
use Rattle.triple_arena_traits.specs.Ending.{told_of, map_told, removed, invalidated}
use Rattle.triple_arena_traits.specs.Entries.{look_up}
use Rattle.triple_arena_traits.specs.ArenaState.{ArenaState, arena_len, capacity, IsWellFormed}
use Rattle.triple_arena_traits.specs.Insertion.{next_pointer, inserted}
use Rattle.triple_arena_traits.specs.SlotSteps.{IsTouched, touched, insertion_steps}
use Rattle.triple_arena_traits.specs.Reallocation.{grown}
use Rattle.triple_arena_traits.specs.laws.EntryLaws.{same-grown}
use Rattle.triple_arena_traits.specs.Compression.{compressed}
use Rattle.triple_arena_traits.specs.laws.CompressionLaws.{count-closed_up}
use Rattle.triple_arena_traits.specs.Histories.{has, ModelCall, insertion, removal, invalidation, ended_by, Fits, Continues}
use Rattle.triple_arena_traits.specs.laws.PointerListLaws.{has-keys}
use Rattle.triple_arena_traits.specs.Walks.{keys}
use Rattle.triple_arena_direct.specs.declared.errors.StrictError.{StrictError}
use Rattle.triple_arena_direct.specs.declared.errors.StrictError.TheVariants.{InvalidPtr}
use Rattle.triple_arena_direct.specs.Gone.{IsUpToCounter, IsGoneForGood}
use Rattle.triple_arena_direct.specs.laws.GoneLaws.{ended-continues}
use Rattle.triple_arena_direct.specs.StrictAnswers.{is_exhausted, strict_of, calls_if_ok}
use Rattle.triple_arena_direct.specs.StrictCalls.{IsUnless, IsStrictStep, to_insert, to_remove, to_invalidate}
use Rattle.triple_arena_direct.specs.laws.StrictAnswerLaws.{Continues-strict}

-- where an exhausted counter was tested before, and the pointer with it
module _ {A : Type 0} where
  pub answered : (exhausted : Bool) (found : Option A) (r : InvalidationResult A) → r ≡ told_of exhausted found → (exhausted && is_some found) ≡ false → ok_or (allowed r) InvalidPtr ≡ strict_of exhausted found
  answered exhausted None r told tested = ap (λ (x : InvalidationResult A). ok_or (allowed x) InvalidPtr) told
  answered true (Some x) r told tested = absurd (true≢false tested)
  answered false (Some x) r told tested = ap (λ (x : InvalidationResult A). ok_or (allowed x) InvalidPtr) told

  -- what is known where something was found is known of an `Ok`
  pub if_found : (exhausted : Bool) (found : Option A) (r : Result A StrictError) (Q : Type 0) → r ≡ strict_of exhausted found → (IsSome found → Q) → OnOk r Q
  if_found exhausted None r Q is done = rw is tt
  if_found true (Some x) r Q is done = rw is tt
  if_found false (Some x) r Q is done = rw is (done refl)

-- the same of pointers, by their numbers
module _ {P : Type 0} (numbers : P → Pointer) where
  pub mapped_answer : (exhausted : Bool) (found : Option Pointer) (r : InvalidationResult P) → map_told numbers r ≡ told_of exhausted found → (exhausted && is_some found) ≡ false → result_map_both numbers (λ e. e) (ok_or (allowed r) InvalidPtr) ≡ strict_of exhausted found
  mapped_answer exhausted found (Success p) told tested = by exhausted found told tested
    where
      by : (exhausted : Bool) (found : Option Pointer) → Success (numbers p) ≡ told_of exhausted found → (exhausted && is_some found) ≡ false → Ok (numbers p) ≡ strict_of exhausted found
      by exhausted None told tested = absurd cc
      by true (Some x) told tested = absurd (true≢false tested)
      by false (Some x) told tested = cc
  mapped_answer exhausted found (GenerationOverflow p) told tested = by exhausted found told tested
    where
      by : (exhausted : Bool) (found : Option Pointer) → GenerationOverflow (numbers p) ≡ told_of exhausted found → (exhausted && is_some found) ≡ false → Ok (numbers p) ≡ strict_of exhausted found
      by exhausted None told tested = absurd cc
      by true (Some x) told tested = absurd (true≢false tested)
      by false (Some x) told tested = absurd cc
  mapped_answer exhausted found invalid_ptr told tested = by exhausted found told tested
    where
      by : (exhausted : Bool) (found : Option Pointer) → invalid_ptr ≡ told_of exhausted found → (exhausted && is_some found) ≡ false → Err InvalidPtr ≡ strict_of exhausted found
      by exhausted None told tested = refl
      by true (Some x) told tested = absurd (true≢false tested)
      by false (Some x) told tested = absurd cc

-- what becomes of the state, where the answer is this one, and the exhausted counter was tested before
module _ {A T : Type 0} (s t : ArenaState T) where
  pub kept_of : (exhausted : Bool) (found : Option A) (r : Result A StrictError) → r ≡ strict_of exhausted found → (exhausted && is_some found) ≡ false → (found ≡ None → IsTouched s t) → OnErr r (IsTouched s t)
  kept_of exhausted None r is tested kept = rw is (kept refl)
  kept_of true (Some x) r is tested kept = absurd (true≢false tested)
  kept_of false (Some x) r is tested kept = rw is tt

  -- a call that ends the entry of a pointer is a step
  pub step_of : (exhausted : Bool) (found : Option A) (r : Result A StrictError) (call : ModelCall) (after : ArenaState T) → r ≡ strict_of exhausted found → OnOk r (IsTouched after t) → OnErr r (IsTouched s t) → IsUnless (not (is_some found) || exhausted) call after s (calls_if_ok r (λ _. call)) t
  step_of exhausted None r call after is done kept = (ap (λ (x : Result A StrictError). calls_if_ok x (λ _. call)) is, rw is at kept)
  step_of true (Some x) r call after is done kept = (ap (λ (y : Result A StrictError). calls_if_ok y (λ _. call)) is, rw is at kept)
  step_of false (Some x) r call after is done kept = (ap (λ (y : Result A StrictError). calls_if_ok y (λ _. call)) is, rw is at done)

-- the same of pointers, by their numbers, where q is that of what was found
module _ {P A : Type 0} (numbers : P → Pointer) (q : Pointer) where
  pub kept_renewed : {T : Type 0} (s t : ArenaState T) (exhausted : Bool) (found : Option A) (r : Result P StrictError) → result_map_both numbers (λ e. e) r ≡ strict_of exhausted (option_map (λ _. q) found) → (exhausted && is_some found) ≡ false → (found ≡ None → IsTouched s t) → OnErr r (IsTouched s t)
  kept_renewed s t exhausted found (Ok x) is tested kept = tt
  kept_renewed s t exhausted None (Err e) is tested kept = kept refl
  kept_renewed s t true (Some x) (Err e) is tested kept = absurd (true≢false tested)
  kept_renewed s t false (Some x) (Err e) is tested kept = absurd cc

  -- what is known where something was found is known of an `Ok`
  pub on_renewed : (exhausted : Bool) (found : Option A) (r : Result P StrictError) (Q : Type 0) → result_map_both numbers (λ e. e) r ≡ strict_of exhausted (option_map (λ _. q) found) → (IsSome found → Q) → OnOk r Q
  on_renewed exhausted found (Err e) Q is done = tt
  on_renewed exhausted None (Ok x) Q is done = absurd cc
  on_renewed exhausted (Some y) (Ok x) Q is done = done refl

  -- and of its pointer
  pub at_renewed : (Q : Pointer → Type 0) (exhausted : Bool) (found : Option A) (r : Result P StrictError) → result_map_both numbers (λ e. e) r ≡ strict_of exhausted (option_map (λ _. q) found) → (IsSome found → Q q) → IfOk r (λ x. Q (numbers x))
  at_renewed Q exhausted found (Err e) is done = tt
  at_renewed Q exhausted None (Ok x) is done = absurd cc
  at_renewed Q true (Some y) (Ok x) is done = absurd cc
  at_renewed Q false (Some y) (Ok x) is done =
      let same : numbers x ≡ q = cc in
      subst Q (sym same) (done refl)

  pub step_renewed : {T : Type 0} (s t : ArenaState T) (exhausted : Bool) (found : Option A) (r : Result P StrictError) (call : Pointer → ModelCall) (after : ArenaState T) → result_map_both numbers (λ e. e) r ≡ strict_of exhausted (option_map (λ _. q) found) → OnOk r (IsTouched after t) → OnErr r (IsTouched s t) → IsUnless (not (is_some found) || exhausted) (call q) after s (calls_if_ok r (λ x. call (numbers x))) t
  step_renewed s t exhausted None (Ok x) call after is done kept = absurd cc
  step_renewed s t true (Some y) (Ok x) call after is done kept = absurd cc
  step_renewed s t false (Some y) (Ok x) call after is done kept =
      let same : numbers x ≡ q = cc in
      (ap (λ p. call p ∷ []) same, done)
  step_renewed s t exhausted None (Err e) call after is done kept = (refl, kept)
  step_renewed s t true (Some y) (Err e) call after is done kept = (refl, kept)
  step_renewed s t false (Some y) (Err e) call after is done kept = absurd cc

-- where the counter is exhausted, and an entry stands, none can be ended
pub cannot_end_if : (live exhausted : Bool) → (exhausted && live) ≡ true → (not live || exhausted) ≡ true
cannot_end_if live true tested = rw tested refl
cannot_end_if live false tested = absurd (true≢false (sym tested))

-- a call that was refused, and one that was done, where it was tested before
pub step_refused : {T : Type 0} (s after : ArenaState T) (call : ModelCall) (exhausted : Bool) → exhausted ≡ true → IsUnless exhausted call after s [] s
step_refused s after call true e = (refl, (refl, omega arith))
step_refused s after call false e = absurd (true≢false (sym e))

pub step_done : {T : Type 0} (s t after : ArenaState T) (call : ModelCall) (exhausted : Bool) (calls : List ModelCall) → exhausted ≡ false → calls ≡ call ∷ [] → IsTouched after t → IsUnless exhausted call after s calls t
step_done s t after call true calls e is done = absurd (true≢false e)
step_done s t after call false calls e is done = (is, done)

-- as many values stand after a compression as it moved
pub moved_len : {T : Type 0} (s t : ArenaState T) (counter : ℕ) (new : List T) → IsTouched (compressed s counter new) t → arena_len t ≡ arena_len s → length new ≡ arena_len s
moved_len s t counter new is len = sym (count-closed_up counter new) ∙ sym (ap arena_len is.0) ∙ len

pub mapped_test : {A : Type 0} (q : Pointer) (exhausted : Bool) (found : Option A) → (exhausted && is_some found) ≡ false → (exhausted && is_some (option_map (λ (_ : A). q) found)) ≡ false
mapped_test q exhausted None tested = tested
mapped_test q exhausted (Some x) tested = tested

-- an insertion is a step, which only a full arena refuses
pub step_inserted : {P E T : Type 0} (numbers : P → Pointer) (kind : StackKind) (generations : Generations) (s t : ArenaState T) (value : T) (r : Result P E) → IsWellFormed s → (arena_len s < capacity s → IsOk r) → IfOk r (λ p. numbers p ≡ next_pointer s) → OnOk r (IsTouched (inserted (grown kind s) value) t) → OnErr r (t ≡ s) → IsStrictStep kind generations s (to_insert value) (calls_if_ok r (λ p. insertion (numbers p))) t
step_inserted numbers kind generations s t value (Ok p) well has_place pointer done refused = (well, inr (ap (λ q. insertion q ∷ []) pointer, done))
step_inserted numbers kind generations s t value (Err e) well has_place pointer done refused = (well, inl (no_less (arena_len s) (capacity s) (λ less. true≢false (sym (has_place less))), (refl, rw refused (refl, omega arith))))
  where
    no_less : (m n : ℕ) → (m < n → ⊥) → n ≤ m
    no_less m n not = elim (cases_lt m n) [
      | inl less ↦ absurd (not less)
      | inr most ↦ most
    ]

-- an insertion counts the slots that it touches
pub counted_inserted : {P E T : Type 0} (s t : ArenaState T) (value : T) (r : Result P E) → OnOk r (t ≡ touched (insertion_steps s) (inserted s value)) → OnOk r (IsTouched (inserted s value) t)
counted_inserted s t value (Ok p) done = rw done (refl, omega arith)
counted_inserted s t value (Err e) done = tt

pub counted_place : {P E T : Type 0} (s t : ArenaState T) (value : T) (r : Result P E) → IsOk r × (t ≡ touched (insertion_steps s) (inserted s value)) → IsOk r × IsTouched (inserted s value) t
counted_place s t value r done = (done.0, rw done.1 (refl, omega arith))

-- where an arena has a place, growth leaves it as it is
pub grown_inserted : {P E T : Type 0} (kind : StackKind) (s t : ArenaState T) (value : T) (r : Result P E) → (IsOk r → arena_len s < capacity s) → OnOk r (IsTouched (inserted s value) t) → OnOk r (IsTouched (inserted (grown kind s) value) t)
grown_inserted kind s t value (Ok p) has_place done = rw (same-grown kind s (has_place refl)) done
grown_inserted kind s t value (Err e) has_place done = tt

-- the history of an insertion, done or refused
pub inserted_history : {P E T : Type 0} (numbers : P → Pointer) (s t : ArenaState T) (r : Result P E) → IfOk r (λ p. Continues Fits s (insertion (numbers p) ∷ []) t) → OnErr r (t ≡ s) → Continues Fits s (calls_if_ok r (λ p. insertion (numbers p))) t
inserted_history numbers s t (Ok p) done refused = done
inserted_history numbers s t (Err e) done refused = rw refused (λ h fits. fits)

-- what a call ended is gone for good, where it was done
pub gone_if_ok : {A E T : Type 0} (s t : ArenaState T) (r : Result A E) (call : A → ModelCall) (p : Pointer) → IsUpToCounter s → Continues Fits s (calls_if_ok r call) t → ((x : A) → has (ended_by (call x)) p ≡ true) → OnOk r (IsGoneForGood t p)
gone_if_ok s t (Ok x) call p up_to continues ends = ended-continues s t up_to (call x) continues p (ends x)
gone_if_ok s t (Err e) call p up_to continues ends = tt

-- and where it ended every entry
pub all_gone : {T : Type 0} (s t : ArenaState T) (call : ModelCall) → IsUpToCounter s → Continues Fits s (call ∷ []) t → ended_by call ≡ keys s.slots → (p : Pointer) → IsSome (look_up s.slots p) → IsGoneForGood t p
all_gone s t call up_to continues ends p live = ended-continues s t up_to call continues p (ap (λ ps. has ps p) ends ∙ has-keys s p ∙ live)

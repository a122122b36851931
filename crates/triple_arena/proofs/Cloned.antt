-- What a clone answers, where there is no room, and once the entries are copied.
use Rattle.std.proofs.Common.{◌≡◌, ◌∙◌, ℕ, ◌<◌, ◌≤◌, ◌↔◌, List, Option, Some, None, Result, Ok, Err, refl, sym, ap, subst}
use Rattle.std.specs.Borrow.{Bor}
use Rattle.std.specs.Option.{option_map, unwrap_or}
use Rattle.std.specs.Prelude.{IsErrAnd, MatchResult}
use Rattle.triple_arena_base.specs.declared.errors.CloneFromError.{CloneFromError}
use Rattle.triple_arena_base.specs.declared.errors.CloneFromError.TheVariants.{Reallocation, Map}
use Rattle.triple_arena_base.specs.declared.errors.ReallocationError.{ReallocationError}
use Rattle.triple_arena_base.specs.declared.errors.ReallocationError.TheVariants.{BeyondMaxCapacity}
use Rattle.triple_arena_ptr.specs.Pointers.{Pointer}
use Rattle.triple_arena_stack.specs.Capacity.{IsBeyond}
use Rattle.triple_arena_stack.specs.StackKind.{StackKind}
use Rattle.triple_arena_traits.specs.ArenaState.{ArenaState}
use Rattle.triple_arena_traits.specs.Reallocation.{ready_for}
use Rattle.triple_arena_traits.specs.FreeList.{laid_out}
use Rattle.triple_arena_traits.specs.SlotSteps.{IsTouched}
use Rattle.triple_arena.proofs.Touched.{touched_through}
use Rattle.triple_arena_traits.specs.Cloning.{IsCloneAnswer, IsRoomRefusal, counter_of}
use Rattle.triple_arena_traits.specs.Copying.{Copies}
use Rattle.triple_arena_traits.proofs.CopyLemmas.{beyond_told}
use Rattle.triple_arena_traits.proofs.Refused.{ok_not_err}

-- the counter that a clone is given
pub counter_given : {G : Type 0} (number : G → ℕ) (o : Option G) (two given : G) (next : Option ℕ) (first : ℕ) → given ≡ unwrap_or o two → option_map number o ≡ next → number two ≡ first → number given ≡ counter_of first next
counter_given number None two given next first is told start = ap number is ∙ start ∙ ap (counter_of first) told
counter_given number (Some x) two given next first is told start = ap number is ∙ ap (counter_of first) told

-- the slots of the copy, laid out in the arena that was made ready for them
pub copy_laid_out : {T : Type 0} (kind : StackKind) (s made new : ArenaState T) (n last : ℕ) (put : List (Option (ℕ × T))) (given counter : ℕ) → IsTouched (laid_out made put given) new → IsTouched (ready_for kind s n) made → n ≡ last → given ≡ counter → IsTouched (laid_out (ready_for kind s last) put counter) new
copy_laid_out kind s made new n last put given counter is ready same under =
    subst (λ k. IsTouched (laid_out (ready_for kind s last) put k) new) under
    (subst (λ k. IsTouched (laid_out (ready_for kind s k) put given) new) same
    (touched_through (λ r. laid_out r put given) (λ r i j. refl) (λ r. refl) (ready_for kind s n) made new ready is))

module _ {E : Type 0} where
  -- an answer of the copy, mapped to one of the clone
  abbrev pub IsMapped : Result (Unit {0}) E → Result (Unit {0}) (CloneFromError E) → Type 0
  IsMapped copy result = MatchResult copy (λ x. result ≡ Ok x) (λ e. IsErrAnd result (λ x. x ≡ Map e))

  -- the answer that a clone passes on is that of the copy
  answer_passed : (answer copy : Result (Unit {0}) E) (result : Result (Unit {0}) (CloneFromError E)) → IsMapped copy result → IsCloneAnswer answer result → copy ≡ answer
  answer_passed (Ok x) (Ok y) result mapped is = cc
  answer_passed (Ok x) (Err e) (Ok y) mapped is = absurd mapped
  answer_passed (Ok x) (Err e) (Err f) mapped is = absurd (cc)
  answer_passed (Err d) (Ok y) result mapped is = absurd (cc)
  answer_passed (Err d) (Err e) (Ok y) mapped is = absurd mapped
  answer_passed (Err d) (Err e) (Err f) mapped is = cc

  pub passed_on : {P U T M : Type 0} (numbers : P → Pointer) (step : M → P → Bor U → Result T E → M → Type 0) (f : M) (source : List (Pointer × U)) (new : List (Option (ℕ × T))) (answer copy : Result (Unit {0}) E) (result : Result (Unit {0}) (CloneFromError E)) → IsMapped copy result → IsCloneAnswer answer result → Copies numbers step f source copy new → Copies numbers step f source answer new
  passed_on numbers step f source new answer copy result mapped is =
      subst (λ r. Copies numbers step f source r new) (answer_passed answer copy result mapped is)

  -- and it is no refusal of room
  pub no_refusal : (copy : Result (Unit {0}) E) (result : Result (Unit {0}) (CloneFromError E)) → IsMapped copy result → IsRoomRefusal result → ⊥
  no_refusal (Ok x) result mapped refused = subst IsRoomRefusal mapped refused
  no_refusal (Err e) (Ok y) mapped refused = refused
  no_refusal (Err e) (Err (Map f)) mapped refused = refused
  no_refusal (Err e) (Err (Reallocation f)) mapped refused = cc

  module _ (capacity greatest n last : ℕ) (limit : Option ℕ) (same : n ≡ last) (within : n ≤ greatest) (result : Result (Unit {0}) (CloneFromError E)) where
    -- when the limit is what there is no room for
    pub beyond_room : (refusal : ReallocationError) → result ≡ Err (Reallocation refusal) → (◌≡◌ {A = Result (Unit {0}) ReallocationError} (Err refusal) (Err BeyondMaxCapacity) ↔ ((capacity < n) × (n ≤ greatest) × IsBeyond limit n)) → (result ≡ Err (Reallocation BeyondMaxCapacity)) ↔ ((capacity < last) × IsBeyond limit last)
    beyond_room refusal is when =
        subst (λ m. (result ≡ Err (Reallocation BeyondMaxCapacity)) ↔ ((capacity < m) × IsBeyond limit m)) same (beyond_told (Err refusal) result refusal refl is when within)

    -- it is not, where there is room
    pub not_beyond : (copy : Result (Unit {0}) E) (x : Unit {0}) → IsMapped copy result → (◌≡◌ {A = Result (Unit {0}) ReallocationError} (Ok x) (Err BeyondMaxCapacity) ↔ ((capacity < n) × (n ≤ greatest) × IsBeyond limit n)) → (result ≡ Err (Reallocation BeyondMaxCapacity)) ↔ ((capacity < last) × IsBeyond limit last)
    not_beyond copy x mapped when = (
      λ is. absurd (no_refusal copy result mapped (subst IsRoomRefusal (sym is) tt)),
      λ h.
          let above = subst (λ m. (capacity < m) × IsBeyond limit m) (sym same) h in
          absurd (ok_not_err x BeyondMaxCapacity (when.1 (above.0, within, above.1))),
    )

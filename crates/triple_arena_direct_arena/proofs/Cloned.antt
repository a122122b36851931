-- What a clone answers, where there is no room, and once the entries are copied.
use Rattle.std.proofs.Common.{◌≡◌, ℕ, ◌<◌, ◌≤◌, ◌↔◌, List, Option, Result, Ok, Err, refl, sym, subst}
use Rattle.std.specs.Borrow.{Bor}
use Rattle.triple_arena_base.specs.declared.errors.CloneFromError.{CloneFromError}
use Rattle.triple_arena_base.specs.declared.errors.CloneFromError.TheVariants.{Reallocation}
use Rattle.triple_arena_base.specs.declared.errors.ReallocationError.{ReallocationError}
use Rattle.triple_arena_base.specs.declared.errors.ReallocationError.TheVariants.{BeyondMaxCapacity}
use Rattle.triple_arena_ptr.specs.Pointers.{Pointer}
use Rattle.triple_arena_stack.specs.Capacity.{IsBeyond}
use Rattle.triple_arena_traits.specs.Cloning.{IsCloneAnswer, IsRoomRefusal}
use Rattle.triple_arena_traits.specs.Copying.{Copies}
use Rattle.triple_arena_traits.proofs.CopyLemmas.{beyond_told}
use Rattle.triple_arena_traits.proofs.Refused.{ok_not_err}

module _ {E : Type 0} where
  -- a copy of all entries
  pub on_all_copied : {P U T M : Type 0} (numbers : P → Pointer) (step : M → P → Bor U → Result T E → M → Type 0) (f : M) (source : List (Pointer × U)) (new : List (Option (ℕ × T))) (answer : Result (Unit {0}) E) (x : Unit {0}) → IsCloneAnswer answer (Ok x) → Copies numbers step f source (Ok x) new → Copies numbers step f source answer new
  on_all_copied numbers step f source new (Ok y) x is copies = copies
  on_all_copied numbers step f source new (Err e) x is copies = absurd (cc)

  module _ (capacity greatest n last : ℕ) (limit : Option ℕ) (same : n ≡ last) (within : n ≤ greatest) (result : Result (Unit {0}) (CloneFromError E)) where
    -- when the limit is what there is no room for
    pub beyond_room : (refusal : ReallocationError) → result ≡ Err (Reallocation refusal) → (◌≡◌ {A = Result (Unit {0}) ReallocationError} (Err refusal) (Err BeyondMaxCapacity) ↔ ((capacity < n) × (n ≤ greatest) × IsBeyond limit n)) → (result ≡ Err (Reallocation BeyondMaxCapacity)) ↔ ((capacity < last) × IsBeyond limit last)
    beyond_room refusal is when =
        subst (λ m. (result ≡ Err (Reallocation BeyondMaxCapacity)) ↔ ((capacity < m) × IsBeyond limit m)) same (beyond_told (Err refusal) result refusal refl is when within)

    -- it is not, where there is room
    pub not_beyond : (IsRoomRefusal result → ⊥) → (x : Unit {0}) → (◌≡◌ {A = Result (Unit {0}) ReallocationError} (Ok x) (Err BeyondMaxCapacity) ↔ ((capacity < n) × (n ≤ greatest) × IsBeyond limit n)) → (result ≡ Err (Reallocation BeyondMaxCapacity)) ↔ ((capacity < last) × IsBeyond limit last)
    not_beyond not_refused x when = (
      λ is. absurd (not_refused (subst IsRoomRefusal (sym is) tt)),
      λ h.
          let above = subst (λ m. (capacity < m) × IsBeyond limit m) (sym same) h in
          absurd (ok_not_err x BeyondMaxCapacity (when.1 (above.0, within, above.1))),
    )

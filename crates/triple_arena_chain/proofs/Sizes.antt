-- Chains that grow with their arena, and how its refusals are told.
use Rattle.std.proofs.Common.{◌≡◌, ◌≤◌, ◌<◌, ◌↔◌, ℕ, Result, Ok, Err, refl, sym, ◌∙◌, subst}
use Rattle.std.specs.Prelude.{IsOk, OnOk}
use Rattle.triple_arena_base.specs.declared.errors.ReallocationError.{ReallocationError}
use Rattle.triple_arena_base.specs.declared.errors.ReallocationError.TheVariants.{BeyondMaxCapacity, AllocError}
use Rattle.triple_arena_stack.specs.Capacity.{IsFullAtLimit, CanGrow}
use Rattle.triple_arena_chain.specs.declared.place.ChainError.{ChainError}
use Rattle.triple_arena_chain.specs.declared.place.ChainError.TheVariants.{NoRoom, NoMemory}
use Rattle.triple_arena_chain.specs.Chains.{IsRefusedRoom}
use Rattle.triple_arena_chain.specs.Room.{Fill, TakesOneMore, HasIndex, DependsOnFill}

-- one entry more, and then as many
pub more_then_same : {A : Type 0} (capacity_of : A → ℕ) (grown_from : A → A) (arena : A) (old mid new : Fill)
    → TakesOneMore capacity_of grown_from arena old mid → new.len ≡ mid.len → new.capacity ≡ mid.capacity → new.limit ≡ mid.limit → TakesOneMore capacity_of grown_from arena old new
more_then_same capacity_of grown_from arena old mid new more len capacity limit = record {
  len = len ∙ more.len;
  capacity = subst (λ n. old.capacity ≤ n) (sym capacity) more.capacity;
  limit = limit ∙ more.limit;
  grown = capacity ∙ more.grown;
  had_place = λ place. capacity ∙ more.had_place place;
}

-- a refusal of an arena, as chains tell it
abbrev pub told_as : {X : Type 0} → Result X ReallocationError → Result X ChainError
told_as (Ok x) = Ok x
told_as (Err BeyondMaxCapacity) = Err NoRoom
told_as (Err AllocError) = Err NoMemory

pub depends_on_room : {X : Type 0} (has_memory : ℕ → Type 0) (greatest : ℕ) (old : Fill) (answer : Result X ReallocationError) (result : Result X ChainError)
    → result ≡ told_as answer → ((answer ≡ Err BeyondMaxCapacity) ↔ IsFullAtLimit old.capacity old.limit old.len)
    → (CanGrow has_memory old.capacity old.limit greatest → IsOk answer) → OnOk answer (HasIndex greatest old) → (old.len < old.capacity → IsOk answer)
    → DependsOnFill IsRefusedRoom NoRoom has_memory greatest old result
depends_on_room {X = X} has_memory greatest old answer result is beyond memory index place = subst (DependsOnFill IsRefusedRoom NoRoom has_memory greatest old) (sym is) (by_answer answer beyond memory index place)
  where
    by_answer : (r : Result X ReallocationError) → ((r ≡ Err BeyondMaxCapacity) ↔ IsFullAtLimit old.capacity old.limit old.len)
        → (CanGrow has_memory old.capacity old.limit greatest → IsOk r) → OnOk r (HasIndex greatest old) → (old.len < old.capacity → IsOk r) → DependsOnFill IsRefusedRoom NoRoom has_memory greatest old (told_as r)
    by_answer (Ok x) beyond memory index place = record { refusal = tt; no_room = (λ e. absurd (cc), λ full. absurd (err (beyond.1 full))); with_memory = memory; indexed = index; had_place = place }
      where
        err : Ok x ≡ Err BeyondMaxCapacity → ⊥
        err e = absurd (cc)
    by_answer (Err BeyondMaxCapacity) beyond memory index place = record { refusal = tt; no_room = (λ e. beyond.0 refl, λ full. refl); with_memory = memory; indexed = index; had_place = place }
    by_answer (Err AllocError) beyond memory index place = record { refusal = tt; no_room = (λ e. absurd (cc), λ full. absurd (other (beyond.1 full))); with_memory = memory; indexed = index; had_place = place }
      where
        other : ◌≡◌ {A = Result X ReallocationError} (Err AllocError) (Err BeyondMaxCapacity) → ⊥
        other e = absurd (cc)

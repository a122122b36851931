-- A full arena that grows has room for one more entry.
use Rattle.std.proofs.Common.{◌≢◌, ℕ, ◌*◌, ◌<◌, ◌≤◌, ◌≡◌, ◌==◌, Option, Some, None, Result, Ok, Err, OnOk, cond, min, arith}
use Rattle.std.proofs.lemmas.Option.{same_Some}
use Rattle.triple_arena_stack.specs.StackKind.{StackKind, reallocated_room, IsOfKind}
use Rattle.triple_arena_stack.specs.StackKind.StackKind.{heap, limited, fixed, array}
use Rattle.triple_arena_stack.specs.Capacity.{stack_capacity, IsAtLimit, IsWithin, IsBeyond, next_capacity}
use Rattle.triple_arena_traits.specs.ArenaState.{ArenaState, capacity, slot_count}
use Rattle.triple_arena_traits.specs.Reallocation.{with_room_for}
use Rattle.triple_arena_traits.specs.laws.EntryLaws.{doubled}

pub on_ok : {A E P Q : Type 0} (r : Result A E) → (P → Q) → OnOk r P → OnOk r Q
on_ok (Ok x) f h = f h
on_ok (Err e) f h = h

grown_room : (k : StackKind) (room : ℕ) (limit : Option ℕ) (greatest len : ℕ) → IsOfKind k room limit → (IsAtLimit limit (min (stack_capacity room limit) greatest) → ⊥) → min (stack_capacity room limit) greatest ≢ greatest → min (stack_capacity room limit) greatest < min (stack_capacity (reallocated_room k room len (min (stack_capacity (cond (min (stack_capacity room limit) greatest == 0) 4 (min (stack_capacity room limit) greatest * 2)) limit) greatest)) limit) greatest
grown_room heap room None greatest len kind below inner = omega (arith, inner, doubled (min room greatest))
grown_room heap room (Some x) greatest len kind below inner = absurd (cc)
grown_room limited room None greatest len kind below inner = absurd (let h = kind.1 in cc)
grown_room limited room (Some x) greatest len kind below inner =
    let under : min (min room x) greatest < x = omega (arith, below) in
    omega (arith, inner, under, doubled (min (min room x) greatest))
grown_room fixed room None greatest len kind below inner = absurd (cc)
grown_room fixed room (Some x) greatest len kind below inner =
    let same = same_Some _ _ kind in
    let under : min (min room x) greatest < x = omega (arith, below) in
    absurd (omega (arith, inner, under, same))
grown_room (array n) room None greatest len kind below inner = absurd (let h = kind.1 in cc)
grown_room (array n) room (Some x) greatest len kind below inner =
    let same = same_Some _ _ kind.1 in
    let under : min (min room x) greatest < x = omega (arith, below) in
    absurd (omega (arith, inner, under, same, kind.0))

-- growth of an arena that is neither at its limit nor at the greatest index makes room
pub grown_more : {T : Type 0} (k : StackKind) (s : ArenaState T) → IsOfKind k s.room s.limit → (IsAtLimit s.limit (capacity s) → ⊥) → capacity s ≢ s.greatest → capacity s < capacity (with_room_for k s (next_capacity (capacity s) s.limit s.greatest))
grown_more k s kind below inner = grown_room k s.room s.limit s.greatest (slot_count s) kind below inner

-- a reallocation that the limit allows makes place for what was asked
pub place_made : (k : StackKind) (room len m : ℕ) (limit : Option ℕ) → IsOfKind k room limit → IsWithin limit m → m ≤ stack_capacity (reallocated_room k room len m) limit
place_made heap room len m None kind within = omega arith
place_made heap room len m (Some most) kind within = absurd (cc)
place_made limited room len m None kind within = omega arith
place_made limited room len m (Some most) kind within = omega arith
place_made fixed room len m None kind within = absurd (cc)
place_made fixed room len m (Some most) kind within = let same = same_Some _ _ kind in omega arith
place_made (array places) room len m None kind within = absurd (let h = kind.1 in cc)
place_made (array places) room len m (Some most) kind within =
    let same = same_Some _ _ kind.1 in
    omega (arith, kind.0)

pub place_after : {A E : Type 0} (r : Result A E) (k : StackKind) (room len m after : ℕ) (old new : Option ℕ) → IsOfKind k room old → new ≡ old → OnOk r (after ≡ reallocated_room k room len m) → OnOk r (IsWithin old m) → OnOk r (m ≤ stack_capacity after new)
place_after (Ok x) k room len m after old new kind same made within = rw (made, same) (place_made k room len m old kind within)
place_after (Err e) k room len m after old new kind same made within = made

-- the capacity that a full arena grows to is not beyond the limit
pub never_beyond : (capacity greatest : ℕ) (limit : Option ℕ) → IsBeyond limit (next_capacity capacity limit greatest) → ⊥
never_beyond capacity greatest None beyond = beyond
never_beyond capacity greatest (Some most) beyond = omega arith

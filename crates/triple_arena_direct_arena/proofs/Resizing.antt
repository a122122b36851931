-- A direct arena whose stack was asked for other room, or for another limit.
use Rattle.std.proofs.Common.{◌≡◌, ℕ, ◌≤◌, List, map, length, Option, Some, Result, Ok, Err, IsOk, OnOk, OnErr, None, refl, sym, ap, subst, ◌∙◌, arith}
use Rattle.std.proofs.lemmas.List.{length-map}
use Rattle.triple_arena_stack.specs.StackKind.{StackKind, reallocated_room}
use Rattle.triple_arena_stack.specs.Capacity.{stack_capacity}
use Rattle.triple_arena_direct_arena.specs.DirectState.{DirectState, direct_slot_count, direct_with_room_for, direct_with_limit}
use Rattle.triple_arena_direct_arena.specs.DirectSlot.{direct_slot_entry}
use Rattle.triple_arena_direct_arena.specs.DirectLayout.{direct_of, Counts}
use Rattle.triple_arena_direct_arena.specs.declared.slot.DirectSlot.{DirectSlot}
use Rattle.triple_arena_direct_arena.proofs.Held.{made, Counts-room}

capacity_within : (room : ℕ) (limit : Option ℕ) → stack_capacity room limit ≤ room
capacity_within room None = omega arith
capacity_within room (Some most) = omega arith

module _ {P T I G : Type 0} (number : G → ℕ) {A E : Type 0} where
  -- the arena after a reallocation of its stack
  pub resized : (kind : StackKind) (es es' : List (DirectSlot P T I G)) (len room room' : ℕ) (limit limit' : Option ℕ) (greatest : ℕ) (s : DirectState T) (m : ℕ) (r : Result A E) → Counts len (direct_of number es room limit greatest) → direct_of number es room limit greatest ≡ s → es' ≡ es → limit' ≡ limit → OnOk r (room' ≡ reallocated_room kind room (length es) m) → OnErr r (room' ≡ room)
      → Counts len (direct_of number es' room' limit' greatest) × OnOk r (direct_of number es' room' limit' greatest ≡ direct_with_room_for kind s m) × OnErr r (direct_of number es' room' limit' greatest ≡ s)
  resized kind es es' len room room' limit limit' greatest s m (Ok x) counts is items l ok err =
      let put : map (direct_slot_entry number) es' ≡ s.slots = ap (map (direct_slot_entry number)) items ∙ ap (λ (t : DirectState T). t.slots) is in
      let size : length es ≡ direct_slot_count s = sym (length-map es (direct_slot_entry number)) ∙ ap direct_slot_count is in
      let given : room' ≡ reallocated_room kind s.room (direct_slot_count s) m = ok ∙ ap (λ n. reallocated_room kind n (length es) m) (ap (λ (t : DirectState T). t.room) is) ∙ ap (λ n. reallocated_room kind s.room n m) size in
      let both = made number es' len room' limit' greatest (direct_with_room_for kind s m) put given (l ∙ ap (λ (t : DirectState T). t.limit) is) (ap (λ (t : DirectState T). t.greatest) is) (Counts-room kind len s m (subst (Counts len) is counts)) in
      (both.0, both.1, tt)
  resized kind es es' len room room' limit limit' greatest s m (Err e) counts is items l ok err =
      let both = made number es' len room' limit' greatest s (ap (map (direct_slot_entry number)) items ∙ ap (λ (t : DirectState T). t.slots) is) (err ∙ ap (λ (t : DirectState T). t.room) is) (l ∙ ap (λ (t : DirectState T). t.limit) is) (ap (λ (t : DirectState T). t.greatest) is) (subst (Counts len) is counts) in
      (both.0, tt, both.1)

  -- the arena after its stack was asked for another limit
  pub relimited : (es es' : List (DirectSlot P T I G)) (len room room' : ℕ) (limit limit' : Option ℕ) (greatest : ℕ) (s : DirectState T) (m : ℕ) (r : Result A E) → Counts len (direct_of number es room limit greatest) → direct_of number es room limit greatest ≡ s → es' ≡ es → room' ≡ room → OnOk r (limit' ≡ Some m) → OnErr r (limit' ≡ limit) → (IsOk r → direct_slot_count s ≤ m)
      → Counts len (direct_of number es' room' limit' greatest) × OnOk r (direct_of number es' room' limit' greatest ≡ direct_with_limit s m) × OnErr r (direct_of number es' room' limit' greatest ≡ s)
  relimited es es' len room room' limit limit' greatest s m (Ok x) counts is items same ok err few =
      let own = subst (Counts len) is counts in
      let put : map (direct_slot_entry number) es' ≡ s.slots = ap (map (direct_slot_entry number)) items ∙ ap (λ (t : DirectState T). t.slots) is in
      let now : Counts len (direct_with_limit s m) = record { counted = own.counted; fits = omega (arith, own.fits, few refl, capacity_within s.room s.limit) } in
      let both = made number es' len room' limit' greatest (direct_with_limit s m) put (same ∙ ap (λ (t : DirectState T). t.room) is) ok (ap (λ (t : DirectState T). t.greatest) is) now in
      (both.0, both.1, tt)
  relimited es es' len room room' limit limit' greatest s m (Err e) counts is items same ok err few =
      let both = made number es' len room' limit' greatest s (ap (map (direct_slot_entry number)) items ∙ ap (λ (t : DirectState T). t.slots) is) (same ∙ ap (λ (t : DirectState T). t.room) is) (err ∙ ap (λ (t : DirectState T). t.limit) is) (ap (λ (t : DirectState T). t.greatest) is) (subst (Counts len) is counts) in
      (both.0, tt, both.1)

module _ {P T I G : Type 0} (number : G → ℕ) where
  -- so many slots are in use
  pub size_is : (es : List (DirectSlot P T I G)) (room : ℕ) (limit : Option ℕ) (greatest : ℕ) (s : DirectState T) → direct_of number es room limit greatest ≡ s → length es ≡ direct_slot_count s
  size_is es room limit greatest s is = sym (length-map es (direct_slot_entry number)) ∙ ap direct_slot_count is

  -- the room that is asked for
  pub room_asked : (kind : StackKind) (es : List (DirectSlot P T I G)) (room : ℕ) (limit : Option ℕ) (greatest : ℕ) (s : DirectState T) (m : ℕ) → direct_of number es room limit greatest ≡ s → reallocated_room kind room (length es) m ≡ (direct_with_room_for kind s m).room
  room_asked kind es room limit greatest s m is =
      ap (λ n. reallocated_room kind n (length es) m) (ap (λ (t : DirectState T). t.room) is) ∙ ap (λ n. reallocated_room kind s.room n m) (size_is es room limit greatest s is)

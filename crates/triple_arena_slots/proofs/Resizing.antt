-- What a change of the stack's room or limit carries over to the arena, where it is done and where it is refused.
use Rattle.std.proofs.Common.{◌≡◌, ℕ, ◌+◌, ◌<◌, ◌≤◌, ◌∷◌, [], List, length, map, Option, Some, None, Result, Ok, Err, IsOk, OnOk, OnErr, min, refl, sym, ap, subst, ◌∙◌, arith}
use Rattle.std.proofs.lemmas.List.{length-map}
use Rattle.triple_arena_stack.specs.StackKind.{StackKind, reallocated_room}
use Rattle.triple_arena_stack.specs.Capacity.{stack_capacity, IsAtLimit, IsWithin}
use Rattle.triple_arena_slots.specs.declared.slot.ArenaSlot.{ArenaSlot}
use Rattle.triple_arena_slots.specs.Slot.{entry_of}
use Rattle.triple_arena_slots.specs.Layout.{state_of, Shows}
use Rattle.triple_arena_traits.specs.ArenaState.{ArenaState, capacity, slot_count, arena_len}
use Rattle.triple_arena_traits.specs.FreeList.{tidied}
use Rattle.triple_arena_traits.specs.Reallocation.{with_room_for, reallocated}
use Rattle.triple_arena_traits.specs.laws.EntryLaws.{within_room, slots-reallocated}
use Rattle.triple_arena_traits.specs.Histories.{resizing, Fits, Continues}
use Rattle.triple_arena_traits.specs.laws.HistoryLaws.{Continues-resized, Continues-tidied}

pub on_err : {A E P Q : Type 0} (r : Result A E) → (P → Q) → OnErr r P → OnErr r Q
on_err (Ok x) f h = h
on_err (Err e) f h = f h

limit_fits : (n room x greatest : ℕ) (limit : Option ℕ) → n ≤ min (stack_capacity room limit) greatest → n ≤ x → n ≤ min (stack_capacity room (Some x)) greatest
limit_fits n room x greatest None fits below = omega arith
limit_fits n room x greatest (Some most) fits below = omega arith

pub below_above : (a b : ℕ) → a < b → b ≤ a → ⊥
below_above a b less more = omega arith

-- a limit that is reached doesn't allow one more
pub not_within : (limit : Option ℕ) (n : ℕ) → IsAtLimit limit n → IsWithin limit (n + 1) → ⊥
not_within None n reached within = reached
not_within (Some most) n reached within = omega arith

-- a place within what a stack holds, and within the indexes, is one of the arena's
pub placed : {A E : Type 0} (r : Result A E) (m n greatest : ℕ) → OnOk r (m ≤ n) → OnOk r (m ≤ greatest → m ≤ min n greatest)
placed (Ok x) m n greatest place = λ indexed. omega arith
placed (Err e) m n greatest place = place

module _ {T : Type 0} where
  pub below_room : (s : ArenaState T) → arena_len s < capacity s → arena_len s < stack_capacity s.room s.limit
  below_room s below = omega arith

  pub Continues-reallocated : {A E : Type 0} (kind : StackKind) (r : Result A E) (s t : ArenaState T) (m : ℕ) → OnOk r (t ≡ reallocated kind s m) → OnErr r (t ≡ tidied s) → Continues Fits s (resizing ∷ []) t
  Continues-reallocated kind (Ok x) s t m done refused =
      Continues-resized s t (slots-reallocated kind s m t done) (ap (λ (a : ArenaState T). a.counter) done)
  Continues-reallocated kind (Err e) s t m done refused = Continues-tidied s t refused

module _ {P T I G : Type 0} (number : G → ℕ) where
  -- what is said of a stack's room, limit and length is said of the arena's
  pub as_shown : (es : List (ArenaSlot P T I G)) (root : Option ℕ) (len counter room : ℕ) (limit : Option ℕ) (greatest steps : ℕ) (s : ArenaState T) (Q : ℕ → Option ℕ → ℕ → Type 0) → Shows number es root len (state_of number es root counter room limit greatest steps) → state_of number es root counter room limit greatest steps ≡ s → Q room limit (length es) → Q s.room s.limit (slot_count s)
  as_shown es root len counter room limit greatest steps s Q own is h =
      subst (λ (a : ArenaState T). Q a.room a.limit (slot_count a)) is (subst (Q room limit) (sym (length-map es (entry_of number))) h)

  -- with another room or limit the slots are shown as before, if they fit
  shows_again : (es : List (ArenaSlot P T I G)) (root : Option ℕ) (len counter room room' : ℕ) (limit limit' : Option ℕ) (greatest steps : ℕ) → Shows number es root len (state_of number es root counter room limit greatest steps) → length (map (entry_of number) es) ≤ min (stack_capacity room' limit') greatest → Shows number es root len (state_of number es root counter room' limit' greatest steps)
  shows_again es root len counter room room' limit limit' greatest steps own fits =
      record {
        slots = own.slots;
        linked = own.linked;
        counted = own.counted;
        well = record { free_once = own.well.free_once; total = own.well.total; fits = fits };
      }

  pub room_changed : {A E : Type 0} (r : Result A E) (kind : StackKind) (es es' : List (ArenaSlot P T I G)) (root root' : Option ℕ) (len counter room room' : ℕ) (limit limit' : Option ℕ) (greatest steps steps' m : ℕ) (s : ArenaState T) → Shows number es root len (state_of number es root counter room limit greatest steps) → state_of number es root counter room limit greatest steps ≡ s → es' ≡ es → root' ≡ root → limit' ≡ limit → OnOk r (room' ≡ reallocated_room kind room (length es) m) → OnErr r (room' ≡ room) → steps' ≡ steps → Shows number es' root' len (state_of number es' root' counter room' limit' greatest steps') × OnOk r (state_of number es' root' counter room' limit' greatest steps' ≡ with_room_for kind s m) × OnErr r (state_of number es' root' counter room' limit' greatest steps' ≡ s)
  room_changed (Ok x) kind es es' root root' len counter room room' limit limit' greatest steps steps' m s own is same from most made kept n =
      let count = length-map es (entry_of number) in
      let fits = subst (λ n. length (map (entry_of number) es) ≤ min (stack_capacity (reallocated_room kind room n m) limit) greatest) count (within_room kind room (length (map (entry_of number) es)) m greatest limit own.well.fits) in
      rw (same, from, most, made, n) (
        shows_again es root len counter room (reallocated_room kind room (length es) m) limit limit greatest steps own fits,
        ap (λ k. state_of number es root counter (reallocated_room kind room k m) limit greatest steps) (sym count) ∙ ap (λ (a : ArenaState T). with_room_for kind a m) is,
        tt,
      )
  room_changed (Err e) kind es es' root root' len counter room room' limit limit' greatest steps steps' m s own is same from most made kept n = rw (same, from, most, kept, n) (own, tt, is)

  pub limit_changed : {A E : Type 0} (r : Result A E) (es es' : List (ArenaSlot P T I G)) (root root' : Option ℕ) (len counter room room' : ℕ) (limit limit' : Option ℕ) (greatest steps steps' x : ℕ) (s : ArenaState T) → Shows number es root len (state_of number es root counter room limit greatest steps) → state_of number es root counter room limit greatest steps ≡ s → es' ≡ es → root' ≡ root → room' ≡ room → (IsOk r → length es ≤ x) → OnOk r (limit' ≡ Some x) → OnErr r (limit' ≡ limit) → steps' ≡ steps → Shows number es' root' len (state_of number es' root' counter room' limit' greatest steps') × OnOk r (state_of number es' root' counter room' limit' greatest steps' ≡ record s { limit = Some x }) × OnErr r (state_of number es' root' counter room' limit' greatest steps' ≡ s)
  limit_changed (Ok y) es es' root root' len counter room room' limit limit' greatest steps steps' x s own is same from place within made kept n =
      let below = subst (λ n. n ≤ x) (sym (length-map es (entry_of number))) (within refl) in
      let fits = limit_fits (length (map (entry_of number) es)) room x greatest limit own.well.fits below in
      rw (same, from, place, made, n) (
        shows_again es root len counter room room limit (Some x) greatest steps own fits,
        ap (λ (a : ArenaState T). record a { limit = Some x }) is,
        tt,
      )
  limit_changed (Err e) es es' root root' len counter room room' limit limit' greatest steps steps' x s own is same from place within made kept n = rw (same, from, place, kept, n) (own, tt, is)

-- what there is place for, where neither room nor limit changed
pub room_kept : (n room new_room : ℕ) (limit new_limit : Option ℕ) → new_room ≡ room → new_limit ≡ limit → n ≤ stack_capacity room limit → n ≤ stack_capacity new_room new_limit
room_kept n room new_room limit new_limit same_room same_limit fits = rw (same_room, same_limit) fits

-- What the slots and the state are, where values alone change.
use Rattle.std.proofs.Common.{◌≡◌, ℕ, zero, suc, List, [], ◌∷◌, Option, Some, None, slice_get, refl, sym, ap, subst, ◌∙◌}
use Rattle.std.specs.Option.{option_and_then}
use Rattle.triple_arena_traits.specs.Items.{item}
use Rattle.triple_arena_traits.specs.ArenaState.{ArenaState}
use Rattle.triple_arena_slots.specs.Slot.{entry_of, next_in, previous_in, with_slot_value}
use Rattle.triple_arena_slots.specs.Layout.{after, before, state_of, IsLinked, Shows}
use Rattle.triple_arena_slots.specs.laws.SlotLaws.{entry_of-written}
use Rattle.triple_arena_traits.specs.Kept.{filled, filled_all}
use Rattle.triple_arena_traits.specs.Values.{with_values_in, with_values_of}
use Rattle.triple_arena_slots.specs.declared.slot.ArenaSlot.{ArenaSlot}
use Rattle.triple_arena_slots.specs.declared.slot.ArenaSlot.TheVariants.{Free, Allocated}
use Rattle.triple_arena_slots.proofs.TwoWay.{Linked-same}
use Rattle.triple_arena_slots.proofs.Links.{shows_state}
use Rattle.triple_arena_traits.proofs.KeptSlots.{entries-filled}
use Rattle.triple_arena_traits.specs.laws.ValueLaws.{count-kept, IsWellFormed-kept}

module _ {P T I G : Type 0} where
  -- the links of a slot are the same whatever its value
  next-filled : (x : ArenaSlot P T I G) (e : Option (ℕ × T)) (i : ℕ) → next_in (filled with_slot_value x e) i ≡ next_in x i
  next-filled (Free link) None i = refl
  next-filled (Free link) (Some e) i = refl
  next-filled (Allocated g v) None i = refl
  next-filled (Allocated g v) (Some e) i = refl

  previous-filled : (x : ArenaSlot P T I G) (e : Option (ℕ × T)) (i : ℕ) → previous_in (filled with_slot_value x e) i ≡ previous_in x i
  previous-filled (Free link) None i = refl
  previous-filled (Free link) (Some e) i = refl
  previous-filled (Allocated g v) None i = refl
  previous-filled (Allocated g v) (Some e) i = refl

  -- and so is what is read of the slot at an index, if it is the same whatever the value
  read-filled_at : (read : ArenaSlot P T I G → Option ℕ) → ((x : ArenaSlot P T I G) (e : Option (ℕ × T)) → read (filled with_slot_value x e) ≡ read x) → (xs : List (ArenaSlot P T I G)) (es : List (Option (ℕ × T))) (k : ℕ) → option_and_then read (slice_get (filled_all with_slot_value xs es) k) ≡ option_and_then read (slice_get xs k)
  read-filled_at read same [] es k = refl
  read-filled_at read same (x ∷ xs) [] k = refl
  read-filled_at read same (x ∷ xs) (e ∷ es) zero = same x e
  read-filled_at read same (x ∷ xs) (e ∷ es) (suc k) = read-filled_at read same xs es k

  read-filled : (read : ArenaSlot P T I G → Option ℕ) → ((x : ArenaSlot P T I G) (e : Option (ℕ × T)) → read (filled with_slot_value x e) ≡ read x) → (xs : List (ArenaSlot P T I G)) (es : List (Option (ℕ × T))) (i : ℕ) → option_and_then read (item (filled_all with_slot_value xs es) i) ≡ option_and_then read (item xs i)
  read-filled read same xs es zero = refl
  read-filled read same xs es (suc k) = read-filled_at read same xs es k

  IsLinked-filled : (xs : List (ArenaSlot P T I G)) (es : List (Option (ℕ × T))) (from : Option ℕ) (free : List ℕ) → IsLinked xs from free → IsLinked (filled_all with_slot_value xs es) from free
  IsLinked-filled xs es from free linked =
      Linked-same (after xs) (before xs) (after (filled_all with_slot_value xs es)) (before (filled_all with_slot_value xs es)) None from free (λ j there. (
        read-filled (λ x. next_in x j) (λ x e. next-filled x e j) xs es j,
        read-filled (λ x. previous_in x j) (λ x e. previous-filled x e j) xs es j,
      )) linked

module _ {P T I G : Type 0} (number : G → ℕ) where
  Shows-filled_values : (xs : List (ArenaSlot P T I G)) (root : Option ℕ) (len : ℕ) (s w : ArenaState T) → Shows number xs root len s → Shows number (filled_all with_slot_value xs w.slots) root len (with_values_of s w)
  Shows-filled_values xs root len s w shows =
      record {
        slots = entries-filled with_slot_value (entry_of number) (entry_of-written number) xs w.slots ∙ ap (λ es. with_values_in es w.slots) shows.slots;
        linked = IsLinked-filled xs w.slots root s.free shows.linked;
        counted = shows.counted ∙ sym (count-kept s.slots w.slots);
        well = IsWellFormed-kept s w shows.well;
      }

  -- the invariant and the view of an arena whose values alone changed
  pub kept_within : (es es' : List (ArenaSlot P T I G)) (root : Option ℕ) (len counter room room' : ℕ) (limit limit' : Option ℕ) (greatest steps : ℕ) (w : ArenaState T) → es' ≡ filled_all with_slot_value es w.slots → room' ≡ room → limit' ≡ limit → Shows number es root len (state_of number es root counter room limit greatest steps)
      → Shows number es' root len (state_of number es' root counter room' limit' greatest steps) × (state_of number es' root counter room' limit' greatest steps ≡ with_values_of (state_of number es root counter room limit greatest steps) w)
  kept_within es es' root len counter room room' limit limit' greatest steps w e r l shows =
      let s : ArenaState T = state_of number es root counter room limit greatest steps in
      shows_state number es' root len counter room' limit' greatest steps (with_values_of s w) (subst (λ (zs : List (ArenaSlot P T I G)). Shows number zs root len (with_values_of s w)) (sym e) (Shows-filled_values es root len s w shows)) refl r l refl refl

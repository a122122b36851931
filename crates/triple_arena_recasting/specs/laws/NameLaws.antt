-- Names that lead to entries, where each was recast by the map of a compaction: where they lead then, and what is read there.
use Rattle.std.proofs.Common.{◌≡◌, ℕ, cond, List, [], ◌∷◌, Option, Some, None, is_some, IsSome, refl, ap, ◌∙◌}
use Rattle.std.specs.Option.{option_map, option_and_then}
use Rattle.triple_arena_base.specs.Held.{recast_item, recast_items}
use Rattle.triple_arena_ptr.specs.Pointers.{Pointer}
use Rattle.triple_arena_traits.specs.Entries.{look_up}
use Rattle.triple_arena_recasting.specs.Concrete.{renamed_if_live}
use Rattle.triple_arena_recasting.specs.Renaming.{MapsPointers, IsFoundRenamed}
use Rattle.triple_arena_recasting.specs.RenamingBoth.{IsFoundRenamedBoth}

-- a pointer, which holds itself
module _ {P : Type 0} (numbers : P → Pointer) (held : P → List P) (refill : P → List P → P) (holds_itself : (p : P) → held p ≡ p ∷ []) (refills : (p q : P) → refill p (q ∷ []) ≡ q) where
  -- is its image where it is recast, or stays
  recast_is : (image : P → Option P) (p : P) (i : Option P) → image p ≡ i → refill p (recast_items image (held p)) ≡ recast_item i p
  recast_is image p None is = ap (λ l. refill p (recast_items image l)) (holds_itself p) ∙ rw is (refills p p)
  recast_is image p (Some q) is = ap (λ l. refill p (recast_items image l)) (holds_itself p) ∙ rw is (refills p q)

  module _ {T : Type 0} (rename : Pointer → Pointer) (slots : List (Option (ℕ × T))) (images : List (Option (ℕ × P))) (maps : MapsPointers numbers rename slots images) where
    moved_or_kept : (p : P) (o : Option T) (i : Option P) → option_map numbers i ≡ option_map (λ _. rename (numbers p)) o → numbers (recast_item i p) ≡ cond (is_some o) (rename (numbers p)) (numbers p)
    moved_or_kept p None None is = refl
    moved_or_kept p None (Some q) is = absurd (cc)
    moved_or_kept p (Some v) None is = absurd (cc)
    moved_or_kept p (Some v) (Some q) is = cc

    -- where a name leads: after its entry, or, where that was gone, where it led
    pub name_led : (before after : Option P) → after ≡ option_map (λ p. refill p (recast_items (λ q. look_up images (numbers q)) (held p))) before
        → option_map numbers after ≡ option_map (renamed_if_live rename slots) (option_map numbers before)
    name_led None after is = ap (option_map numbers) is
    name_led (Some p) after is =
        ap (option_map numbers) is ∙ ap (λ q. Some (numbers q)) (recast_is (λ q. look_up images (numbers q)) p (look_up images (numbers p)) refl)
        ∙ ap Some (moved_or_kept p (look_up slots (numbers p)) (look_up images (numbers p)) (maps (numbers p)))

-- what is read of values, and is no pointer that they hold
module _ {T R : Type 0} (read : T → R) where
  rest_stays : (change : T → T) → ((v : T) → read (change v) ≡ read v) → (before after : Option T) → after ≡ option_map change before → option_map read after ≡ option_map read before
  rest_stays change stays None after is = ap (option_map read) is
  rest_stays change stays (Some v) after is = ap (option_map read) is ∙ ap Some (stays v)

  there : (o : Option T) (value : R) → option_map read o ≡ Some value → IsSome o
  there None value is = absurd (cc)
  there (Some v) value is = refl

  module _ (rename : Pointer → Pointer) (slots news : List (Option (ℕ × T))) where
    -- is read under a name as before, where it is under the new pointer of an entry
    named_read_by : ((p : Pointer) → IsSome (look_up slots p) → option_map read (look_up news (rename p)) ≡ option_map read (look_up slots p))
        → (led : Option Pointer) (value : R) → option_and_then (λ p. option_map read (look_up slots p)) led ≡ Some value
        → option_and_then (λ p. option_map read (look_up news p)) (option_map (renamed_if_live rename slots) led) ≡ Some value
    named_read_by same None value is = is
    named_read_by same (Some p) value is =
        let live = there (look_up slots p) value is in
        ap (λ b. option_map read (look_up news (cond b (rename p) p))) live ∙ same p live ∙ is

    module _ {P : Type 0} (numbers : P → Pointer) (held : T → List P) (refill : T → List P → T) where
      pub named_read : ((v : T) (ps : List P) → read (refill v ps) ≡ read v)
          → ((p : Pointer) → IsSome (look_up slots p) → IsFoundRenamed numbers rename held refill (look_up slots p) (look_up news (rename p)))
          → (led : Option Pointer) (value : R) → option_and_then (λ p. option_map read (look_up slots p)) led ≡ Some value
          → option_and_then (λ p. option_map read (look_up news p)) (option_map (renamed_if_live rename slots) led) ≡ Some value
      named_read stays found = named_read_by (λ p live. let is = found p live in rest_stays (λ v. refill v is.pointers) (λ v. stays v is.pointers) (look_up slots p) (look_up news (rename p)) is.filled)

      -- so of two arenas
      pub named_read_both : {Q : Type 0} (numbers_too : Q → Pointer) (held_too : T → List Q) (refill_too : T → List Q → T) (rename_too : Pointer → Pointer)
          → ((v : T) (ps : List P) (qs : List Q) → read (refill_too (refill v ps) qs) ≡ read v)
          → ((p : Pointer) → IsSome (look_up slots p) → IsFoundRenamedBoth numbers rename held refill numbers_too rename_too held_too refill_too (look_up slots p) (look_up news (rename p)))
          → (led : Option Pointer) (value : R) → option_and_then (λ p. option_map read (look_up slots p)) led ≡ Some value
          → option_and_then (λ p. option_map read (look_up news p)) (option_map (renamed_if_live rename slots) led) ≡ Some value
      named_read_both numbers_too held_too refill_too rename_too stays found = named_read_by (λ p live. let is = found p live in
          rest_stays (λ v. refill_too (refill v is.pointers) is.pointers_too) (λ v. stays v is.pointers is.pointers_too) (look_up slots p) (look_up news (rename p)) is.filled)

-- What the map of a compaction has of one pointer; and pointers in three parts, of which each finds an entry.
use Rattle.std.proofs.Common.{◌≡◌, ℕ, cond, List, ◌++◌, Option, Some, None, is_some, IsSome, refl}
use Rattle.std.specs.Option.{option_map, unwrap_or}
use Rattle.triple_arena_ptr.specs.Pointers.{Pointer}
use Rattle.triple_arena_traits.specs.Entries.{look_up}
use Rattle.triple_arena_recasting.specs.Concrete.{renamed_if_live}
use Rattle.triple_arena_recasting.specs.Renaming.{MapsPointers, first_unresolved}
use Rattle.triple_arena_recasting.specs.laws.RenamingLaws.{front_resolved}

-- one pointer, by the map of a compaction
module _ {P T : Type 0} (numbers : P → Pointer) (rename : Pointer → Pointer) (slots : List (Option (ℕ × T))) (images : List (Option (ℕ × P))) (maps : MapsPointers numbers rename slots images) where
  module _ (k : Pointer) (p : P) (at : numbers p ≡ k) where
    image_or : (o : Option T) (i : Option P) → option_map numbers i ≡ option_map (λ _. rename k) o → numbers (unwrap_or i p) ≡ cond (is_some o) (rename k) k
    image_or None None is = at
    image_or None (Some q) is = absurd (cc)
    image_or (Some v) None is = absurd (cc)
    image_or (Some v) (Some q) is = cc

  -- has an image, or is kept
  pub image_or_kept : (p : P) → numbers (unwrap_or (look_up images (numbers p)) p) ≡ renamed_if_live rename slots (numbers p)
  image_or_kept p = image_or (numbers p) p refl (look_up slots (numbers p)) (look_up images (numbers p)) (maps (numbers p))

  image_only : (k : Pointer) (q : P) (o : Option T) (i : Option P) → option_map numbers i ≡ option_map (λ _. rename k) o → i ≡ Some q → IsSome o × (numbers q ≡ rename k)
  image_only k q None None is e = absurd (cc)
  image_only k q None (Some r) is e = absurd (cc)
  image_only k q (Some v) None is e = absurd (cc)
  image_only k q (Some v) (Some r) is e = (refl, cc)

  -- has an image only if it found an entry, and the image is its new pointer
  pub image_is : (p q : P) → look_up images (numbers p) ≡ Some q → IsSome (look_up slots (numbers p)) × (numbers q ≡ rename (numbers p))
  image_is p q e = image_only (numbers p) q (look_up slots (numbers p)) (look_up images (numbers p)) (maps (numbers p)) e

  image_of : (k : Pointer) (o : Option T) (i : Option P) → option_map numbers i ≡ option_map (λ _. rename k) o → IsSome o → (q : P) × (i ≡ Some q) × (numbers q ≡ rename k)
  image_of k None i is live = absurd (cc)
  image_of k (Some v) None is live = absurd (cc)
  image_of k (Some v) (Some q) is live = (q, refl, cc)

  -- and has one if it found an entry
  pub image_there : (p : P) → IsSome (look_up slots (numbers p)) → (q : P) × (look_up images (numbers p) ≡ Some q) × (numbers q ≡ rename (numbers p))
  image_there p live = image_of (numbers p) (look_up slots (numbers p)) (look_up images (numbers p)) (maps (numbers p)) live

-- where of pointers in three parts each finds an entry, so does each of each part
pub three_resolved : {P T : Type 0} (numbers : P → Pointer) (slots : List (Option (ℕ × T))) (ps qs rs : List P) → first_unresolved numbers slots ((ps ++ qs) ++ rs) ≡ None
    → (first_unresolved numbers slots ps ≡ None) × (first_unresolved numbers slots qs ≡ None) × (first_unresolved numbers slots rs ≡ None)
three_resolved numbers slots ps qs rs none =
    let parts = front_resolved numbers slots (ps ++ qs) rs none in
    let fronts = front_resolved numbers slots ps qs parts.0 in
    (fronts.0, fronts.1, parts.1)

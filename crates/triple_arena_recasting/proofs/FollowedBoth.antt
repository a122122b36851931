-- An arena that was compressed and its own pointers renamed, where then those are renamed that its values hold to another;
-- and a holder of pointers to both.
use Rattle.std.proofs.Common.{◌≡◌, ℕ, List, length, map, Option, None, ap, ◌∙◌}
use Rattle.std.specs.List.{range_with_len}
use Rattle.std.proofs.lemmas.Slice.Zip.{AllZip-long}
use Rattle.triple_arena_base.specs.Held.{HoldsRefill, recast_items, held_all}
use Rattle.triple_arena_ptr.specs.Pointers.{Pointer}
use Rattle.triple_arena_traits.specs.Items.{with_item}
use Rattle.triple_arena_traits.specs.Entries.{look_up, entry_count}
use Rattle.triple_arena_traits.specs.Walks.{keys, values}
use Rattle.triple_arena_traits.specs.Recasting.{written, recast_values}
use Rattle.triple_arena_traits.specs.laws.CompressionLaws.{length-values}
use Rattle.triple_arena_recasting.specs.Renaming.{MapsPointers, first_unresolved, AreRenamed}
use Rattle.triple_arena_recasting.specs.RenamingBoth.{StandApart, IsRenamedBoth, AreRenamedBoth}
use Rattle.triple_arena_recasting.specs.laws.RenamingLaws.{followed}
use Rattle.triple_arena_recasting.specs.laws.RenamingBothLaws.{too_stay, both_renamed, all_too_stay, all_both_renamed}
use Rattle.triple_arena_recasting.proofs.Resolving.{values_renamed}
use Rattle.triple_arena_recasting.proofs.Followed.{recast_compressed}

module _ {P Q T : Type 0}
    (numbers : P → Pointer) (rename : Pointer → Pointer) (held : T → List P) (refill : T → List P → T)
    (numbers_too : Q → Pointer) (rename_too : Pointer → Pointer) (held_too : T → List Q) (refill_too : T → List Q → T)
    (apart : StandApart held refill held_too refill_too) (holds_too : HoldsRefill held_too refill_too) where
  pub followed_both : {A V : Type 0} (slots : A → List (Option (ℕ × T))) (with_value : A → ℕ → T → A) (old mid new : A) (compresses : List T → A → Type 0)
      → ((vs : List T) (a : A) (i : ℕ) (v : T) → compresses vs a → compresses (with_item vs i v) (with_value a i v))
      → ((vs : List T) (a : A) → compresses vs a → length vs ≡ entry_count (slots old) → values (slots a) ≡ vs)
      → map (λ p. p.0) (map rename (keys (slots old))) ≡ range_with_len 1 (entry_count (slots old))
      → (here : List (Option (ℕ × V))) (images : List (Option (ℕ × Q))) → MapsPointers numbers_too rename_too here images
      → (mids : List T) × AreRenamed numbers rename held refill (values (slots old)) mids × compresses mids mid
      → keys (slots mid) ≡ map rename (keys (slots old)) → first_unresolved numbers_too here (held_all held_too (values (slots old))) ≡ None
      → new ≡ written with_value (keys (slots mid)) (recast_values held_too refill_too (λ q. look_up images (numbers_too q)) (values (slots mid))) mid
      → AreRenamedBoth numbers rename held refill numbers_too rename_too held_too refill_too (values (slots old)) (values (slots new)) × compresses (values (slots new)) new
  followed_both slots with_value old mid new compresses law there ranked here images maps d ks none state =
      let image : Q → Option Q = λ q. look_up images (numbers_too q) in
      let news : List T = recast_values held_too refill_too image d.0 in
      let long : length d.0 ≡ entry_count (slots old) = AllZip-long _ (values (slots old)) d.0 d.1 ∙ length-values (slots old) in
      let is : compresses news new =
      recast_compressed held_too refill_too image slots with_value compresses law rename old mid new d.0 ranked long d.2 ks (there d.0 mid d.2 long) state in
      let resolved : first_unresolved numbers_too here (held_all held_too d.0) ≡ None =
      ap (first_unresolved numbers_too here) (all_too_stay numbers rename held refill numbers_too rename_too held_too refill_too apart (values (slots old)) d.0 d.1) ∙ none in
      let both : AreRenamedBoth numbers rename held refill numbers_too rename_too held_too refill_too (values (slots old)) news =
      all_both_renamed numbers rename held refill numbers_too rename_too held_too refill_too apart (values (slots old)) d.0 news d.1
      (values_renamed numbers_too here rename_too images maps held_too refill_too holds_too d.0 resolved) in
      let stand : values (slots new) ≡ news = there news new is (AllZip-long _ (values (slots old)) news both ∙ length-values (slots old)) in
      (rw stand both, rw stand is)

module _ {P Q T V W : Type 0}
    (numbers : P → Pointer) (rename : Pointer → Pointer) (held : T → List P) (refill : T → List P → T)
    (numbers_too : Q → Pointer) (rename_too : Pointer → Pointer) (held_too : T → List Q) (refill_too : T → List Q → T)
    (apart : StandApart held refill held_too refill_too) (holds : HoldsRefill held refill) (holds_too : HoldsRefill held_too refill_too)
    (slots : List (Option (ℕ × V))) (images : List (Option (ℕ × P))) (maps : MapsPointers numbers rename slots images)
    (slots_too : List (Option (ℕ × W))) (images_too : List (Option (ℕ × Q))) (maps_too : MapsPointers numbers_too rename_too slots_too images_too) where
  -- a holder whose pointers each find an entry, and which follows by the one map and then by the other
  pub holder_followed : (old mid new : T) → first_unresolved numbers slots (held old) ≡ None → first_unresolved numbers_too slots_too (held_too old) ≡ None
      → mid ≡ refill old (recast_items (λ p. look_up images (numbers p)) (held old))
      → new ≡ refill_too mid (recast_items (λ q. look_up images_too (numbers_too q)) (held_too mid))
      → IsRenamedBoth numbers rename held refill numbers_too rename_too held_too refill_too old new
  holder_followed old mid new none none_too is after =
      let renamed = followed numbers rename held refill holds slots images maps old mid none is in
      let stay = too_stay numbers rename held refill numbers_too rename_too held_too refill_too apart old mid renamed in
      let renamed_too = followed numbers_too rename_too held_too refill_too holds_too slots_too images_too maps_too mid new (ap (first_unresolved numbers_too slots_too) stay ∙ none_too) after in
      both_renamed numbers rename held refill numbers_too rename_too held_too refill_too apart old mid new renamed renamed_too

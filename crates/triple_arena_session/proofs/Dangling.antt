-- A link's pointer is not live exactly where a row's link names no row.
use Rattle.std.proofs.Common.{◌≡◌, ℕ, zero, suc, ◌||◌, Bool, true, false, not, List, [], ◌∷◌, Option, Some, None, is_some, slice_get, refl, sym, ap, ◌∙◌, inl, inr, true≢false}
use Rattle.std.proofs.lemmas.Bool.{cases_Bool}
use Rattle.std.proofs.lemmas.Option.{same_Some, slice_get-map}
use Rattle.std.specs.List.{list_any}
use Rattle.std.specs.Option.{option_map, option_and_then}
use Rattle.triple_arena_ptr.specs.Pointers.{Pointer}
use Rattle.triple_arena_stack.specs.StackKind.{StackKind}
use Rattle.triple_arena_traits.specs.Entries.{look_up}
use Rattle.triple_arena_traits.specs.Walks.{entries, values}
use Rattle.triple_arena_traits.specs.Histories.{has, is_live}
use Rattle.triple_arena_commands.specs.PointerNames.{name_of}
use Rattle.triple_arena_commands.specs.NameStore.{NameRow, row, row_dangles}
use Rattle.triple_arena_session.specs.SessionState.{SessionState}
use Rattle.triple_arena_session.specs.Compaction.{dangles, any_dangles}
use Rattle.triple_arena_session.specs.Shown.{as_row, row_of, shown}
use Rattle.triple_arena_traits.specs.laws.ItemLaws.{item-map}
use Rattle.triple_arena_traits.specs.laws.MoveLaws.{nth_found, found_nth}
use Rattle.triple_arena_session.proofs.TableNames.{item_of_name, get_from_has}
use Rattle.triple_arena_session.proofs.Soundness.{SoundOver}

module _ {A : Type 0} (test : A → Bool) where
  any_from : (xs : List A) → list_any test xs ≡ true → (k : ℕ) × (x : A) × (slice_get xs k ≡ Some x) × (test x ≡ true)
  any_from [] h = absurd (true≢false (sym h))
  any_from (x ∷ xs) h =
      elim (cases_Bool (test x)) [
        | inl so ↦ (0, x, refl, so)
        | inr differs ↦ let rest = any_from xs (sym (ap (λ b. b || list_any test xs) differs) ∙ h) in (suc rest.0, rest.1, rest.2, rest.3)
      ]

  any_at : (xs : List A) (k : ℕ) (x : A) → slice_get xs k ≡ Some x → test x ≡ true → list_any test xs ≡ true
  any_at [] k x found h = absurd (cc)
  any_at (y ∷ xs) zero x found h = ap (λ z. test z || list_any test xs) (same_Some y x found) ∙ ap (λ b. b || list_any test xs) h
  any_at (y ∷ xs) (suc k) x found h = later (test y) (any_at xs k x found h)
    where
      later : (b : Bool) → list_any test xs ≡ true → (b || list_any test xs) ≡ true
      later true e = refl
      later false e = e

both_or_none : (a b : Bool) → (a ≡ true → b ≡ true) → (b ≡ true → a ≡ true) → a ≡ b
both_or_none true b f g = sym (f refl)
both_or_none false true f g = g refl
both_or_none false false f g = refl

module _ {X : Type 0} (kind : StackKind) (s : SessionState X) (sound : SoundOver kind s) where
  -- the row that a stored pointer names is there exactly where the pointer is live
  named_row : (q : Pointer) → has s.table q ≡ true → (name : ℕ) × (name_of s.table q ≡ Some name) × (is_some (row (shown s) name) ≡ is_live s.arena q)
  named_row q h =
      let at = item_of_name s.table q sound.table.distinct h in
      (at.0, at.2, ap (λ o. is_some (option_and_then (λ r. r) o)) (item-map (row_of s.arena s.table) s.table at.0 ∙ ap (option_map (row_of s.arena s.table)) at.1) ∙ by (look_up s.arena.slots q))
    where
      by : (o : Option (X × Option Pointer)) → is_some (option_map (as_row s.table) o) ≡ is_some o
      by None = refl
      by (Some node) = refl

  -- whether the link of what stands under a pointer dangles, by the pointer and by the row
  link_dangles : (p : Pointer) (node : X × Option Pointer) → look_up s.arena.slots p ≡ Some node → row_dangles (shown s) (Some (as_row s.table node)) ≡ dangles s.arena node
  link_dangles p (datum, None) found = refl
  link_dangles p (datum, Some q) found =
      let at = named_row q (sound.table.has_links p q datum found) in
      ap (λ name. row_dangles (shown s) (Some (datum, name))) at.1 ∙ ap not at.2

  -- the pointer of a value
  pointer_of : (k : ℕ) (node : X × Option Pointer) → slice_get (values s.arena.slots) k ≡ Some node → (p : Pointer) × (look_up s.arena.slots p ≡ Some node)
  pointer_of k node at = by (slice_get (entries s.arena.slots) k) refl (sym (slice_get-map (λ (e : Pointer × (X × Option Pointer)). e.1) (entries s.arena.slots) k) ∙ at)
    where
      by : (o : Option (Pointer × (X × Option Pointer))) → slice_get (entries s.arena.slots) k ≡ o → option_map (λ (e : Pointer × (X × Option Pointer)). e.1) o ≡ Some node → (p : Pointer) × (look_up s.arena.slots p ≡ Some node)
      by None is e = absurd (cc)
      by (Some e) is h =
          (e.0, found_nth s.arena.slots k e.0 node (slice_get-map (λ (e : Pointer × (X × Option Pointer)). e.0) (entries s.arena.slots) k ∙ ap (option_map (λ (e : Pointer × (X × Option Pointer)). e.0)) is) at)

  rows_get : (k : ℕ) (p : Pointer) → slice_get s.table k ≡ Some p → slice_get (shown s).rows k ≡ Some (row_of s.arena s.table p)
  rows_get k p found = slice_get-map (row_of s.arena s.table) s.table k ∙ ap (option_map (row_of s.arena s.table)) found

  pub dangling : list_any (row_dangles (shown s)) (shown s).rows ≡ any_dangles s.arena
  dangling = both_or_none (list_any (row_dangles (shown s)) (shown s).rows) (any_dangles s.arena) to from
    where
      to : list_any (row_dangles (shown s)) (shown s).rows ≡ true → any_dangles s.arena ≡ true
      to h = by_row (any_from (row_dangles (shown s)) (shown s).rows h)
        where
          by_found : (p : Pointer) (o : Option (X × Option Pointer)) → look_up s.arena.slots p ≡ o → row_dangles (shown s) (option_map (as_row s.table) o) ≡ true → any_dangles s.arena ≡ true
          by_found p None is h = absurd (true≢false (sym h))
          by_found p (Some node) is h =
              let nth = nth_found s.arena.slots p (ap is_some is) in
              let same : nth.0 ≡ node = same_Some nth.0 node (sym nth.2 ∙ is) in
              any_at (dangles s.arena) (values s.arena.slots) nth.1 node (nth.4 ∙ ap Some same) (sym (link_dangles p node is) ∙ h)

          by_place : (k : ℕ) (r : Option (NameRow X)) (o : Option Pointer) → slice_get s.table k ≡ o → option_map (row_of s.arena s.table) o ≡ Some r → row_dangles (shown s) r ≡ true → any_dangles s.arena ≡ true
          by_place k r None is e h = absurd (cc)
          by_place k r (Some p) is e h =
              by_found p (look_up s.arena.slots p) refl (ap (row_dangles (shown s)) (same_Some (row_of s.arena s.table p) r e) ∙ h)

          by_row : (k : ℕ) × (r : Option (NameRow X)) × (slice_get (shown s).rows k ≡ Some r) × (row_dangles (shown s) r ≡ true) → any_dangles s.arena ≡ true
          by_row at = by_place at.0 at.1 (slice_get s.table at.0) refl (sym (slice_get-map (row_of s.arena s.table) s.table at.0) ∙ at.2) at.3

      from : any_dangles s.arena ≡ true → list_any (row_dangles (shown s)) (shown s).rows ≡ true
      from h =
          let at = any_from (dangles s.arena) (values s.arena.slots) h in
          let p = pointer_of at.0 at.1 at.2 in
          let place = get_from_has s.table p.0 (sound.table.has_live p.0 (ap is_some p.1)) in
          any_at (row_dangles (shown s)) (shown s).rows place.0 (row_of s.arena s.table p.0) (rows_get place.0 p.0 place.1)
          (ap (λ o. row_dangles (shown s) (option_map (as_row s.table) o)) p.1 ∙ link_dangles p.0 at.1 p.1 ∙ at.3)

-- How the free list is tidied.
use Rattle.std.proofs.Common.{◌≡◌, ◌≢◌, ℕ, zero, suc, ◌+◌, ◌<◌, ◌≤◌, ◌==◌, true, false, List, [], ◌∷◌, map, length, drop, Option, Some, None, is_some, count_by, refl, sym, ap, subst, ◌∙◌, inl, inr, arith, true≢false}
use Rattle.std.proofs.lemmas.Bool.{cases_eq}
use Rattle.std.proofs.lemmas.List.{length-map, drop_all, nil_from_length}
use Rattle.std.proofs.lemmas.Option.{same_Some}
use Rattle.triple_arena_traits.specs.Items.{item}
use Rattle.triple_arena_traits.specs.ArenaState.{ArenaState, arena_len, capacity}
use Rattle.triple_arena_traits.specs.Entries.{entry_count}
use Rattle.triple_arena_traits.specs.FreeList.{trimmed, gaps, tidied, laid_out}
use Rattle.triple_arena_slots.specs.Slot.{entry_of}
use Rattle.triple_arena_traits.specs.laws.LengthLaws.{trimmed_live, live_slot}
use Rattle.triple_arena_slots.specs.Layout.{after, before, entry_at, IsLinked, Begins, Shows}
use Rattle.triple_arena_traits.specs.laws.ItemLaws.{joined, length-with_item, with_item_same}
use Rattle.triple_arena_slots.specs.declared.slot.ArenaSlot.{ArenaSlot}
use Rattle.triple_arena_traits.specs.laws.EntryLaws.{count_head}
use Rattle.triple_arena_traits.specs.laws.WellFormedLaws.{count_tail}
use Rattle.triple_arena_slots.proofs.TwoWay.{times, Once, Linked-led}
use Rattle.triple_arena_slots.proofs.Links.{leads_of}
use Rattle.triple_arena_traits.specs.laws.FreeListLaws.{gaps_above, gaps_total}
use Rattle.triple_arena_traits.specs.laws.StepLaws.{IsWellFormed-laid_out, IsWellFormed-tidied}

module _ {T : Type 0} where
  entry_step : (xs : List (Option (ℕ × T))) (at : ℕ) (x : Option (ℕ × T)) → item xs (at + 1) ≡ Some x → drop at xs ≡ x ∷ drop (at + 1) xs
  entry_step [] at x found = absurd (let n : at + 1 ≡ suc at = omega arith in let h = rw n at found in cc)
  entry_step (y ∷ xs) zero x found = let same : y ≡ x = cc in ap (λ z. z ∷ xs) same
  entry_step (y ∷ xs) (suc at) x found =
      let n : suc at + 1 ≡ suc (suc at) = omega arith in
      let m : at + 1 ≡ suc at = omega arith in
      let rest = entry_step xs at x (rw m (rw n at found)) in
      rw n (rw m at rest)

  -- an index of a slot without an entry is that of a free one
  pub vacant_within : (xs : List (Option (ℕ × T))) (i : ℕ) → 0 < i → i ≤ length xs → is_some (joined (item xs i)) ≡ false → item xs i ≡ Some None
  vacant_within xs zero positive within none = absurd (omega (arith, positive))
  vacant_within [] (suc k) positive within none = absurd (omega (arith, within))
  vacant_within (None ∷ xs) (suc zero) positive within none = refl
  vacant_within (Some e ∷ xs) (suc zero) positive within none = absurd (true≢false none)
  vacant_within (x ∷ xs) (suc (suc k)) positive within none = vacant_within xs (suc k) (omega arith) (omega (arith, within)) none

  -- each gap is one once
  Once-gaps : (at : ℕ) (xs : List (Option (ℕ × T))) → Once (gaps at xs)
  Once-gaps at [] j = omega arith
  Once-gaps at (None ∷ xs) j =
      elim (cases_eq at j) [
        | inl here ↦ subst (λ m. times m (at ∷ gaps (at + 1) xs) ≤ 1) here (omega (arith, count_head at (gaps (at + 1) xs), gaps_above (at + 1) xs at (omega arith)))
        | inr other ↦ omega (arith, count_tail at j (gaps (at + 1) xs) other, Once-gaps (at + 1) xs j)
      ]
  Once-gaps at (Some e ∷ xs) j = Once-gaps (at + 1) xs j

  -- where each slot has an entry there is no gap
  pub no_gaps : (at : ℕ) (xs : List (Option (ℕ × T))) → length xs ≤ entry_count xs → gaps at xs ≡ []
  no_gaps at xs full = nil_from_length (gaps at xs) (omega (arith, gaps_total at xs, full))

module _ {P T I G : Type 0} (number : G → ℕ) where
  -- the slots from `at` on link in rising order
  pub record LinkedFrom (old now : List (ArenaSlot P T I G)) (at : ℕ) (root : Option ℕ) : Type 0 where
    pub same : map (entry_of number) now ≡ map (entry_of number) old
    pub linked : IsLinked now root (gaps (at + 1) (drop at (map (entry_of number) old)))
    pub vacant : (j : ℕ) → root ≡ Some j → item (map (entry_of number) now) j ≡ Some None

  -- the root is no index at or before `at`
  pub root_past : (es : List (ArenaSlot P T I G)) (from : Option ℕ) (at : ℕ) (xs : List (Option (ℕ × T))) (i : ℕ) → i < at → IsLinked es from (gaps at xs) → from ≢ Some i
  root_past es from at xs i h linked = by_gaps (gaps at xs) (gaps_above at xs i h) linked
    where
      by_gaps : (free : List ℕ) → count_by (λ j. j == i) free ≡ 0 → IsLinked es from free → from ≢ Some i
      by_gaps [] none linked e = absurd (cc)
      by_gaps (j ∷ rest) none linked e =
          let same : j ≡ i = cc (linked.0) in
          absurd (omega (arith, none, count_head i rest, ap (λ m. count_by (λ k. k == i) (m ∷ rest)) same))

  -- the slots link as before where the one at hand has an entry
  pub LinkedFrom-live : (old es : List (ArenaSlot P T I G)) (i at : ℕ) (root : Option ℕ) → i ≡ at + 1 → LinkedFrom old es i root → is_some (entry_at number es i) ≡ true → LinkedFrom old es at root
  LinkedFrom-live old es i at root here l live =
      let found = live_slot (map (entry_of number) es) i live in
      let there : item (map (entry_of number) old) (at + 1) ≡ Some (Some found.0) = ap (item (map (entry_of number) old)) (sym here) ∙ ap (λ xs. item xs i) (sym l.same) ∙ found.1 in
      record {
        same = l.same;
        linked = rw (entry_step (map (entry_of number) old) at (Some found.0) there) (rw here at l.linked);
        vacant = l.vacant;
      }

  -- a free slot comes before what was the root, and is the root from then on
  pub LinkedFrom-free : (old es es1 : List (ArenaSlot P T I G)) (i at : ℕ) (root : Option ℕ) → i ≡ at + 1 → LinkedFrom old es i root → item (map (entry_of number) es) i ≡ Some None → Begins number es es1 root i → LinkedFrom old es1 at (Some i)
  LinkedFrom-free old es es1 i at root here l vacant begins =
      let there : item (map (entry_of number) old) (at + 1) ≡ Some None = ap (item (map (entry_of number) old)) (sym here) ∙ ap (λ xs. item xs i) (sym l.same) ∙ vacant in
      let same : map (entry_of number) es1 ≡ map (entry_of number) es = begins.entries ∙ with_item_same (map (entry_of number) es) i None vacant in
      let linked : IsLinked es1 (Some i) (i ∷ gaps (i + 1) (drop i (map (entry_of number) old))) = Linked-led (after es) (before es) (after es1) (before es1) root i _ (leads_of number es es1 root i begins) (gaps_above (i + 1) (drop i (map (entry_of number) old)) i (omega arith)) (Once-gaps (i + 1) (drop i (map (entry_of number) old))) l.linked in
      record {
        same = same ∙ l.same;
        linked = rw (entry_step (map (entry_of number) old) at None there) (subst (λ m. IsLinked es1 (Some i) (m ∷ gaps (m + 1) (drop m (map (entry_of number) old)))) here linked);
        vacant = λ j h. ap (λ xs. item xs j) same ∙ subst (λ m. item (map (entry_of number) es) m ≡ Some None) (same_Some _ _ h) vacant;
      }

  pub Begins-length : (es es1 : List (ArenaSlot P T I G)) (root : Option ℕ) (i : ℕ) → Begins number es es1 root i → length es1 ≡ length es
  Begins-length es es1 root i begins =
      sym (length-map es1 (entry_of number)) ∙ ap length begins.entries ∙ length-with_item (map (entry_of number) es) i None ∙ length-map es (entry_of number)

  pub LinkedFrom-start : (es : List (ArenaSlot P T I G)) → LinkedFrom es es (length es) None
  LinkedFrom-start es =
      record { same = refl; linked = rw (drop_all (length es) (map (entry_of number) es) (omega (arith, length-map es (entry_of number)))) refl; vacant = λ j h. absurd (cc) }

  pub LinkedFrom-done : (old es : List (ArenaSlot P T I G)) (at : ℕ) (root : Option ℕ) → at ≡ 0 → LinkedFrom old es at root → IsLinked es root (gaps 1 (map (entry_of number) old))
  LinkedFrom-done old es at root none l = rw none at l.linked

  -- slots that all have an entry link as they are, from nothing on
  pub linked_full : (es : List (ArenaSlot P T I G)) (root : Option ℕ) → length es ≤ entry_count (map (entry_of number) es) → root ≡ None → IsLinked es root (gaps 1 (map (entry_of number) es))
  linked_full es root full none =
      rw (no_gaps 1 (map (entry_of number) es) (omega (arith, full, length-map es (entry_of number)))) none

  pub LinkedFrom-root : (old es : List (ArenaSlot P T I G)) (i : ℕ) (root : Option ℕ) → LinkedFrom old es i root → root ≢ Some i
  LinkedFrom-root old es i root l = root_past es root (i + 1) (drop i (map (entry_of number) old)) i (omega arith) l.linked

  -- slots whose free ones link in rising order
  pub Shows-laid_out : (es : List (ArenaSlot P T I G)) (root : Option ℕ) (len : ℕ) (s : ArenaState T) (xs : List (Option (ℕ × T))) (counter : ℕ) → map (entry_of number) es ≡ xs → IsLinked es root (gaps 1 xs) → len ≡ arena_len (laid_out s xs counter) → length xs ≤ capacity s → Shows number es root len (laid_out s xs counter)
  Shows-laid_out es root len s xs counter slots linked counted fits =
      record { slots = slots; linked = linked; counted = counted; well = IsWellFormed-laid_out s xs counter fits }

  -- the slots end with the last entry, and their free ones link in rising order
  pub Shows-tidied : (old es : List (ArenaSlot P T I G)) (root root1 : Option ℕ) (len : ℕ) (s : ArenaState T) → map (entry_of number) es ≡ trimmed (map (entry_of number) old) → IsLinked es root1 (gaps 1 (trimmed (map (entry_of number) old))) → Shows number old root len s → Shows number es root1 len (tidied s)
  Shows-tidied old es root root1 len s cut linked shows =
      record {
        slots = cut ∙ ap trimmed shows.slots;
        linked = rw shows.slots at linked;
        counted = shows.counted ∙ sym (trimmed_live s.slots);
        well = IsWellFormed-tidied s shows.well;
      }

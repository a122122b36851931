-- The parts of an arena's bytes, and of its state.
use Rattle.std.proofs.Common.{◌≡◌, ℕ, ◌≤◌, ◌<◌, List, [], ◌∷◌, ◌++◌, map, length, true, false, Option, Some, None, Result, Ok, Err, slice_get, refl, ap, ◌∙◌, append_assoc, arith}
use Rattle.std.specs.Prelude.{OnOk, MatchOption}
use Rattle.std.specs.Option.{option_map}
use Rattle.std.proofs.lemmas.Result.{on_ok_weaker}
use Rattle.std.specs.Int.{w64, to_le_bytes}
use Rattle.std.specs.List.{flat_map}
use Rattle.triple_arena_traits.specs.ArenaState.{ArenaState, IsWellFormed}
use Rattle.triple_arena_traits.specs.FreeList.{gaps}
use Rattle.triple_arena_traits.specs.laws.EntryLaws.{first_free}
use Rattle.triple_arena_traits.specs.laws.ItemLaws.{item_within}
use Rattle.triple_arena_slots.specs.Layout.{IsLinked, chain}
use Rattle.triple_arena_slots.specs.declared.slot.ArenaSlot.{ArenaSlot}
use Rattle.triple_arena_slots.proofs.Links.{chain_from}
use Rattle.triple_arena_snapshot.specs.declared.fault.Fault.TheVariants.{FreeList}
use Rattle.triple_arena_snapshot.specs.Coding.{Reading, Decoded, ◌>>=◌}
use Rattle.triple_arena_snapshot.specs.Codings.{list_bytes}
use Rattle.triple_arena_snapshot.specs.ArenaCodings.{most_slots, are_free, is_reordered, arena_at_front}
use Rattle.triple_arena_snapshot.specs.ArenaLayouts.{index}
use Rattle.triple_arena_snapshot.proofs.ArenaBytes.{map_twice, behind_header}
use Rattle.triple_arena_snapshot.proofs.FreeLists.{gaps-mapped, free-are}

-- slots, counter and free list are written behind the header, one behind the other
pub arena_written : {X E : Type 0} (r : Result X E) (out m1 m2 m3 new greatest : List ℕ) (width : ℕ) (slots same counter free : List ℕ) → m1 ≡ out ++ greatest ++ (width ∷ []) → slots ≡ same → m2 ≡ m1 ++ slots → m3 ≡ m2 ++ counter → OnOk r (new ≡ m3 ++ free) → OnOk r (new ≡ out ++ (greatest ++ (width ∷ (same ++ (counter ++ free)))))
arena_written r out m1 m2 m3 new greatest width slots same counter free header is second third last =
    behind_header r out m1 new greatest width (slots ++ (counter ++ free)) (same ++ (counter ++ free)) header (ap (λ (x : List ℕ). x ++ (counter ++ free)) is)
    (on_ok_weaker r (λ e. e ∙ ap (λ (x : List ℕ). x ++ free) (third ∙ ap (λ (x : List ℕ). x ++ counter) second) ∙ append_assoc (m1 ++ slots) counter free ∙ append_assoc m1 slots (counter ++ free)) last)

module _ {T : Type 0} (s : ArenaState T) (well : IsWellFormed s) where
  -- its free list is that of its free slots, whatever their values are written as
  pub state_free : {K : Type 0} (f : ℕ × T → ℕ × K) → are_free (map (option_map f) s.slots) s.free ≡ true
  state_free f = ap (is_reordered s.free) (gaps-mapped f 1 s.slots) ∙ free-are s.slots s.free well.free_once

  -- the number of the first free index is told
  pub root_number : {I N : Type 0} (number : I → ℕ) (get : N → ℕ) (x : I) (r : Option N) (greatest : ℕ) → Some (number x) ≡ slice_get s.free 0 → length s.slots ≤ greatest → MatchOption r (greatest < number x) (λ n. get n ≡ number x) → option_map get r ≡ slice_get s.free 0
  root_number number get x None greatest root fits past = absurd (by_free s.free refl root)
    where
      by_free : (f : List ℕ) → s.free ≡ f → Some (number x) ≡ slice_get f 0 → ⊥
      by_free [] e h = absurd (cc)
      by_free (i ∷ rest) e h =
          let same : number x ≡ i = cc in
          let first = first_free s i rest well e in
          let within = item_within s.slots i None first.0 in
          omega (arith, past, same, within.1, fits)
  root_number number get x (Some n) greatest root fits is = ap Some is ∙ root

-- so many indexes from the first free one on are the free list
pub free_chain : {P T I G : Type 0} (es : List (ArenaSlot P T I G)) (count : ℕ) (first : Option ℕ) (free : List ℕ) → count ≡ length free → first ≡ slice_get free 0 → IsLinked es (slice_get free 0) free → chain es count first ≡ free
free_chain es count first free many root linked =
    ap (chain es count) root ∙ chain_from es count None (slice_get free 0) free (omega (arith, many)) linked

-- the free list is written behind its count
pub free_written : {X E P T I G : Type 0} (r : Result X E) (old mid new : List ℕ) (es : List (ArenaSlot P T I G)) (count : ℕ) (first : Option ℕ) (free : List ℕ) → count ≡ length free → first ≡ slice_get free 0 → IsLinked es (slice_get free 0) free → mid ≡ old ++ to_le_bytes w64 count → OnOk r (new ≡ mid ++ flat_map index.encoding (chain es count first)) → OnOk r (new ≡ old ++ list_bytes index.encoding free)
free_written r old mid new es count first free many root linked header last =
    let is : chain es count first ≡ free = free_chain es count first free many root linked in
    let body = flat_map index.encoding free in
    on_ok_weaker r (λ e. e ∙ ap (λ (is : List ℕ). mid ++ flat_map index.encoding is) is ∙ ap (λ (x : List ℕ). x ++ body) header ∙ append_assoc old (to_le_bytes w64 count) body ∙ ap (λ n. old ++ (to_le_bytes w64 n ++ body)) many) last

-- slots of which other values are written have the same free ones
pub are_free-mapped : {S A B : Type 0} (f : A → B) (entry : S → Option A) (items : List S) (free : List ℕ) → are_free (map (λ slot. option_map f (entry slot)) items) free ≡ are_free (map entry items) free
are_free-mapped f entry items free =
    ap (is_reordered free) (ap (gaps 1) (map_twice (option_map f) entry items) ∙ gaps-mapped f 1 (map entry items))

-- an arena is read part by part
module _ {A : Type 0} (slots : List ℕ → Decoded (List (Option A))) (counter : List ℕ → Decoded ℕ) (free : List ℕ → Decoded (List ℕ)) (header : Reading (List ℕ)) (r1 r2 r3 r4 : List ℕ) (ss : List (Option A)) (n : ℕ) (fs : List ℕ)
    (h : header ≡ Ok r1) (s : slots r1 ≡ Ok (ss, r2)) (c : counter r2 ≡ Ok (n, r3)) (f : free r3 ≡ Ok (fs, r4)) where
  pub arena_read : are_free ss fs ≡ true → (header >>= arena_at_front slots counter free) ≡ Ok ((ss, (n, fs)), r4)
  arena_read are = rw (h, s, c, f, are) refl

  pub arena_unordered : are_free ss fs ≡ false → (header >>= arena_at_front slots counter free) ≡ Err (FreeList, length r3)
  arena_unordered are = rw (h, s, c, f, are) refl

-- slots that are within a limit are within the indexes
most_indexed : (limit : Option ℕ) (n greatest : ℕ) → n ≤ most_slots limit greatest → n ≤ greatest
most_indexed None n greatest fits = fits
most_indexed (Some limit) n greatest fits = omega (arith, fits)

pub fits_unlimited : {X E : Type 0} (r : Result X E) (A B : Type 0) (limit : Option ℕ) (n greatest : ℕ) → OnOk r (((n ≤ most_slots limit greatest) × A) × B) → OnOk r (((n ≤ greatest) × A) × B)
fits_unlimited r A B limit n greatest fits =
    on_ok_weaker r (λ all. ((most_indexed limit n greatest all.0.0, all.0.1), all.1)) fits

-- The entries that a compression moves, each by its number.
use Rattle.std.proofs.Common.{◌≡◌, ℕ, zero, suc, ◌+◌, List, [], ◌∷◌, map, length, Option, Some, None, IsSome, slice_get, refl, sym, ap, ◌∙◌, arith}
use Rattle.std.proofs.lemmas.List.{length-map}
use Rattle.std.proofs.lemmas.Option.{slice_get-map}
use Rattle.triple_arena_ptr.specs.Pointers.{Pointer}
use Rattle.triple_arena_traits.specs.laws.ItemLaws.{joined, eq_true}
use Rattle.triple_arena_traits.specs.Entries.{entry_in, look_up, entry_count}
use Rattle.triple_arena_traits.specs.Walks.{entries_from, entries, keys_of, values_of, keys, values}
use Rattle.triple_arena_traits.specs.laws.WalkLaws.{found, slot_at, slot_of, length-entries}
use Rattle.triple_arena_traits.specs.Compression.{rank}
use Rattle.triple_arena_traits.specs.laws.CompressionLaws.{length-keys}
use Rattle.std.specs.List.{FoldsTo}
use Rattle.std.specs.Option.{option_map}
use Rattle.triple_arena_traits.specs.Moves.{Move, MoveTurn, Moves}

module _ {P T F : Type 0} (numbers : P → Pointer) (step : F → P → T → P → T → F → Type 0) where
  -- a value is given back for each entry
  pub length-moved : (rank : Pointer → Pointer) (f : F) (es : List (Pointer × T)) (vs : List T) → Moves numbers step rank f es vs → length vs ≡ length es
  length-moved rank f es vs m =
      ap length (sym m.gave) ∙ length-map m.moves (λ k. k.new) ∙ sym (length-map {B = Pointer × T} m.moves (λ k. (numbers k.from, k.old))) ∙ ap length m.came

  pub count-moved : (rank : Pointer → Pointer) (f : F) (slots : List (Option (ℕ × T))) (vs : List T) → Moves numbers step rank f (entries slots) vs → length vs ≡ entry_count slots
  count-moved rank f slots vs m = length-moved rank f (entries slots) vs m ∙ length-entries slots

module _ {T : Type 0} where
  -- the k-th entry, by its pointer
  nth_of : (at : ℕ) (xs : List (Option (ℕ × T))) (i j : ℕ) (e : ℕ × T) → i ≡ at + j → slice_get xs j ≡ Some (Some e) → (k : ℕ) × (slice_get (keys_of (entries_from at xs)) k ≡ Some (i, e.0)) × (slice_get (values_of (entries_from at xs)) k ≡ Some e.1)
  nth_of at [] i j e place found = absurd (cc)
  nth_of at (None ∷ xs) i zero e place found = absurd (cc)
  nth_of at (None ∷ xs) i (suc j) e place found = nth_of (at + 1) xs i j e (omega (arith, place)) found
  nth_of at (Some x ∷ xs) i zero e place found =
      let here : at ≡ i = omega (arith, place) in
      let is : x ≡ e = cc in
      (zero, rw (here, is) refl, rw is refl)
  nth_of at (Some x ∷ xs) i (suc j) e place found =
      let later = nth_of (at + 1) xs i j e (omega (arith, place)) found in
      (suc later.0, later.1, later.2)

  pub nth_found : (slots : List (Option (ℕ × T))) (p : Pointer) → IsSome (look_up slots p) → (v : T) × (k : ℕ) × (look_up slots p ≡ Some v) × (slice_get (keys slots) k ≡ Some p) × (slice_get (values slots) k ≡ Some v)
  nth_found slots p live =
      let f = found slots p live in
      let slot = slot_at slots p.0 (p.1, f.value) f.entry in
      let nth = nth_of 1 slots p.0 slot.0 (p.1, f.value) slot.1 slot.2 in
      (f.value, nth.0, f.looked_up, nth.1, nth.2)

  at_nth : (at : ℕ) (xs : List (Option (ℕ × T))) (k : ℕ) (p : Pointer) (v : T) → slice_get (keys_of (entries_from at xs)) k ≡ Some p → slice_get (values_of (entries_from at xs)) k ≡ Some v → (j : ℕ) × (p.0 ≡ at + j) × (slice_get xs j ≡ Some (Some (p.1, v)))
  at_nth at [] k p v key value = absurd (cc)
  at_nth at (None ∷ xs) k p v key value =
      let later = at_nth (at + 1) xs k p v key value in
      (suc later.0, omega (arith, later.1), later.2)
  at_nth at (Some e ∷ xs) zero p v key value =
      let here : (at, e.0) ≡ p = cc in
      let is : e.1 ≡ v = cc in
      (zero, omega (arith, ap (λ (q : Pointer). q.0) here), ap (λ (q : Pointer). Some (Some (q.1, e.1))) here ∙ ap (λ (w : T). Some (Some (p.1, w))) is)
  at_nth at (Some e ∷ xs) (suc k) p v key value =
      let later = at_nth (at + 1) xs k p v key value in
      (suc later.0, omega (arith, later.1), later.2)

  -- what is found under the k-th pointer is the k-th value
  pub found_nth : (slots : List (Option (ℕ × T))) (k : ℕ) (p : Pointer) (v : T) → slice_get (keys slots) k ≡ Some p → slice_get (values slots) k ≡ Some v → look_up slots p ≡ Some v
  found_nth slots k p v key value =
      let slot = at_nth 1 slots k p v key value in
      let entry : entry_in slots p.0 ≡ Some (p.1, v) = slot_of slots p.0 slot.0 slot.1 ∙ ap joined slot.2 in
      rw (entry, eq_true p.1 p.1 refl) refl

  -- where the pointers are renamed and the values are the same, each value is found under the new pointer
  pub found_renamed : (old new : List (Option (ℕ × T))) (rename : Pointer → Pointer) → keys new ≡ map rename (keys old) → values new ≡ values old → (p : Pointer) → IsSome (look_up old p) → look_up new (rename p) ≡ look_up old p
  found_renamed old new rename ks vs p live =
      let nth = nth_found old p live in
      found_nth new nth.1 (rename p) nth.0
      (ap (λ xs. slice_get xs nth.1) ks ∙ slice_get-map rename (keys old) nth.1 ∙ ap (option_map rename) nth.3)
      (ap (λ xs. slice_get xs nth.1) vs ∙ nth.4)
      ∙ sym nth.2

  pub count_renamed : (old new : List (Option (ℕ × T))) (rename : Pointer → Pointer) → keys new ≡ map rename (keys old) → entry_count new ≡ entry_count old
  count_renamed old new rename ks = sym (length-keys new) ∙ ap length ks ∙ length-map (keys old) rename ∙ length-keys old

-- a closure that gives each value back as it was changes none
pub values_kept : {P T F : Type 0} (numbers : P → Pointer) (step : F → P → T → P → T → F → Type 0) (rank : Pointer → Pointer) (f : F) (es : List (Pointer × T)) (vs : List T) → ((g : F) (m : Move P T) (h : F) → MoveTurn numbers step g m h → m.new ≡ m.old) → Moves numbers step rank f es vs → vs ≡ values_of es
values_kept {P} {T} {F} numbers step rank f es vs keeps m = sym m.gave ∙ each m.moves f m.last m.ran ∙ olds m.moves ∙ ap values_of m.came
  where
    each : (ms : List (Move P T)) (g h : F) → FoldsTo (MoveTurn numbers step) g ms h → map (λ k. k.new) ms ≡ map (λ k. k.old) ms
    each [] g h ran = refl
    each (k ∷ ms) g h ran = ap (λ (v : T). v ∷ map (λ k. k.new) ms) (keeps g k ran.0 ran.1) ∙ ap (λ l. k.old ∷ l) (each ms ran.0 h ran.2)

    olds : (ms : List (Move P T)) → map (λ k. k.old) ms ≡ values_of (map (λ k. (numbers k.from, k.old)) ms)
    olds [] = refl
    olds (k ∷ ms) = ap (λ l. k.old ∷ l) (olds ms)

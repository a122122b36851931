-- What look-ups find in slots whose values were mapped, and after a value or an entry was put in; and that a pointer follows
-- names.
use Rattle.std.proofs.Common.{◌≡◌, ◌≢◌, ℕ, ◌==◌, Bool, true, false, cond, List, [], ◌∷◌, map, Option, Some, None, is_some, refl, sym, ap, ◌∙◌, inl, inr}
use Rattle.std.proofs.lemmas.Bool.{cases_eq}
use Rattle.std.specs.Option.{option_map, option_and_then}
use Rattle.triple_arena_base.specs.Readings.{FollowsNames}
use Rattle.triple_arena_ptr.specs.Pointers.{Pointer}
use Rattle.triple_arena_traits.specs.ArenaState.{map_entry}
use Rattle.triple_arena_traits.specs.Entries.{entry_in, look_up, value_of_generation, with_value_in}
use Rattle.triple_arena_traits.specs.Items.{item}
use Rattle.triple_arena_traits.specs.laws.EntryLaws.{written}
use Rattle.triple_arena_traits.specs.laws.ItemLaws.{eq_true, eq_false, joined, item-map}
use Rattle.triple_arena_traits.specs.laws.PointerListLaws.{pointer_is}
use Rattle.triple_arena_traits.specs.laws.WellFormedLaws.{entry_of_value}

-- what is found in slots whose values were mapped
module _ {T U : Type 0} (f : T → U) where
  valued_mapped : (h : ℕ) (o : Option (ℕ × T)) → option_and_then (value_of_generation h) (option_map (map_entry f) o) ≡ option_map f (option_and_then (value_of_generation h) o)
  valued_mapped h None = refl
  valued_mapped h (Some e) = by_test (e.0 == h)
    where
      by_test : (b : Bool) → cond b (Some (f e.1)) None ≡ option_map f (cond b (Some e.1) None)
      by_test true = refl
      by_test false = refl

  slot_mapped : (o : Option (Option (ℕ × T))) → joined (option_map (option_map (map_entry f)) o) ≡ option_map (map_entry f) (joined o)
  slot_mapped None = refl
  slot_mapped (Some o) = refl

  pub found_mapped : (slots : List (Option (ℕ × T))) (p : Pointer) → look_up (map (option_map (map_entry f)) slots) p ≡ option_map f (look_up slots p)
  found_mapped slots p =
      ap (λ o. option_and_then (value_of_generation p.1) (joined o)) (item-map (option_map (map_entry f)) slots p.0)
      ∙ ap (option_and_then (value_of_generation p.1)) (slot_mapped (item slots p.0))
      ∙ valued_mapped p.1 (joined (item slots p.0))

module _ {T : Type 0} where
  pub entry_at : (slots : List (Option (ℕ × T))) (p : Pointer) (v : T) → look_up slots p ≡ Some v → entry_in slots p.0 ≡ Some (p.1, v)
  entry_at slots p v is =
      let there = entry_of_value slots p.0 p.1 (ap is_some is) in
      let same : there.0 ≡ v = cc in
      there.1 ∙ ap (λ w. Some (p.1, w)) same

  -- an entry is not found under another generation
  other_generation : (h g : ℕ) (v : T) → g ≢ h → option_and_then (value_of_generation g) (Some (h, v)) ≡ None
  other_generation h g v other = ap (λ b. cond b (Some v) None) (eq_false h g (λ same. other (sym same)))

  -- where at one index alone the entry changes, and is of a pointer's generation, every other pointer finds what it did, where
  -- it found nothing there
  others_found : (old new : List (Option (ℕ × T))) (p q : Pointer) (w : T) → entry_in new p.0 ≡ Some (p.1, w)
      → (q.1 ≢ p.1 → option_and_then (value_of_generation q.1) (entry_in old p.0) ≡ None)
      → (q.0 ≢ p.0 → look_up new q ≡ look_up old q) → q ≢ p → look_up new q ≡ look_up old q
  others_found old new p q w there none away other =
      elim (cases_eq q.0 p.0) [
        | inl same ↦
            let generation : q.1 ≢ p.1 = λ e. other (pointer_is q.0 q.1 p.0 p.1 same e) in
            ap (option_and_then (value_of_generation q.1)) (ap (entry_in new) same ∙ there)
            ∙ other_generation p.1 q.1 w generation
            ∙ sym (ap (λ i. option_and_then (value_of_generation q.1) (entry_in old i)) same ∙ none generation)
        | inr index ↦ away index
      ]

  -- another value under a pointer that is found is found there, and every other pointer finds what it did
  module _ (slots : List (Option (ℕ × T))) (p : Pointer) (v w : T) (is : look_up slots p ≡ Some v) where
    entry_written : entry_in (with_value_in slots p.0 w) p.0 ≡ Some (p.1, w)
    entry_written = (written slots p.0 w).there ∙ ap (option_map (λ (e : ℕ × T). (e.0, w))) (entry_at slots p v is)

    pub written_there : look_up (with_value_in slots p.0 w) p ≡ Some w
    written_there = ap (option_and_then (value_of_generation p.1)) entry_written ∙ ap (λ b. cond b (Some w) None) (eq_true p.1 p.1 refl)

    pub written_elsewhere : (q : Pointer) → q ≢ p → look_up (with_value_in slots p.0 w) q ≡ look_up slots q
    written_elsewhere q other =
        others_found slots (with_value_in slots p.0 w) p q w entry_written
        (λ generation. ap (option_and_then (value_of_generation q.1)) (entry_at slots p v is) ∙ other_generation p.1 q.1 v generation)
        (λ index. ap (option_and_then (value_of_generation q.1)) ((written slots p.0 w).others q.0 index)) other

  -- an entry where none stood leaves every other pointer what it found
  pub inserted_elsewhere : (old new : List (Option (ℕ × T))) (p : Pointer) (v : T) → entry_in old p.0 ≡ None → look_up new p ≡ Some v
      → ((q : Pointer) → q.0 ≢ p.0 → look_up new q ≡ look_up old q) → (q : Pointer) → q ≢ p → look_up new q ≡ look_up old q
  inserted_elsewhere old new p v free found others q other =
      others_found old new p q v (entry_at new p v found) (λ generation. ap (option_and_then (value_of_generation q.1)) free) (others q) other

-- a pointer that holds itself follows names
module _ {P : Type 0} (numbers : P → Pointer) (held : P → List P) (refill : P → List P → P) (holds_itself : (p : P) → held p ≡ p ∷ []) (refills : (p q : P) → refill p (q ∷ []) ≡ q) where
  pub pointer_follows : FollowsNames numbers held refill numbers (λ rename. rename)
  pointer_follows rename p l names = by_list l (names ∙ ap (λ ps. map rename (map numbers ps)) (holds_itself p))
    where
      by_list : (l : List P) → map numbers l ≡ rename (numbers p) ∷ [] → numbers (refill p l) ≡ rename (numbers p)
      by_list [] e = absurd (cc)
      by_list (q ∷ []) e = let here : numbers q ≡ rename (numbers p) = cc in ap numbers (refills p q) ∙ here
      by_list (q ∷ r ∷ l) e = absurd (cc)

-- How a walk writes the pointers of one arena into the entries of another.
use Rattle.std.proofs.Common.{◌≡◌, ℕ, ◌<◌, false, List, [], ◌∷◌, ◌++◌, length, map, Option, Some, None, refl, sym, ap, ◌∙◌, arith, append_assoc}
use Rattle.std.proofs.lemmas.List.{append-nil, map_push}
use Rattle.triple_arena_ptr.specs.Pointers.{Pointer}
use Rattle.triple_arena_traits.specs.Entries.{with_value_in}
use Rattle.triple_arena_traits.specs.Walks.{Stand, Steps, IsAtFirst, entries_behind, keys_of, values_of, keys, values, keys_ahead}
use Rattle.triple_arena_traits.specs.laws.WalkLaws.{keys_first, keys_taken, keys_none, none_behind, all_behind, behind_written, ahead_written, forward_stays}

no_length : (ks : List Pointer) → length ks ≡ 0 → ks ≡ []
no_length [] e = refl
no_length (k ∷ ks) e = absurd (omega (arith, e))

module _ {P U : Type 0} (numbers : P → Pointer) where
  -- the entries behind have the pointers that were met, and the others come after both
  pub record Paired (first now : List (Option (ℕ × P))) (from : Stand) (slots : List (Option (ℕ × U))) (to : Stand) : Type 0 where
    pub forward : from.reverse ≡ false
    pub onward : to.reverse ≡ false
    pub places : keys_of (entries_behind from now) ++ keys_ahead from now ≡ keys first
    pub pointers : map numbers (values_of (entries_behind from now)) ++ keys_ahead to slots ≡ keys slots
    pub as_many : length (keys_ahead from now) ≡ length (keys_ahead to slots)

  pub paired_start : (first : List (Option (ℕ × P))) (from : Stand) (slots : List (Option (ℕ × U))) (to : Stand) → IsAtFirst first from → IsAtFirst slots to → length (keys first) ≡ length (keys slots) → Paired first first from slots to
  paired_start first from slots to at_first at_first' many =
      record {
        forward = at_first.forward;
        onward = at_first'.forward;
        places = rw (none_behind first from at_first) (keys_first first from at_first);
        pointers = rw (none_behind first from at_first) (keys_first slots to at_first');
        as_many = ap length (keys_first first from at_first) ∙ many ∙ sym (ap length (keys_first slots to at_first'));
      }

  -- there is one more pointer for each entry that is left
  pub paired_more : (greatest : ℕ) (first now : List (Option (ℕ × P))) (from : Stand) (slots : List (Option (ℕ × U))) (to : Stand) (p : Pointer) (from' : Stand) → Paired first now from slots to → Steps greatest now from (Some p) from' → 0 < length (keys_ahead to slots)
  paired_more greatest first now from slots to p from' w steps =
      omega (arith, w.as_many, ap length (keys_taken greatest now from p from' w.forward steps))

  pub paired_on : (greatest : ℕ) (first now : List (Option (ℕ × P))) (from : Stand) (slots : List (Option (ℕ × U))) (to : Stand) (p q : Pointer) (x : P) (from' to' : Stand) → Paired first now from slots to → Steps greatest now from (Some p) from' → Steps greatest slots to (Some q) to' → numbers x ≡ q
      → Paired first (with_value_in now p.0 x) from' slots to'
  paired_on greatest first now from slots to p q x from' to' w steps steps' is =
      let behind = behind_written greatest now from p from' x w.forward steps in
      let ahead : keys_ahead from' (with_value_in now p.0 x) ≡ keys_ahead from' now = ap keys_of (ahead_written greatest now from p from' x steps) in
      let here = keys_taken greatest now from p from' w.forward steps in
      let there = keys_taken greatest slots to q to' w.onward steps' in
      record {
        forward = forward_stays greatest now from (Some p) from' steps ∙ w.forward;
        onward = forward_stays greatest slots to (Some q) to' steps' ∙ w.onward;
        places =
            ap (λ es. keys_of es ++ keys_ahead from' (with_value_in now p.0 x)) behind
            ∙ ap (λ ks. keys_of (entries_behind from now ++ (p, x) ∷ []) ++ ks) ahead
            ∙ ap (λ ks. ks ++ keys_ahead from' now) (map_push (λ (e : Pointer × P). e.0) (entries_behind from now) (p, x))
            ∙ append_assoc (keys_of (entries_behind from now)) (p ∷ []) (keys_ahead from' now)
            ∙ ap (λ ks. keys_of (entries_behind from now) ++ ks) (sym here)
            ∙ w.places;
        pointers =
            ap (λ es. map numbers (values_of es) ++ keys_ahead to' slots) behind
            ∙ ap (λ vs. map numbers vs ++ keys_ahead to' slots) (map_push (λ (e : Pointer × P). e.1) (entries_behind from now) (p, x))
            ∙ ap (λ ks. ks ++ keys_ahead to' slots) (map_push numbers (values_of (entries_behind from now)) x)
            ∙ append_assoc (map numbers (values_of (entries_behind from now))) (numbers x ∷ []) (keys_ahead to' slots)
            ∙ ap (λ k. map numbers (values_of (entries_behind from now)) ++ k ∷ keys_ahead to' slots) is
            ∙ ap (λ ks. map numbers (values_of (entries_behind from now)) ++ ks) (sym there)
            ∙ w.pointers;
        as_many = omega (arith, w.as_many, ap length here, ap length there, ap length ahead);
      }

  pub paired_end : (greatest : ℕ) (first now : List (Option (ℕ × P))) (from : Stand) (slots : List (Option (ℕ × U))) (to : Stand) (from' : Stand) → Paired first now from slots to → Steps greatest now from None from' → (keys now ≡ keys first) × (map numbers (values now) ≡ keys slots)
  paired_end greatest first now from slots to from' w steps =
      let none = keys_none greatest now from from' steps in
      let all = all_behind greatest now from from' steps in
      let none' = no_length (keys_ahead to slots) (sym w.as_many ∙ ap length none) in (
        ap keys_of (sym all) ∙ sym (append-nil (keys_of (entries_behind from now))) ∙ ap (λ ks. keys_of (entries_behind from now) ++ ks) (sym none) ∙ w.places,
        ap (λ es. map numbers (values_of es)) (sym all) ∙ sym (append-nil (map numbers (values_of (entries_behind from now)))) ∙ ap (λ ks. map numbers (values_of (entries_behind from now)) ++ ks) (sym none') ∙ w.pointers,
      )

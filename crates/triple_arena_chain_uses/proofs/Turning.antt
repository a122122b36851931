-- The ring of a cache after a key went, and after one came.
use Rattle.std.specs.Prelude.{List, [], ◌∷◌, ◌++◌, Contains}
use Rattle.std.proofs.Common.{◌≡◌, ◌≢◌, ◌⊎◌, ℕ, zero, suc, ◌+◌, ◌<◌, nat_eq, Bool, true, false, cond, length, inl, inr, Option, Some, None, IsSome, refl, sym, ap, ◌∙◌, subst, arith, length-append, true≢false}
use Rattle.std.proofs.lemmas.Bool.{eqb-true, eq-eqb}
use Rattle.std.specs.Map.{remove_entry}
use Rattle.std.specs.Option.{option_map}
use Rattle.triple_arena_chain.specs.Pointers.{Pointer}
use Rattle.triple_arena_chain.specs.Chains.{Node, value_at, after_at, IsInserted, IsRemoved, IsRun}
use Rattle.triple_arena_chain_uses.specs.Cache.{IsOrder}
use Rattle.triple_arena_chain.specs.laws.LinkLaws.{same_pointer, between_after, linked_inserted, linked_removed}
use Rattle.triple_arena_chain.specs.laws.RunLaws.{in_head, in_tail, inserted_after, removed_run, not_free}
use Rattle.triple_arena_chain.specs.laws.RestLaws.{in_rest}
use Rattle.triple_arena_chain_uses.proofs.Ordering.{with_one, not_eq, read, read_one, read_same, removed_here, not_bare, Around, around}

-- the places of keys without one, and with another
abbrev pub without : ℕ → (ℕ → Option Pointer) → ℕ → Option Pointer
without k place r = cond (nat_eq k r) None (place r)

abbrev pub placing : ℕ → Pointer → (ℕ → Option Pointer) → ℕ → Option Pointer
placing k q place r = cond (nat_eq k r) (Some q) (place r)

module _ {T : Type 0} where
  pub valued_there : (nodes : Pointer → Option (Node (Option (ℕ × T)))) (p : Pointer) (v : Option (ℕ × T)) → value_at nodes p ≡ Some v → IsSome (nodes p)
  valued_there nodes p v is = by_node (nodes p) is
    where
      by_node : (o : Option (Node (Option (ℕ × T)))) → option_map (λ (n : Node (Option (ℕ × T))). n.value) o ≡ Some v → IsSome o
      by_node None e = absurd (cc)
      by_node (Some node) e = refl

  -- places that are the same at every key serve alike
  pub same_places : (nodes : Pointer → Option (Node (Option (ℕ × T)))) (len : ℕ) (bare : Pointer) (place other : ℕ → Option Pointer) (most : ℕ) (order : List Pointer)
      → IsOrder nodes len bare place most order → ((k : ℕ) → other k ≡ place k) → IsOrder nodes len bare other most order
  same_places nodes len bare place other most order is same =
      record {
        linked = is.linked;
        run = is.run;
        keyless = is.keyless;
        all = is.all;
        placed = λ p within. let here = is.placed p within in (here.0, here.1, same here.0.0 ∙ here.2);
        found = λ k p at. is.found k p (sym (same k) ∙ at);
        within = is.within;
        some = is.some;
      }

  module _ (nodes : Pointer → Option (Node (Option (ℕ × T)))) (len : ℕ) (bare : Pointer) (place : ℕ → Option Pointer) (most : ℕ) (order : List Pointer)
      (is : IsOrder nodes len bare place most order) where
    -- a key goes
    pub taken : (k : ℕ) (p : Pointer) → place k ≡ Some p → (mid : Pointer → Option (Node (Option (ℕ × T)))) (fewer : ℕ) → IsRemoved nodes p mid → fewer + 1 ≡ len
        → (left : List Pointer) × IsOrder mid fewer bare (without k place) most left × (length left + 1 ≡ length order) × (read mid left ≡ remove_entry (nat_eq k) (read nodes order))
    taken k p at mid fewer removed one = (
      a.front ++ a.back,
      record {
        linked = linked_removed nodes p mid is.linked removed;
        run = run;
        keyless = removed.values bare bare_other ∙ is.keyless;
        all = omega (arith, lengths, is.all, one);
        placed = λ r within.
            let here = is.placed r (in_order r within) in
            (here.0, removed.values r (left_other r within) ∙ here.1, ap (λ b. cond b None (place here.0.0)) (other_key r within here.0 here.1) ∙ here.2);
        found = λ r s there.
            let kept = was_placed r s there in
            let here = is.found r s kept.1 in
            let apart : p ≢ s = λ e. kept.0 (key_of s here.1 e r here.2) in
            let among : Contains (a.front ++ p ∷ a.back) s = subst (λ ps. Contains ps s) a.order_is here.0 in
            (in_rest a.front p a.back s among apart, here.1, removed.values s (λ e. apart (sym e)) ∙ here.2);
        within = omega (arith, lengths, is.within);
        some = is.some;
      },
      lengths,
      read_same nodes mid (a.front ++ a.back) (λ r within. removed.values r (left_other r within))
          ∙ sym (ap (λ ps. remove_entry (nat_eq k) (read nodes ps)) a.order_is ∙ removed_here nodes k a.value a.front p a.back a.others a.value_is),
    )
      where
        a : Around nodes len bare place most order is k p at
        a = around nodes len bare place most order is k p at

        in_order : (r : Pointer) → Contains (a.front ++ a.back) r → Contains order r
        in_order r within = subst (λ ps. Contains ps r) (sym a.order_is) (with_one a.front p a.back r within)

        left_other : (r : Pointer) → Contains (a.front ++ a.back) r → r ≢ p
        left_other r within = by_side (sides a.front r within)
          where
            sides : (xs : List Pointer) (r : Pointer) → Contains (xs ++ a.back) r → Contains xs r ⊎ Contains a.back r
            sides [] r within = inr within
            sides (x ∷ xs) r (zero, within, is) = inl (zero, omega arith, is)
            sides (x ∷ xs) r (suc n, within, is) =
                elim (sides xs r (n, omega (arith, within), is)) [
                  | inl there ↦ inl (in_tail x r xs there)
                  | inr there ↦ inr there
                ]

            by_side : Contains a.front r ⊎ Contains a.back r → r ≢ p
            by_side (inl there) e = a.before r there (sym e)
            by_side (inr there) e = a.behind r there (sym e)

        bare_other : bare ≢ p
        bare_other = not_bare nodes len bare place most order is p (is.found k p at).0

        lengths : length (a.front ++ a.back) + 1 ≡ length order
        lengths =
            let whole : length order ≡ length (a.front ++ p ∷ a.back) = ap length a.order_is in
            omega (arith, whole, length-append a.front a.back, length-append a.front (p ∷ a.back))

        run : IsRun mid (bare ∷ a.front ++ a.back) (Some bare)
        run =
            (removed_run nodes p mid (bare ∷ a.front) a.back (Some bare) is.linked removed
            (subst (λ ps. IsRun nodes (bare ∷ ps) (Some bare)) a.order_is is.run) before a.behind (λ e. bare_other (same_pointer bare p e))).0
          where
            before : (r : Pointer) → Contains (bare ∷ a.front) r → p ≢ r
            before r (zero, within, is) e = bare_other (is ∙ sym e)
            before r (suc n, within, is) e = a.before r (n, omega (arith, within), is) e

        -- what has the key of a place is that
        same_key : (x y : ℕ × T) → Some (Some x) ≡ Some (Some y) → x.0 ≡ y.0
        same_key x y e = let same : x ≡ y = cc in ap (λ (pair : ℕ × T). pair.0) same

        key_of : (s : Pointer) (v : T) → p ≡ s → (r : ℕ) → value_at nodes s ≡ Some (Some (r, v)) → k ≡ r
        key_of s v e r value = same_key (k, a.value) (r, v) (sym a.value_is ∙ ap (value_at nodes) e ∙ value)

        other_key : (r : Pointer) → Contains (a.front ++ a.back) r → (pair : ℕ × T) → value_at nodes r ≡ Some (Some pair) → nat_eq k pair.0 ≡ false
        other_key r within pair value = not_eq k pair.0 (λ e. left_other r within (same_pointer r p (sym (place_of r (in_order r within) pair value) ∙ ap place (sym e) ∙ at)))
          where
            place_of : (r : Pointer) → Contains order r → (pair : ℕ × T) → value_at nodes r ≡ Some (Some pair) → place pair.0 ≡ Some r
            place_of r within pair value =
                let here = is.placed r within in
                ap place (same_key pair here.0 (sym value ∙ here.1)) ∙ here.2

        was_placed : (r : ℕ) (s : Pointer) → without k place r ≡ Some s → (k ≢ r) × (place r ≡ Some s)
        was_placed r s there = by_test (nat_eq k r) refl there
          where
            by_test : (b : Bool) → nat_eq k r ≡ b → cond b None (place r) ≡ Some s → (k ≢ r) × (place r ≡ Some s)
            by_test true e there = absurd (cc)
            by_test false e there = (λ same. true≢false (sym (eq-eqb k r same) ∙ e), there)

    -- a key comes
    pub added : (k : ℕ) (v : T) → place k ≡ None → (q : Pointer) (new : Pointer → Option (Node (Option (ℕ × T)))) (more : ℕ)
        → IsInserted nodes (Some bare) (after_at nodes bare) q (Some (k, v)) new → more ≡ len + 1 → length order < most
        → IsOrder new more bare (placing k q place) most (q ∷ order) × (read new (q ∷ order) ≡ (k, v) ∷ read nodes order)
    added k v none q new more done one room = (
      record {
        linked = linked_inserted nodes (Some bare) (after_at nodes bare) q (Some (k, v)) new is.linked (between_after nodes is.linked bare bare_there) done;
        run = run;
        keyless = done.values bare bare_other ∙ is.keyless;
        all = omega (arith, is.all, one);
        placed = placed;
        found = λ r s at. found r s (nat_eq k r) refl at;
        within = omega (arith, room);
        some = is.some;
      },
      read_one new q order (k, v) here ∙ ap (λ es. (k, v) ∷ es) (read_same nodes new order (λ r within. done.values r (order_other r within))),
    )
      where
        bare_there : IsSome (nodes bare)
        bare_there = valued_there nodes bare None is.keyless

        bare_other : bare ≢ q
        bare_other = not_free nodes bare q bare_there done.free

        order_there : (r : Pointer) → Contains order r → IsSome (nodes r)
        order_there r within = let has = is.placed r within in valued_there nodes r (Some has.0) has.1

        order_other : (r : Pointer) → Contains order r → r ≢ q
        order_other r within = not_free nodes r q (order_there r within) done.free

        here : value_at new q ≡ Some (Some (k, v))
        here = ap (option_map (λ (n : Node (Option (ℕ × T))). n.value)) done.found

        run : IsRun new (bare ∷ q ∷ order) (Some bare)
        run =
            (inserted_after nodes bare q (Some (k, v)) new [] order (Some bare) done is.run (λ r within e. absurd (omega (arith, within.1)))
            (not_bare nodes len bare place most order is)).0

        none_some : {x : Pointer} → None ≡ Some x → ⊥
        none_some e = absurd (cc)

        placed : (r : Pointer) → Contains (q ∷ order) r → (pair : ℕ × T) × (value_at new r ≡ Some (Some pair)) × (placing k q place pair.0 ≡ Some r)
        placed r (zero, within, e) = ((k, v), ap (value_at new) (sym e) ∙ here, ap (λ b. cond b (Some q) (place k)) (eq-eqb k k refl) ∙ ap Some e)
        placed r (suc n, within, e) =
            let there : Contains order r = (n, omega (arith, within), e) in
            let has = is.placed r there in
            let apart : k ≢ has.0.0 = λ same. none_some (sym none ∙ ap place same ∙ has.2) in
            (has.0, done.values r (order_other r there) ∙ has.1, ap (λ b. cond b (Some q) (place has.0.0)) (not_eq k has.0.0 apart) ∙ has.2)

        found : (r : ℕ) (s : Pointer) (b : Bool) → nat_eq k r ≡ b → cond b (Some q) (place r) ≡ Some s → Contains (q ∷ order) s × (w : T) × (value_at new s ≡ Some (Some (r, w)))
        found r s true e at =
            let same : q ≡ s = same_pointer q s at in
            let key : k ≡ r = eqb-true k r e in
            (subst (λ x. Contains (q ∷ order) x) same (in_head q order), v, ap (value_at new) (sym same) ∙ here ∙ ap (λ x. Some (Some (x, v))) key)
        found r s false e at =
            let has = is.found r s at in
            (in_tail q s order has.0, has.1, done.values s (order_other s has.0) ∙ has.2)

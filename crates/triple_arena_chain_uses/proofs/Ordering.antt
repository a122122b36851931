-- The ring of a cache: what is read along it, and what stands in it after a key goes and after one comes.
use Rattle.std.specs.Prelude.{List, [], ◌∷◌, ◌++◌, Contains}
use Rattle.std.proofs.Common.{◌≡◌, ◌≢◌, ℕ, zero, suc, ◌<◌, nat_eq, Bool, true, false, cond, length, Option, Some, None, refl, sym, ap, ◌∙◌, subst, arith}
use Rattle.std.proofs.lemmas.Bool.{eqb-true, eq-eqb}
use Rattle.std.specs.Map.{lookup, remove_entry}
use Rattle.std.specs.Option.{option_and_then}
use Rattle.triple_arena_chain.specs.Pointers.{Pointer}
use Rattle.triple_arena_chain.specs.Chains.{Node, value_at, after_at, first_of, IsRun, AreOnce}
use Rattle.triple_arena_chain_uses.specs.Cache.{use_at, put_before, uses_from, IsOrder}
use Rattle.triple_arena_chain.specs.laws.LinkLaws.{same_pointer}
use Rattle.triple_arena_chain.specs.laws.RunLaws.{in_head, in_tail}
use Rattle.triple_arena_chain.specs.laws.RestLaws.{split_at, run_once}

-- a place of a list is in a longer one
in_front : (xs ys : List Pointer) (p : Pointer) → Contains xs p → Contains (xs ++ ys) p
in_front [] ys p (k, within, is) = absurd (omega arith)
in_front (x ∷ xs) ys p (zero, within, is) = (zero, omega arith, is)
in_front (x ∷ xs) ys p (suc k, within, is) = in_tail x p (xs ++ ys) (in_front xs ys p (k, omega (arith, within), is))

in_end : (xs ys : List Pointer) (p : Pointer) → Contains ys p → Contains (xs ++ ys) p
in_end [] ys p within = within
in_end (x ∷ xs) ys p within = in_tail x p (xs ++ ys) (in_end xs ys p within)

pub with_one : (xs : List Pointer) (p : Pointer) (ys : List Pointer) (r : Pointer) → Contains (xs ++ ys) r → Contains (xs ++ p ∷ ys) r
with_one [] p ys r within = in_tail p r ys within
with_one (x ∷ xs) p ys r (zero, within, is) = (zero, omega arith, is)
with_one (x ∷ xs) p ys r (suc k, within, is) = in_tail x r (xs ++ p ∷ ys) (with_one xs p ys r (k, omega (arith, within), is))

-- what stands once stands neither before itself nor behind
pub once_before : (xs : List Pointer) (p : Pointer) (ys : List Pointer) → AreOnce (xs ++ p ∷ ys) → (r : Pointer) → Contains xs r → p ≢ r
once_before [] p ys once r (k, within, is) e = absurd (omega arith)
once_before (x ∷ xs) p ys once r (zero, within, is) e = once.0 p (in_end xs (p ∷ ys) p (in_head p ys)) (is ∙ sym e)
once_before (x ∷ xs) p ys once r (suc k, within, is) e = once_before xs p ys once.1 r (k, omega (arith, within), is) e

once_behind : (xs : List Pointer) (p : Pointer) (ys : List Pointer) → AreOnce (xs ++ p ∷ ys) → (r : Pointer) → Contains ys r → p ≢ r
once_behind [] p ys once = once.0
once_behind (x ∷ xs) p ys once = once_behind xs p ys once.1

pub not_eq : (a b : ℕ) → a ≢ b → nat_eq a b ≡ false
not_eq a b other = by_test (nat_eq a b) refl
  where
    by_test : (t : Bool) → nat_eq a b ≡ t → t ≡ false
    by_test true e = absurd (other (eqb-true a b e))
    by_test false e = refl

module _ {T : Type 0} where
  -- the keys and values under these
  abbrev pub read : (Pointer → Option (Node (Option (ℕ × T)))) → List Pointer → List (ℕ × T)
  read nodes [] = []
  read nodes (p ∷ ps) = put_before (use_at nodes p) (read nodes ps)

  -- under each of these are a key and a value
  abbrev pub HaveUses : (Pointer → Option (Node (Option (ℕ × T)))) → List Pointer → Type 0
  HaveUses nodes ps = (p : Pointer) → Contains ps p → (pair : ℕ × T) × (value_at nodes p ≡ Some (Some pair))

  use_is : (nodes : Pointer → Option (Node (Option (ℕ × T)))) (p : Pointer) (pair : ℕ × T) → value_at nodes p ≡ Some (Some pair) → use_at nodes p ≡ Some pair
  use_is nodes p pair is = ap (option_and_then (λ u. u)) is

  pub read_one : (nodes : Pointer → Option (Node (Option (ℕ × T)))) (p : Pointer) (ps : List Pointer) (pair : ℕ × T) → value_at nodes p ≡ Some (Some pair) → read nodes (p ∷ ps) ≡ pair ∷ read nodes ps
  read_one nodes p ps pair is = ap (λ u. put_before u (read nodes ps)) (use_is nodes p pair is)

  tail_uses : (nodes : Pointer → Option (Node (Option (ℕ × T)))) (p : Pointer) (ps : List Pointer) → HaveUses nodes (p ∷ ps) → HaveUses nodes ps
  tail_uses nodes p ps have q within = have q (in_tail p q ps within)

  pub length-read : (nodes : Pointer → Option (Node (Option (ℕ × T)))) (ps : List Pointer) → HaveUses nodes ps → length (read nodes ps) ≡ length ps
  length-read nodes [] have = refl
  length-read nodes (p ∷ ps) have =
      let here = have p (in_head p ps) in
      let more = length-read nodes ps (tail_uses nodes p ps have) in
      ap length (read_one nodes p ps here.0 here.1) ∙ ap suc more

  pub read-append : (nodes : Pointer → Option (Node (Option (ℕ × T)))) (xs ys : List Pointer) → HaveUses nodes xs → read nodes (xs ++ ys) ≡ read nodes xs ++ read nodes ys
  read-append nodes [] ys have = refl
  read-append nodes (x ∷ xs) ys have =
      let here = have x (in_head x xs) in
      read_one nodes x (xs ++ ys) here.0 here.1
      ∙ ap (λ es. here.0 ∷ es) (read-append nodes xs ys (tail_uses nodes x xs have))
      ∙ sym (ap (λ es. es ++ read nodes ys) (read_one nodes x xs here.0 here.1))

  -- the same values are read, where they are
  pub read_same : (old new : Pointer → Option (Node (Option (ℕ × T)))) (ps : List Pointer) → ((p : Pointer) → Contains ps p → value_at new p ≡ value_at old p) → read new ps ≡ read old ps
  read_same old new [] same = refl
  read_same old new (p ∷ ps) same =
      ap (λ v. put_before (option_and_then (λ u. u) v) (read new ps)) (same p (in_head p ps))
      ∙ ap (put_before (use_at old p)) (read_same old new ps (λ q within. same q (in_tail p q ps within)))

  -- what is listed along a ring is what is read under its pointers
  pub listed : (nodes : Pointer → Option (Node (Option (ℕ × T)))) (bare : Pointer) → value_at nodes bare ≡ Some None → (order : List Pointer) (n : ℕ) → length order < n
      → IsRun nodes order (Some bare) → HaveUses nodes order → uses_from n nodes (first_of order (Some bare)) ≡ read nodes order
  listed nodes bare keyless order zero enough run have = absurd (omega (arith, enough))
  listed nodes bare keyless [] (suc n) enough run have = ap (λ v. put_before (option_and_then (λ u. u) v) (uses_from n nodes (after_at nodes bare))) keyless
  listed nodes bare keyless (p ∷ ps) (suc n) enough run have =
      ap (λ at. put_before (use_at nodes p) (uses_from n nodes at)) run.1
      ∙ ap (put_before (use_at nodes p)) (listed nodes bare keyless ps n (omega (arith, enough)) run.2 (tail_uses nodes p ps have))

  -- under each of these is another key
  abbrev pub HaveOthers : (Pointer → Option (Node (Option (ℕ × T)))) → ℕ → List Pointer → Type 0
  HaveOthers nodes k ps = (p : Pointer) → Contains ps p → (pair : ℕ × T) × (value_at nodes p ≡ Some (Some pair)) × (k ≢ pair.0)

  others_have : (nodes : Pointer → Option (Node (Option (ℕ × T)))) (k : ℕ) (ps : List Pointer) → HaveOthers nodes k ps → HaveUses nodes ps
  others_have nodes k ps others p within = let here = others p within in (here.0, here.1)

  pub lookup_none : (nodes : Pointer → Option (Node (Option (ℕ × T)))) (k : ℕ) (ps : List Pointer) → HaveOthers nodes k ps → lookup (nat_eq k) (read nodes ps) ≡ None
  lookup_none nodes k [] others = refl
  lookup_none nodes k (p ∷ ps) others =
      let here = others p (in_head p ps) in
      ap (lookup (nat_eq k)) (read_one nodes p ps here.0 here.1)
      ∙ ap (λ b. cond b (Some here.0.1) (lookup (nat_eq k) (read nodes ps))) (not_eq k here.0.0 here.2)
      ∙ lookup_none nodes k ps (λ q within. others q (in_tail p q ps within))

  pub removed_none : (nodes : Pointer → Option (Node (Option (ℕ × T)))) (k : ℕ) (ps : List Pointer) → HaveOthers nodes k ps → remove_entry (nat_eq k) (read nodes ps) ≡ read nodes ps
  removed_none nodes k [] others = refl
  removed_none nodes k (p ∷ ps) others =
      let here = others p (in_head p ps) in
      let reads = read_one nodes p ps here.0 here.1 in
      ap (remove_entry (nat_eq k)) reads
      ∙ ap (λ b. cond b (read nodes ps) (here.0 ∷ remove_entry (nat_eq k) (read nodes ps))) (not_eq k here.0.0 here.2)
      ∙ ap (λ es. here.0 ∷ es) (removed_none nodes k ps (λ q within. others q (in_tail p q ps within)))
      ∙ sym reads

  pub lookup_here : (nodes : Pointer → Option (Node (Option (ℕ × T)))) (k : ℕ) (v : T) (xs : List Pointer) (p : Pointer) (ys : List Pointer)
      → HaveOthers nodes k xs → value_at nodes p ≡ Some (Some (k, v)) → lookup (nat_eq k) (read nodes (xs ++ p ∷ ys)) ≡ Some v
  lookup_here nodes k v [] p ys others is =
      ap (lookup (nat_eq k)) (read_one nodes p ys (k, v) is)
      ∙ ap (λ b. cond b (Some v) (lookup (nat_eq k) (read nodes ys))) (eq-eqb k k refl)
  lookup_here nodes k v (x ∷ xs) p ys others is =
      let here = others x (in_head x xs) in
      ap (lookup (nat_eq k)) (read_one nodes x (xs ++ p ∷ ys) here.0 here.1)
      ∙ ap (λ b. cond b (Some here.0.1) (lookup (nat_eq k) (read nodes (xs ++ p ∷ ys)))) (not_eq k here.0.0 here.2)
      ∙ lookup_here nodes k v xs p ys (λ q within. others q (in_tail x q xs within)) is

  pub removed_here : (nodes : Pointer → Option (Node (Option (ℕ × T)))) (k : ℕ) (v : T) (xs : List Pointer) (p : Pointer) (ys : List Pointer)
      → HaveOthers nodes k xs → value_at nodes p ≡ Some (Some (k, v)) → remove_entry (nat_eq k) (read nodes (xs ++ p ∷ ys)) ≡ read nodes (xs ++ ys)
  removed_here nodes k v [] p ys others is =
      ap (remove_entry (nat_eq k)) (read_one nodes p ys (k, v) is)
      ∙ ap (λ b. cond b (read nodes ys) ((k, v) ∷ remove_entry (nat_eq k) (read nodes ys))) (eq-eqb k k refl)
  removed_here nodes k v (x ∷ xs) p ys others is =
      let here = others x (in_head x xs) in
      ap (remove_entry (nat_eq k)) (read_one nodes x (xs ++ p ∷ ys) here.0 here.1)
      ∙ ap (λ b. cond b (read nodes (xs ++ p ∷ ys)) (here.0 ∷ remove_entry (nat_eq k) (read nodes (xs ++ p ∷ ys)))) (not_eq k here.0.0 here.2)
      ∙ ap (λ es. here.0 ∷ es) (removed_here nodes k v xs p ys (λ q within. others q (in_tail x q xs within)) is)
      ∙ sym (read_one nodes x (xs ++ ys) here.0 here.1)

  module _ (nodes : Pointer → Option (Node (Option (ℕ × T)))) (len : ℕ) (bare : Pointer) (place : ℕ → Option Pointer) (most : ℕ) (order : List Pointer)
      (is : IsOrder nodes len bare place most order) where
    pub have_uses : HaveUses nodes order
    have_uses p within = let here = is.placed p within in (here.0, here.1)

    two_values : {a b : Option (ℕ × T)} → (p : Pointer) → value_at nodes p ≡ Some a → value_at nodes p ≡ Some b → a ≡ b
    two_values p e f = same_value (sym e ∙ f)
      where
        same_value : {a b : Option (ℕ × T)} → Some a ≡ Some b → a ≡ b
        same_value e = cc

    -- the keyless one is none of them
    pub not_bare : (p : Pointer) → Contains order p → bare ≢ p
    not_bare p within e =
        let here = is.placed p within in
        none_some (two_values p (sym (ap (value_at nodes) e) ∙ is.keyless) here.1)
      where
        none_some : {u : ℕ × T} → None ≡ Some u → ⊥
        none_some e = absurd (cc)

    pub all_once : AreOnce (bare ∷ order)
    all_once = run_once nodes is.linked bare order (Some bare) is.run not_bare

    -- what the cache has is what is read along its order
    pub entries_read : uses_from len nodes (after_at nodes bare) ≡ read nodes order
    entries_read = ap (uses_from len nodes) is.run.1 ∙ listed nodes bare is.keyless order len (omega (arith, is.all)) is.run.2 have_uses

    pub key_other : (k : ℕ) → place k ≡ None → HaveOthers nodes k order
    key_other k none p within =
        let here = is.placed p within in
        (here.0, here.1, λ e. none_some (sym none ∙ ap place e ∙ here.2))
      where
        none_some : {q : Pointer} → None ≡ Some q → ⊥
        none_some e = absurd (cc)

    module _ (k : ℕ) (p : Pointer) (at : place k ≡ Some p) where
      others_of : (xs : List Pointer) → ((r : Pointer) → Contains xs r → Contains order r × (p ≢ r)) → HaveOthers nodes k xs
      others_of xs among r within =
          let one = among r within in
          let here = is.placed r one.0 in
          (here.0, here.1, λ e. one.1 (same_pointer p r (sym at ∙ ap place e ∙ here.2)))

      -- the order around the place of a key
      pub record Around : Type 0 where
        pub front : List Pointer
        pub back : List Pointer
        pub order_is : order ≡ front ++ p ∷ back
        pub before : (r : Pointer) → Contains front r → p ≢ r
        pub behind : (r : Pointer) → Contains back r → p ≢ r
        pub value : T
        pub value_is : value_at nodes p ≡ Some (Some (k, value))
        pub others : HaveOthers nodes k front

      pub around : Around
      around =
          let found = is.found k p at in
          let split = split_at order p found.0 in
          let once : AreOnce (split.0 ++ p ∷ split.1) = subst AreOnce split.2 all_once.1 in
          let before = once_before split.0 p split.1 once in
          record {
            front = split.0;
            back = split.1;
            order_is = split.2;
            before = before;
            behind = once_behind split.0 p split.1 once;
            value = found.1;
            value_is = found.2;
            others = others_of split.0 (λ r within. (subst (λ ps. Contains ps r) (sym split.2) (in_front split.0 (p ∷ split.1) r within), before r within));
          }

      pub value_looked_up : (v : T) → value_at nodes p ≡ Some (Some (k, v)) → lookup (nat_eq k) (uses_from len nodes (after_at nodes bare)) ≡ Some v
      value_looked_up v v_is =
          ap (lookup (nat_eq k)) (entries_read ∙ ap (read nodes) around.order_is)
          ∙ lookup_here nodes k v around.front p around.back around.others v_is

    pub none_looked_up : (k : ℕ) → place k ≡ None → lookup (nat_eq k) (uses_from len nodes (after_at nodes bare)) ≡ None
    none_looked_up k none = ap (lookup (nat_eq k)) entries_read ∙ lookup_none nodes k order (key_other k none)

-- Entries of a map that are read one after the other, each of a key above the last.
use Rattle.std.proofs.Common.{◌≡◌, ℕ, suc, ◌+◌, ◌-◌, ◌<◌, ◌≤◌, Bool, true, false, true≢false, ◌&&◌, List, [], ◌∷◌, ◌++◌, map, length, Ok, Err, refl, sym, ap, ◌∙◌, subst, arith}
use Rattle.std.specs.List.{AllByRecursion}
use Rattle.std.specs.List.Sorted.{IsStrictlySortedBy}
use Rattle.std.specs.declared.cmp.Ordering.{Ordering}
use Rattle.std.specs.declared.cmp.Ordering.TheVariants.{Less, Equal, Greater}
use Rattle.std.specs.Ordering.{is_lt, ordering_reverse, match_ordering}
use Rattle.std.specs.Cmp.{IsTotalOrder}
use Rattle.std.specs.Map.{keys_of}
use Rattle.std.specs.BTreeMap.{insert_entry}
use Rattle.std.proofs.lemmas.Map.Keys.{sorted_head, sorted_tail}
use Rattle.triple_arena_snapshot.specs.declared.fault.Fault.TheVariants.{Order}
use Rattle.triple_arena_snapshot.specs.declared.fault.DecodeError.{DecodeError}
use Rattle.triple_arena_snapshot.specs.declared.fault.DecodeError.TheVariants as errors
use Rattle.triple_arena_snapshot.specs.Coding.{Decoded, Fails}
use Rattle.triple_arena_snapshot.specs.MapCodings.{is_above, entries_behind}
use Rattle.triple_arena_snapshot.specs.Maps.{contents}

is_less : (r : Ordering) → is_lt r ≡ true → r ≡ Less
is_less Less e = refl
is_less Equal e = absurd (true≢false (sym e))
is_less Greater e = absurd (true≢false (sym e))

and_true : (b : Bool) → (b && true) ≡ b
and_true true = refl
and_true false = refl

and_false : (b : Bool) → (b && false) ≡ false
and_false true = refl
and_false false = refl

both_hold : (a b : Bool) → (a && b) ≡ true → (a ≡ true) × (b ≡ true)
both_hold true b e = (refl, e)
both_hold false b e = absurd (true≢false (sym e))

module _ {K : Type 0} (cmp : K → K → Ordering) (o : IsTotalOrder cmp) where
  last_of : (P : K → Type 0) (ks : List K) (j : K) → AllByRecursion P (ks ++ j ∷ []) → P j
  last_of P [] j h = h.0
  last_of P (i ∷ ks) j h = last_of P ks j h.1

  below_last : (i j k : K) → cmp i j ≡ Less → (r : Ordering) → cmp j k ≡ r → (is_lt (cmp i k) && is_lt r) ≡ is_lt r
  below_last i j k less Less e = rw (o.trans i j k less e) refl
  below_last i j k less Equal e = and_false (is_lt (cmp i k))
  below_last i j k less Greater e = and_false (is_lt (cmp i k))

  -- a key is above keys that rise where it is above the last
  pub above_last : (ks : List K) (j k : K) → IsStrictlySortedBy cmp (ks ++ j ∷ []) → is_above cmp (ks ++ j ∷ []) k ≡ is_lt (cmp j k)
  above_last [] j k sorted = and_true (is_lt (cmp j k))
  above_last (i ∷ ks) j k sorted =
      let less : cmp i j ≡ Less = last_of (λ x. cmp i x ≡ Less) ks j (sorted_head cmp i (ks ++ j ∷ []) sorted) in
      ap (λ (b : Bool). is_lt (cmp i k) && b) (above_last ks j k (sorted_tail cmp i (ks ++ j ∷ []) sorted)) ∙ below_last i j k less (cmp j k) refl

  -- an entry of such a key goes behind the others
  pub inserted_last : {V : Type 0} (es : List (K × V)) (k : K) (v : V) → is_above cmp (keys_of es) k ≡ true → insert_entry cmp es k v ≡ es ++ (k, v) ∷ []
  inserted_last [] k v above = refl
  inserted_last (e ∷ es) k v above =
      let tests = both_hold (is_lt (cmp e.0 k)) (is_above cmp (keys_of es) k) above in
      let greater : cmp k e.0 ≡ Greater = o.antisymm k e.0 ∙ ap ordering_reverse (is_less (cmp e.0 k) tests.0) in
      rw greater (ap (λ xs. e ∷ xs) (inserted_last es k v tests.1))

  module _ {V C D : Type 0} (key : K → C) (value : V → D) (order : C → C → Ordering) (orders : (a b : K) → cmp a b ≡ order (key a) (key b)) where
    -- the same by contents
    pub above_contents : (es : List (K × V)) (k : K) → is_above order (keys_of (contents key value es)) (key k) ≡ is_above cmp (keys_of es) k
    above_contents [] k = refl
    above_contents (e ∷ es) k = rw (orders e.0 k, above_contents es k) refl

    sorted_below : (a : K) (es : List (K × V)) → AllByRecursion (λ j. cmp a j ≡ Less) (keys_of es) → AllByRecursion (λ j. order (key a) j ≡ Less) (keys_of (contents key value es))
    sorted_below a [] h = h
    sorted_below a (e ∷ es) h = (sym (orders a e.0) ∙ h.0, sorted_below a es h.1)

    pub sorted_contents : (es : List (K × V)) → IsStrictlySortedBy cmp (keys_of es) → IsStrictlySortedBy order (keys_of (contents key value es))
    unfolding IsStrictlySortedBy
    sorted_contents [] h = h
    sorted_contents (e ∷ es) h = (sorted_below e.0 es h.0, sorted_contents es h.1)

module _ {K L : Type 0} (order : K → K → Ordering) (key : List ℕ → Decoded K) (value : List ℕ → Decoded L)
    (before : List (K × L)) (count i : ℕ) (bytes : List ℕ) (total : Decoded (List (K × L))) (so_far : entries_behind order key value before (count - i) bytes ≡ total) where
  module _ (lt : i < count) where
    one_more : count - i ≡ suc (count - (i + 1))
    one_more = omega arith

    pub key_fails : (e : DecodeError) → Fails e (key bytes) → Fails e total
    key_fails errors.Memory h = tt
    key_fails (errors.Malformed fault left) h =
        let one : entries_behind order key value before (count - i) bytes ≡ Err (fault, left) = rw (one_more, h) refl in
        sym so_far ∙ one

    module _ (k : K) (behind : List ℕ) (read : key bytes ≡ Ok (k, behind)) where
      pub key_falls : is_above order (keys_of before) k ≡ false → total ≡ Err (Order, length bytes)
      key_falls falls =
          let one : entries_behind order key value before (count - i) bytes ≡ Err (Order, length bytes) = rw (one_more, read, falls) refl in
          sym so_far ∙ one

      module _ (above : is_above order (keys_of before) k ≡ true) where
        pub value_fails : (e : DecodeError) → Fails e (value behind) → Fails e total
        value_fails errors.Memory h = tt
        value_fails (errors.Malformed fault left) h =
            let one : entries_behind order key value before (count - i) bytes ≡ Err (fault, left) = rw (one_more, read, above, h) refl in
            sym so_far ∙ one

        pub entry_read : (v : L) (after : List ℕ) → value behind ≡ Ok (v, after) → entries_behind order key value (before ++ (k, v) ∷ []) (count - (i + 1)) after ≡ total
        entry_read v after h =
            let one : entries_behind order key value before (count - i) bytes ≡ entries_behind order key value (before ++ (k, v) ∷ []) (count - (i + 1)) after
            = rw (one_more, read, above, h) refl in
            sym one ∙ so_far

  pub all_read : count ≤ i → total ≡ Ok (before, bytes)
  all_read le =
      let n : count - i ≡ 0 = omega arith in
      let one : entries_behind order key value before (count - i) bytes ≡ Ok (before, bytes) = rw n refl in
      sym so_far ∙ one

-- Two slots with other values, and pointers of one index.
use Rattle.std.proofs.Common.{◌≡◌, ℕ, ◌-◌, ◌<◌, true, List, ◌++◌, length, take, drop, slice_get, set, Option, Some, None, is_some, sym, ap, ◌∙◌}
use Rattle.std.proofs.Math.Seq.{take-append_seam}
use Rattle.std.proofs.lemmas.List.{length-set}
use Rattle.std.proofs.lemmas.Option.{same_Some, some_pair_parts}
use Rattle.std.specs.List.{refill}
use Rattle.std.specs.Option.{option_map}
use Rattle.triple_arena_ptr.specs.Pointers.{Pointer}
use Rattle.triple_arena_stack.specs.Disjoint.{set_both, MayWork}
use Rattle.triple_arena_traits.specs.Items.{item, with_item}
use Rattle.triple_arena_traits.specs.Entries.{entry_in, look_up}
use Rattle.triple_arena_traits.specs.DisjointEntries.{PairOnce, value_of}
use Rattle.triple_arena_traits.specs.SlotPairs.{WritesTwo}
use Rattle.triple_arena_traits.specs.laws.ItemLaws.{item_at, with_item_at}
use Rattle.triple_arena_traits.specs.laws.WellFormedLaws.{entry_of_value}
use Rattle.triple_arena_traits.specs.laws.PointerListLaws.{pointer_is}

refill-same_length : {X : Type 0} (xs ws : List X) → length ws ≡ length xs → refill (length xs) xs ws ≡ ws
refill-same_length xs ws len =
    ap (λ n. take n (ws ++ drop (length ws) xs)) (sym len) ∙ take-append_seam ws (drop (length ws) xs)

module _ {X : Type 0} (xs all : List X) (is : all ≡ xs) where
  -- a slot that is lent out of all of them
  pub item_lent : (m i : ℕ) (x : X) → m ≡ i → 0 < i → Some x ≡ slice_get all (m - 1) → item xs i ≡ Some x
  item_lent m i x here positive read = item_at xs i positive ∙ sym (rw (is, here) at read)

  -- all of them, after two were written
  pub both_lent : (m n i j : ℕ) (x y : X) → m ≡ i → n ≡ j → 0 < i → 0 < j → refill (length xs) xs (set_both all (m - 1) (n - 1) x y) ≡ with_item (with_item xs i x) j y
  both_lent m n i j x y first second positive_i positive_j =
      let size : length (set_both xs (i - 1) (j - 1) x y) ≡ length xs = length-set (set xs (i - 1) x) (j - 1) y ∙ length-set xs (i - 1) x in
      rw (is, first, second, with_item_at xs i x positive_i, with_item_at (set xs (i - 1) x) j y positive_j) (refill-same_length xs (set_both xs (i - 1) (j - 1) x y) size)

-- two slots with other values, put back
pub writes_two : {X T : Type 0} (put : X → T → X) (es es' : List X) (i j : ℕ) (a b a' b' : X) (x y : T) → item es i ≡ Some a → item es j ≡ Some b → a' ≡ put a x → b' ≡ put b y → es' ≡ with_item (with_item es i a') j b' → WritesTwo put es es' i j x y
writes_two put es es' i j a b a' b' x y at_i at_j left_i left_j is =
    record {
      first = a;
      second = b;
      at_first = at_i;
      at_second = at_j;
      written = is ∙ ap (λ s. with_item (with_item es i s) j b') left_i ∙ ap (with_item (with_item es i (put a x)) j) left_j;
    }

module _ {T : Type 0} (slots : List (Option (ℕ × T))) where
  -- the value under a valid pointer is that of the entry at its index
  pub value_at_pointer : (p : Pointer) (i : ℕ) → i ≡ p.0 → is_some (look_up slots p) ≡ true → value_of (entry_in slots i) ≡ look_up slots p
  value_at_pointer p i here valid =
      let found = entry_of_value slots p.0 p.1 valid in
      ap (λ n. value_of (entry_in slots n)) here ∙ ap value_of found.1 ∙ sym found.2

  -- two valid pointers with one index are one
  pub same_pointer : (p q : Pointer) → is_some (look_up slots p) ≡ true → is_some (look_up slots q) ≡ true → p.0 ≡ q.0 → p ≡ q
  same_pointer p q valid_p valid_q here =
      let found_p = entry_of_value slots p.0 p.1 valid_p in
      let found_q = entry_of_value slots q.0 q.1 valid_q in
      pointer_is p.0 p.1 q.0 q.1 here (some_pair_parts p.1 q.1 found_p.0 found_q.0 (sym found_p.1 ∙ ap (entry_in slots) here ∙ found_q.1)).0

  -- an entry, by its generation and by its value
  pub entry_by_parts : (i n h : ℕ) (x : T) → n ≡ i → Some h ≡ option_map (λ (e : ℕ × T). e.0) (entry_in slots i) → value_of (entry_in slots n) ≡ Some x → entry_in slots i ≡ Some (h, x)
  entry_by_parts i n h x here stamped read = by_entry (entry_in slots i) stamped (sym (ap (λ m. value_of (entry_in slots m)) here) ∙ read)
    where
      by_entry : (o : Option (ℕ × T)) → Some h ≡ option_map (λ (e : ℕ × T). e.0) o → value_of o ≡ Some x → o ≡ Some (h, x)
      by_entry None stamped read = absurd (cc)
      by_entry (Some e) stamped read = ap (λ n. Some (n, e.1)) (sym (same_Some h e.0 stamped)) ∙ ap (λ v. Some (h, v)) (same_Some e.1 x read)

-- a call that may be made at two values may be made at the same two
pub may_work_at : {F T R : Type 0} (c : PairOnce F T R) (f : F) (a b a' b' : Option T) → a ≡ a' → b ≡ b' → MayWork c f a b → MayWork c f a' b'
may_work_at c f a b a' b' first second may x y at_x at_y = may x y (first ∙ at_x) (second ∙ at_y)

-- Items that are lent as a slice.
use Rattle.std.proofs.Common.{◌≡◌, ◌-◌, ℕ, List, [], ◌∷◌, ◌++◌, length, take, drop, slice_get, slice_set, Some, refl, sym, ap, ◌∙◌}
use Rattle.std.specs.List.{refill}
use Rattle.std.proofs.lemmas.List.{length-set}
use Rattle.triple_arena_stack.specs.Disjoint.{set_both}

module _ {X : Type 0} where
  take-append : (ws zs : List X) → take (length ws) (ws ++ zs) ≡ ws
  take-append [] zs = refl
  take-append (w ∷ ws) zs = ap (λ l. w ∷ l) (take-append ws zs)

  -- a slice as long as the items is what they become
  pub refill-same_length : (xs ws : List X) → length ws ≡ length xs → refill (length xs) xs ws ≡ ws
  refill-same_length xs ws len = rw (sym len) (take-append ws (drop (length ws) xs))

  -- two items that were written in the slice are written in the items
  pub refill-set_both : (xs all : List X) (m n i j : ℕ) (x y : X) → all ≡ xs → m ≡ i → n ≡ j → refill (length xs) xs (set_both all (m - 1) (n - 1) x y) ≡ set_both xs (i - 1) (j - 1) x y
  refill-set_both xs all m n i j x y is first second =
      rw (is, first, second) (refill-same_length xs (set_both xs (i - 1) (j - 1) x y) (length-set (slice_set xs (i - 1) x) (j - 1) y ∙ length-set xs (i - 1) x))

  -- an item that was read in the slice is one of the items
  pub item_in_slice : (xs all : List X) (m i : ℕ) (x : X) → all ≡ xs → m ≡ i → Some x ≡ slice_get all (m - 1) → slice_get xs (i - 1) ≡ Some x
  item_in_slice xs all m i x is at found = sym (rw (is, at) at found)

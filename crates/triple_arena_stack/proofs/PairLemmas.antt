-- Two items of a list that is cut in two.
use Rattle.std.proofs.Common.{◌≡◌, ◌≢◌, ◌<◌, ◌≤◌, ◌-◌, ◌+◌, ℕ, List, ◌++◌, length, slice_get, slice_set, get_or, Some, arith, sym, ◌∙◌, refl, length-append}
use Rattle.std.proofs.lemmas.List.{set_comm, set-append_left, set-append_right, length-set, get_or_append_left, get_or-append-add}
use Rattle.std.proofs.lemmas.Option.{slice_get_read}
use Rattle.triple_arena_stack.specs.Disjoint.{set_both}

module _ {X : Type 0} (xs front back : List X) where
  -- a write in the front and one at the head of the back, put together again
  pub joined-set_both : (i j : ℕ) (x y : X) → xs ≡ front ++ back → length front ≡ j → i < j → slice_set front i x ++ slice_set back 0 y ≡ set_both xs i j x y
  joined-set_both i j x y cut len lt =
      let in_front : slice_set (front ++ back) i x ≡ slice_set front i x ++ back = set-append_left front back i x (omega arith) in
      let in_back : slice_set (slice_set front i x ++ back) j y ≡ slice_set front i x ++ slice_set back (j - j) y = set-append_right (slice_set front i x) back j j y (length-set front i x ∙ len) (omega arith) in
      let head : j - j ≡ 0 = omega arith in
      rw (cut, in_front, in_back, head) refl

  -- the same, with the two asked for in the other order
  pub joined-set_both-swapped : (i j : ℕ) (x y : X) → xs ≡ front ++ back → length front ≡ i → j < i → slice_set front j y ++ slice_set back 0 x ≡ set_both xs i j x y
  joined-set_both-swapped i j x y cut len lt =
      joined-set_both j i y x cut len lt ∙ set_comm xs j i y x (λ (same : j ≡ i). omega arith)

  -- what is read in the front is an item of the list
  pub item_in_front : (i : ℕ) (x : X) → xs ≡ front ++ back → i < length front → x ≡ get_or front i x → Some x ≡ slice_get xs i
  item_in_front i x cut lt read =
      rw cut (sym (slice_get_read (front ++ back) (length (front ++ back)) i x refl (omega (arith, length-append front back)) (read ∙ sym (get_or_append_left front back x i lt))))

  -- and what is read at the head of the back
  pub item_at_cut : (j : ℕ) (x : X) → xs ≡ front ++ back → length front ≡ j → 0 < length back → x ≡ get_or back 0 x → Some x ≡ slice_get xs j
  item_at_cut j x cut len some read =
      let at : length front + 0 ≡ j = omega arith in
      rw cut (sym (slice_get_read (front ++ back) (length (front ++ back)) j x refl (omega (arith, length-append front back)) (read ∙ sym (rw at at (get_or-append-add front back 0 x)))))

-- of two places that are not in order and not the same, the second is the lower
pub below : (i j : ℕ) → j ≤ i → i ≢ j → j < i
below i j le apart = grind arith

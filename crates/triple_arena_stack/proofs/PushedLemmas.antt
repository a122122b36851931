-- An item that was pushed.
use Rattle.std.proofs.Common.{◌≡◌, ℕ, List, [], ◌∷◌, ◌++◌, length, slice_set, slice_index_or, ◌∙◌}
use Rattle.std.proofs.Math.Seq.{set-append_seam, get_or-append_seam}

module _ {X : Type 0} (xs ys : List X) (t : X) (len : ℕ) where
  -- a write at its place puts another item there
  pub set-pushed : ys ≡ xs ++ t ∷ [] → len ≡ length xs → (w : X) → slice_set ys len w ≡ xs ++ w ∷ []
  set-pushed is at w = rw (is, at) (set-append_seam xs t [] w)

  -- what is read at its place is the item
  pub read-pushed : ys ≡ xs ++ t ∷ [] → len ≡ length xs → (x : X) → x ≡ slice_index_or ys len x → x ≡ t
  read-pushed is at x read = read ∙ rw (is, at) (get_or-append_seam xs t [] x)

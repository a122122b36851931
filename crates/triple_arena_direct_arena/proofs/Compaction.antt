-- The direct arena after a compression.
use Rattle.std.proofs.Common.{◌≡◌, ℕ, List, [], ◌∷◌, length, map, Option, Some, None, is_some, cond, refl, sym, ap, subst, ◌∙◌, arith}
use Rattle.std.proofs.lemmas.List.Sums.{sum_by-cons, count_by-le-length}
use Rattle.triple_arena_ptr.specs.Pointers.{Pointer}
use Rattle.triple_arena_traits.specs.Entries.{entry_count}
use Rattle.triple_arena_traits.specs.Walks.{entries, keys}
use Rattle.triple_arena_traits.specs.Compression.{rank_in, placed}
use Rattle.triple_arena_traits.specs.laws.CompressionLaws.{length-keys}
use Rattle.triple_arena_traits.specs.Moves.{Moves}
use Rattle.triple_arena_traits.specs.laws.MoveLaws.{count-moved, count_renamed}
use Rattle.triple_arena_direct_arena.specs.DirectState.{DirectState, direct_compressed}
use Rattle.triple_arena_direct_arena.specs.laws.DirectCompressionLaws.{placed_own, keys-compressed}
use Rattle.triple_arena_direct_arena.specs.DirectLayout.{Counts}

module _ {T : Type 0} where
  -- each of so many values has a slot, and its entry
  size-placed : (ps : List Pointer) (vs : List T) → length vs ≡ length ps → (length (placed ps vs) ≡ length vs) × (entry_count (placed ps vs) ≡ length vs)
  size-placed [] [] many = (refl, refl)
  size-placed [] (v ∷ vs) many = absurd (omega (arith, many))
  size-placed (p ∷ ps) [] many = absurd (omega (arith, many))
  size-placed (p ∷ ps) (v ∷ vs) many =
      let one : Option (ℕ × T) → ℕ = λ o. cond (is_some o) 1 0 in
      let later = size-placed ps vs (omega (arith, many)) in
      (omega (arith, later.0), omega (arith, later.1, sum_by-cons one (Some (p.1, v)) (placed ps vs)))

  pub Counts-compressed : (len : ℕ) (s : DirectState T) (vs : List T) → length vs ≡ entry_count s.slots → Counts len s → Counts len (direct_compressed s vs)
  Counts-compressed len s vs many counts =
      let size = size-placed (keys s.slots) vs (many ∙ sym (length-keys s.slots)) in
      record {
        counted = counts.counted ∙ sym (size.1 ∙ many);
        fits = omega (arith, size.0, many, count_by-le-length is_some s.slots, counts.fits);
      }

  -- slots that are closed up under their own generations are those of the arena compressed
  pub closed_state : {P F : Type 0} (numbers : P → Pointer) (step : F → P → T → P → T → F → Type 0) (f : F) (xs ys : List (Option (ℕ × T))) (s : DirectState T) (vs : List T)
      → xs ≡ s.slots → Moves numbers step (rank_in None xs) f (entries xs) vs → ys ≡ placed (map (rank_in None xs) (keys xs)) vs
      → Moves numbers step (rank_in None s.slots) f (entries s.slots) vs × (ys ≡ (direct_compressed s vs).slots) × (length vs ≡ entry_count s.slots)
  closed_state numbers step f xs ys s vs same moved stands =
      let moves = subst (λ zs. Moves numbers step (rank_in None zs) f (entries zs) vs) same moved in
      (moves, stands ∙ placed_own xs (keys xs) vs ∙ ap (λ zs. placed (keys zs) vs) same, count-moved numbers step (rank_in None s.slots) f s.slots vs moves)

  pub len-compressed : (old new : DirectState T) (vs : List T) → new ≡ direct_compressed old vs → length vs ≡ entry_count old.slots → entry_count new.slots ≡ entry_count old.slots
  len-compressed old new vs is many = count_renamed old.slots new.slots (rank_in None old.slots) (keys-compressed old new vs is many)

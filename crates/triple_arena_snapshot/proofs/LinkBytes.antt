-- The indexes of a free list, written one after the other along the links.
use Rattle.std.proofs.Common.{◌≡◌, ℕ, zero, suc, ◌+◌, ◌-◌, ◌<◌, ◌≤◌, List, [], ◌∷◌, ◌++◌, Option, Some, None, refl, sym, ap, subst, ◌∙◌, append_assoc, arith}
use Rattle.std.specs.List.{flat_map, AllByRecursion}
use Rattle.std.proofs.lemmas.List.{append-nil}
use Rattle.std.proofs.lemmas.List.Concat.{flat_map-cons}
use Rattle.triple_arena_slots.specs.Layout.{after, chain}
use Rattle.triple_arena_slots.specs.declared.slot.ArenaSlot.{ArenaSlot}
use Rattle.triple_arena_snapshot.specs.ArenaLayouts.{index}

module _ {P T I G : Type 0} (es : List (ArenaSlot P T I G)) where
  chain_ends : (n : ℕ) → chain es n None ≡ []
  chain_ends zero = refl
  chain_ends (suc n) = refl

  chain_step : (count i x : ℕ) → i < count → chain es (count - i) (Some x) ≡ x ∷ chain es (count - (i + 1)) (after es x)
  chain_step count i x lt = let n : count - i ≡ suc (count - (i + 1)) = omega arith in rw n refl

  chain_done : (count i : ℕ) (from : Option ℕ) → count ≤ i → chain es (count - i) from ≡ []
  chain_done count i from le = let n : count - i ≡ 0 = omega arith in rw n refl

  -- one more is written
  pub writes_on : (count i x : ℕ) (from next : Option ℕ) (out new total : List ℕ) → i < count → from ≡ Some x → next ≡ after es x → new ≡ out ++ index.encoding x → out ++ flat_map index.encoding (chain es (count - i) from) ≡ total → new ++ flat_map index.encoding (chain es (count - (i + 1)) next) ≡ total
  writes_on count i x from next out new total lt here on is so_far =
      let rest = chain es (count - (i + 1)) (after es x) in
      let step : chain es (count - i) from ≡ x ∷ rest = ap (chain es (count - i)) here ∙ chain_step count i x lt in
      ap (λ o. new ++ flat_map index.encoding (chain es (count - (i + 1)) o)) on ∙ ap (λ (n : List ℕ). n ++ flat_map index.encoding rest) is ∙ append_assoc out (index.encoding x) (flat_map index.encoding rest)
      ∙ ap (λ (n : List ℕ). out ++ n) (sym (flat_map-cons index.encoding x rest)) ∙ ap (λ (is : List ℕ). out ++ flat_map index.encoding is) (sym step) ∙ so_far

  pub fits_on : {A : Type 0} (count i x : ℕ) (from next : Option ℕ) → i < count → from ≡ Some x → next ≡ after es x → index.fits x → (AllByRecursion index.fits (chain es (count - i) from) → A) → AllByRecursion index.fits (chain es (count - (i + 1)) next) → A
  fits_on count i x from next lt here on fits all rest =
      let step : chain es (count - i) from ≡ x ∷ chain es (count - (i + 1)) (after es x) = ap (chain es (count - i)) here ∙ chain_step count i x lt in
      all (subst (AllByRecursion index.fits) (sym step) (fits, subst (λ o. AllByRecursion index.fits (chain es (count - (i + 1)) o)) on rest))

  -- nothing is left to write
  pub written_at_none : (n : ℕ) (from : Option ℕ) (out total : List ℕ) → from ≡ None → out ++ flat_map index.encoding (chain es n from) ≡ total → out ≡ total
  written_at_none n from out total none so_far =
      sym (append-nil out) ∙ ap (λ (is : List ℕ). out ++ flat_map index.encoding is) (sym (ap (chain es n) none ∙ chain_ends n)) ∙ so_far

  pub fits_at_none : {A : Type 0} (n : ℕ) (from : Option ℕ) → from ≡ None → (AllByRecursion index.fits (chain es n from) → A) → A
  fits_at_none n from none all = all (subst (AllByRecursion index.fits) (sym (ap (chain es n) none ∙ chain_ends n)) tt)

  pub written_at_end : (count i : ℕ) (from : Option ℕ) (out total : List ℕ) → count ≤ i → out ++ flat_map index.encoding (chain es (count - i) from) ≡ total → out ≡ total
  written_at_end count i from out total le so_far =
      sym (append-nil out) ∙ ap (λ (is : List ℕ). out ++ flat_map index.encoding is) (sym (chain_done count i from le)) ∙ so_far

  pub fits_at_end : {A : Type 0} (count i : ℕ) (from : Option ℕ) → count ≤ i → (AllByRecursion index.fits (chain es (count - i) from) → A) → A
  fits_at_end count i from le all = all (subst (AllByRecursion index.fits) (sym (chain_done count i from le)) tt)

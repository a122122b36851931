-- Removals that do not wrap the counter.
use Rattle.std.proofs.Common.{◌≡◌, ℕ, ◌+◌, ◌≤◌, ◌==◌, false, if◌then◌else◌, List, [], ◌∷◌, length, refl, ap, ◌∙◌, arith}
use Rattle.triple_arena_ptr.specs.Numbers.{counting_to, raise, wraps}
use Rattle.triple_arena_ptr.specs.Pointers.{Pointer}
use Rattle.triple_arena_traits.specs.laws.ItemLaws.{eq_false}
use Rattle.triple_arena_traits.specs.ArenaState.{ArenaState}
use Rattle.triple_arena_traits.specs.Ending.{removed}
use Rattle.triple_arena_traits.specs.Drains.{NoneWraps}
use Rattle.triple_arena_traits.specs.laws.WellFormedLaws.{counter-removed}

module _ {T : Type 0} (greatest : ℕ) where
  -- as many as the counter is below the greatest generation
  pub none_wraps : (s : ArenaState T) (ps : List Pointer) → s.counter + length ps ≤ greatest → NoneWraps (λ (old : ArenaState T) (i : ℕ) (new : ArenaState T). new ≡ removed (raise (counting_to greatest)) old i) (λ (a : ArenaState T). wraps (counting_to greatest) a.counter) (counting_to greatest) s ps
  none_wraps s [] room = tt
  none_wraps s (p ∷ ps) room =
      let not_last : (s.counter == greatest) ≡ false = eq_false s.counter greatest (λ same. omega (arith, room, same)) in
      let next : raise (counting_to greatest) s.counter ≡ s.counter + 1 = ap (λ b. if b then 2 else s.counter + 1) not_last in (
        (refl, not_last),
        λ new is.
            let counter : new.counter ≡ s.counter + 1 = ap (λ (a : ArenaState T). a.counter) is ∙ counter-removed (raise (counting_to greatest)) s p.0 ∙ next in
            none_wraps new ps (omega (arith, room, counter)),
      )

-- Answers that tell of a wrap, with another value in them.
use Rattle.std.proofs.Common.{◌≡◌, Bool, true, false, sym, ap, ◌∙◌}
use Rattle.triple_arena_base.specs.Invalidation.{allowed_option, MapsOption}
use Rattle.triple_arena_base.specs.declared.invalidation.InvalidationOption.{InvalidationOption}
use Rattle.triple_arena_base.specs.declared.invalidation.InvalidationOption.TheVariants.{Success, GenerationOverflow}
use Rattle.triple_arena_traits.specs.Ending.{told}

module _ {T X : Type 0} (takes : T → X → Type 0) where
  -- the same is told, with the new value
  pub told_mapped : (wrapped : Bool) (t : T) (answer : InvalidationOption T) (result : InvalidationOption X) → answer ≡ told wrapped t → MapsOption takes answer result → result ≡ told wrapped (allowed_option result)
  told_mapped true t (Success u) result is maps = absurd (cc)
  told_mapped true t (GenerationOverflow u) result is maps = maps.1.1 ∙ ap GenerationOverflow (sym (ap allowed_option maps.1.1))
  told_mapped false t (Success u) result is maps = maps.1.1 ∙ ap Success (sym (ap allowed_option maps.1.1))
  told_mapped false t (GenerationOverflow u) result is maps = absurd (cc)

  -- which is the one that the closure gives
  pub value_mapped : (x : X) (answer : InvalidationOption T) (result : InvalidationOption X) → ((t : T) (y : X) → takes t y → y ≡ x) → MapsOption takes answer result → allowed_option result ≡ x
  value_mapped x (Success u) result gives maps = ap allowed_option maps.1.1 ∙ gives u maps.0 maps.1.0
  value_mapped x (GenerationOverflow u) result gives maps = ap allowed_option maps.1.1 ∙ gives u maps.0 maps.1.0

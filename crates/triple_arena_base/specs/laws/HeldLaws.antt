-- The laws of holding, of an item itself, of a value that holds none, and of an `Option`.
use Rattle.std.specs.Prelude.{Some, None, List, [], ◌∷◌, refl}
use Rattle.std.proofs.Common.{ap, arith}
use Rattle.triple_arena_base.specs.Held.{HoldsRefill, KeepsHeld, LastRefills, held_itself, refill_itself, held_nothing, refill_nothing, held_option, refill_option}

module _ {I : Type 0} where
  pub itself_held_refill : HoldsRefill (held_itself {I = I}) refill_itself
  itself_held_refill v [] h = absurd (omega arith)
  itself_held_refill v (x ∷ []) h = refl
  itself_held_refill v (x ∷ y ∷ l) h = absurd (omega arith)

  pub itself_refill_held : KeepsHeld (held_itself {I = I}) refill_itself
  itself_refill_held v = refl

  pub itself_refill_refill : LastRefills (held_itself {I = I}) refill_itself
  itself_refill_refill v l [] h k = absurd (omega arith)
  itself_refill_refill v l (x ∷ m) h k = refl

module _ {I T : Type 0} where
  -- the other two laws hold by `refl` of a value that holds none
  pub nothing_held_refill : HoldsRefill (held_nothing {I = I} {T = T}) refill_nothing
  nothing_held_refill v [] h = refl
  nothing_held_refill v (x ∷ l) h = absurd (omega arith)

module _ {I T : Type 0} (held : T → List I) (refill : T → List I → T) where
  pub option_held_refill : HoldsRefill held refill → HoldsRefill (held_option held) (refill_option refill)
  option_held_refill law None [] h = refl
  option_held_refill law None (x ∷ l) h = absurd (omega arith)
  option_held_refill law (Some t) l h = law t l h

  pub option_refill_held : KeepsHeld held refill → KeepsHeld (held_option held) (refill_option refill)
  option_refill_held law None = refl
  option_refill_held law (Some t) = ap Some (law t)

  pub option_refill_refill : LastRefills held refill → LastRefills (held_option held) (refill_option refill)
  option_refill_refill law None l m h k = refl
  option_refill_refill law (Some t) l m h k = ap Some (law t l m h k)

-- What a port holds, case by case.
use Rattle.std.specs.Prelude.{List, [], refl}
use Rattle.std.proofs.Common.{ap}
use Rattle.triple_arena_base.specs.Held.{HoldsRefill, KeepsHeld, LastRefills, held_option, refill_option}
use Rattle.triple_arena_base.specs.laws.HeldLaws.{nothing_held_refill, option_held_refill, option_refill_held, option_refill_refill}
use Rattle.triple_arena_uses.specs.declared.ports.Port.{Port}
use Rattle.triple_arena_uses.specs.declared.ports.Port.TheVariants.{Input, Output, Open}

module _ {I P : Type 0} (held : P → List I) (refill : P → List I → P) where
  -- what leads from it
  abbrev pub port_held : Port P → List I
  port_held (Input from) = held from
  port_held (Output to load) = held_option held to
  port_held Open = []

  abbrev pub port_refill : Port P → List I → Port P
  port_refill (Input from) l = Input (refill from l)
  port_refill (Output to load) l = Output (refill_option refill to l) load
  port_refill Open l = Open

  pub port_held_refill : HoldsRefill held refill → HoldsRefill port_held port_refill
  port_held_refill law (Input from) l h = law from l h
  port_held_refill law (Output to load) l h = option_held_refill held refill law to l h
  port_held_refill law Open l h = nothing_held_refill {T = Port P} Open l h

  pub port_refill_held : KeepsHeld held refill → KeepsHeld port_held port_refill
  port_refill_held law (Input from) = ap Input (law from)
  port_refill_held law (Output to load) = ap (λ o. Output o load) (option_refill_held held refill law to)
  port_refill_held law Open = refl

  pub port_refill_refill : LastRefills held refill → LastRefills port_held port_refill
  port_refill_refill law (Input from) l m h k = ap Input (law from l m h k)
  port_refill_refill law (Output to load) l m h k = ap (λ o. Output o load) (option_refill_refill held refill law to l m h k)
  port_refill_refill law Open l m h k = refl

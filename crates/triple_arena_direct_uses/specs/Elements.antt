-- What a flip-flop and an element hold: the pins to which they lead.
use Rattle.std.proofs.Common.{refl}
use Rattle.triple_arena_ptr.specs.declared.P0.{P0}
use Rattle.triple_arena_direct.specs.Holding.{Holding, itself, option, vector, both, part, Arm, IsArm, arm, bare, in_arm, in_bare, arms}
use Rattle.triple_arena_direct_uses.specs.declared.elements.Flop.{Flop}
use Rattle.triple_arena_direct_uses.specs.declared.elements.Element.{Element}
use Rattle.triple_arena_direct_uses.specs.declared.elements.Element.TheVariants.{Clocked, Wire, Open}

abbrev pub flop_pins : Holding P0 Flop
flop_pins =
    part {S = Flop} (λ s. (s.inputs, (s.clock, s.reset))) (λ s pins. record s { inputs = pins.0; clock = pins.1.0; reset = pins.1.1 }) (λ s a. refl) (λ s. refl) (λ s a b. refl)
    (both (vector itself) (both itself (option itself)))

abbrev pub pins_of : Element → Arm P0 Element
pins_of (Clocked flop) = arm flop_pins flop Clocked
pins_of (Wire from load) = arm itself from (λ pin. Wire pin load)
pins_of Open = bare Open

pub each_pins : (v : Element) → IsArm pins_of v
each_pins (Clocked flop) = in_arm pins_of flop_pins Clocked (λ a. refl) flop
each_pins (Wire from load) = in_arm pins_of itself (λ pin. Wire pin load) (λ a. refl) from
each_pins Open = in_bare pins_of Open refl

abbrev pub element_pins : Holding P0 Element
element_pins = arms pins_of each_pins

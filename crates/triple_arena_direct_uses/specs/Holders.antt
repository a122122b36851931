-- What a row of a table of names holds.
use Rattle.std.specs.Prelude.{List}
use Rattle.std.proofs.Common.{ap}
use Rattle.triple_arena_base.specs.Held.{HoldsRefill, KeepsHeld, LastRefills, held_itself, refill_itself}
use Rattle.triple_arena_base.specs.laws.HeldLaws.{itself_held_refill, itself_refill_held, itself_refill_refill}
use Rattle.triple_arena_ptr.specs.declared.P0.{P0}
use Rattle.triple_arena_direct_uses.specs.declared.holders.Named.{Named}

abbrev pub named_held : Named → List P0
named_held row = held_itself row.link

abbrev pub named_refill : Named → List P0 → Named
named_refill row l = record row { link = refill_itself row.link l }

pub named_held_refill : HoldsRefill named_held named_refill
named_held_refill row = itself_held_refill row.link

pub named_refill_held : KeepsHeld named_held named_refill
named_refill_held row = ap (λ link. record row { link = link }) (itself_refill_held row.link)

pub named_refill_refill : LastRefills named_held named_refill
named_refill_refill row l m h k = ap (λ link. record row { link = link }) (itself_refill_refill row.link l m h k)

-- What slots hold: what the values of their entries hold, in the order of the indexes.
use Rattle.std.specs.Prelude.{ℕ, List, Option}
use Rattle.std.proofs.Common.{ap}
use Rattle.triple_arena_base.specs.Held.{HoldsRefill, KeepsHeld, LastRefills, held_option, refill_option, held_all, refill_all}
use Rattle.triple_arena_base.specs.laws.HeldLaws.{option_held_refill, option_refill_held, option_refill_refill}
use Rattle.triple_arena_base.specs.HeldLists.{held_refill_all, refill_all_held, refill_refill_all}

module _ {I T : Type 0} (held : T → List I) (refill : T → List I → T) where
  -- what a slot's entry holds
  abbrev pub held_entry : Option (ℕ × T) → List I
  held_entry = held_option (λ e. held e.1)

  abbrev pub refill_entry : Option (ℕ × T) → List I → Option (ℕ × T)
  refill_entry = refill_option (λ e l. (e.0, refill e.1 l))

  -- what all of them hold
  abbrev pub held_slots : List (Option (ℕ × T)) → List I
  held_slots = held_all held_entry

  abbrev pub refill_slots : List (Option (ℕ × T)) → List I → List (Option (ℕ × T))
  refill_slots = refill_all held_entry refill_entry

  entry_held_refill : HoldsRefill held refill → HoldsRefill held_entry refill_entry
  entry_held_refill law = option_held_refill (λ e. held e.1) (λ e l. (e.0, refill e.1 l)) (λ e l h. law e.1 l h)

  entry_refill_held : KeepsHeld held refill → KeepsHeld held_entry refill_entry
  entry_refill_held law = option_refill_held (λ e. held e.1) (λ e l. (e.0, refill e.1 l)) (λ e. ap (λ t. (e.0, t)) (law e.1))

  entry_refill_refill : LastRefills held refill → LastRefills held_entry refill_entry
  entry_refill_refill law = option_refill_refill (λ e. held e.1) (λ e l. (e.0, refill e.1 l)) (λ e l m h k. ap (λ t. (e.0, t)) (law e.1 l m h k))

  pub slots_held_refill : HoldsRefill held refill → HoldsRefill held_slots refill_slots
  slots_held_refill law = held_refill_all held_entry refill_entry (entry_held_refill law)

  pub slots_refill_held : KeepsHeld held refill → KeepsHeld held_slots refill_slots
  slots_refill_held law = refill_all_held held_entry refill_entry (entry_refill_held law)

  pub slots_refill_refill : HoldsRefill held refill → LastRefills held refill → LastRefills held_slots refill_slots
  slots_refill_refill law last = refill_refill_all held_entry refill_entry (entry_held_refill law) (entry_refill_refill last)

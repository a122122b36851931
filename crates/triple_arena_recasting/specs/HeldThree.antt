-- What a value with three parts holds: what the first part holds, then what the second holds, and then what the third holds.
use Rattle.std.specs.Prelude.{List}
use Rattle.triple_arena_base.specs.HeldPairs.{held_both, refill_both}

module _ {I A B C : Type 0} (held : A → List I) (refill : A → List I → A) (held_second : B → List I) (refill_second : B → List I → B) (held_third : C → List I) (refill_third : C → List I → C) where
  abbrev pub held_three : A × (B × C) → List I
  held_three = held_both held refill (held_both held_second refill_second held_third refill_third) (refill_both held_second refill_second held_third refill_third)

  abbrev pub refill_three : A × (B × C) → List I → A × (B × C)
  refill_three = refill_both held refill (held_both held_second refill_second held_third refill_third) (refill_both held_second refill_second held_third refill_third)

-- Recasting the values of an arena.
use Rattle.std.specs.Prelude.{ℕ, List, [], ◌∷◌, Option}
use Rattle.triple_arena_base.specs.Held.{recast_items, held_all, refill_all}
use Rattle.triple_arena_ptr.specs.Pointers.{Pointer}

-- the arena with these values written, one after another, into the entries of these pointers
abbrev pub written : {T A : Type 0} → (A → ℕ → T → A) → List Pointer → List T → A → A
written with_value [] values arena = arena
written with_value (p ∷ ps) [] arena = arena
written with_value (p ∷ ps) (v ∷ vs) arena = written with_value ps vs (with_value arena p.0 v)

-- values whose items were recast, up to the first item without an image
abbrev pub recast_values : {I T : Type 0} → (T → List I) → (T → List I → T) → (I → Option I) → List T → List T
recast_values held refill image values = refill_all held refill values (recast_items image (held_all held values))

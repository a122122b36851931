-- Entities, and the numbers of their pointers.
use Rattle.std.specs.Prelude.{ℕ, suc, ◌-◌, Option}
use Rattle.triple_arena_ptr.specs.Pointers.{Pointer}
use Rattle.triple_arena_ptr.specs.declared.P0.{P0}
use Rattle.triple_arena_uses.specs.declared.entity_table.Entity.{Entity}

-- the numbers of a pointer's index and of its generation
abbrev pub p0_numbers : P0 → Pointer
p0_numbers p = (suc p.0, suc p.1)

-- an entity as it is spawned
abbrev pub spawned : Option P0 → Entity
spawned parent = record { health = 100; parent = parent }

-- an entity that has lost some health
abbrev pub damaged : ℕ → Entity → Entity
damaged by e = record e { health = e.health - by }

-- an entity of whole health
abbrev pub healed : Entity → Entity
healed e = record e { health = 100 }

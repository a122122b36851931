-- A table with a side table beside it.
use Rattle.std.specs.Prelude.{ℕ}
use Rattle.triple_arena.specs.ArenaState.{ArenaState}
use Rattle.triple_arena_direct.specs.DirectState.{DirectState}
use Rattle.triple_arena_uses.specs.declared.entity_table.Entity.{Entity}

-- the entities, and the notes beside them
pub record Noted : Type 0 where
  pub entities : ArenaState Entity
  pub notes : DirectState ℕ

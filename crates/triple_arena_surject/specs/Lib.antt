-- Read first: Surject and Room.
pub mod Surject
pub mod Room
pub mod Unions
pub mod Compaction
pub mod Rings
-- What clauses of callers name of a compaction, and of the map that it gives.
pub use Rattle.triple_arena_recasting.specs.Compacted
pub use Rattle.triple_arena_recasting.specs.Renaming
pub use Rattle.triple_arena_direct_arena.specs.DirectState

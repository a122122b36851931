-- What follows from the definitions.
pub mod GoneLaws
pub mod UpToCounterLaws
pub mod StrictRetainLaws
pub mod StrictAnswerLaws
pub mod SortLaws
-- Of what goes over any arena, and of direct arenas.
pub use Rattle.triple_arena_recasting.specs.laws.RenamingLaws
pub use Rattle.triple_arena_recasting.specs.laws.ImageLaws
pub use Rattle.triple_arena_recasting.specs.laws.NameLaws
pub use Rattle.triple_arena_recasting.specs.laws.RenamingBothLaws
pub use Rattle.triple_arena_recasting.specs.laws.RetainLaws
pub use Rattle.triple_arena_direct_arena.specs.laws.DirectSlotLaws
pub use Rattle.triple_arena_direct_arena.specs.laws.DirectStepLaws
pub use Rattle.triple_arena_direct_arena.specs.laws.DirectInsertionLaws
pub use Rattle.triple_arena_direct_arena.specs.laws.DirectCloningLaws
pub use Rattle.triple_arena_direct_arena.specs.laws.DirectCompressionLaws

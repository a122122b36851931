-- What follows from the definitions.
pub mod TouchedLaws
-- Of what any arena is.
pub use Rattle.triple_arena_traits.specs.laws.ItemLaws
pub use Rattle.triple_arena_traits.specs.laws.EntryLaws
pub use Rattle.triple_arena_traits.specs.laws.LengthLaws
pub use Rattle.triple_arena_traits.specs.laws.FreeListLaws
pub use Rattle.triple_arena_traits.specs.laws.WellFormedLaws
pub use Rattle.triple_arena_traits.specs.laws.LimitLaws
pub use Rattle.triple_arena_traits.specs.laws.WalkLaws
pub use Rattle.triple_arena_traits.specs.laws.VisitLaws
pub use Rattle.triple_arena_traits.specs.laws.ValueLaws
pub use Rattle.triple_arena_traits.specs.laws.CompressionLaws
pub use Rattle.triple_arena_traits.specs.laws.MoveLaws
pub use Rattle.triple_arena_traits.specs.laws.ReadLaws
pub use Rattle.triple_arena_traits.specs.laws.LookUpLaws
pub use Rattle.triple_arena_traits.specs.laws.CloningLaws
pub use Rattle.triple_arena_traits.specs.laws.CopyLaws
pub use Rattle.triple_arena_traits.specs.laws.StepLaws
pub use Rattle.triple_arena_traits.specs.laws.PointerListLaws
pub use Rattle.triple_arena_traits.specs.laws.HistoryLaws

use Rattle.std.proofs.Common.{refl}
use Rattle.triple_arena_traits.specs.laws.WalkLaws.{taken}
use Rattle.triple_arena_direct_arena.proofs.Reading.{some_read}
use Rattle.triple_arena_direct_arena.proofs.text.DirectArenaDebug.fmt.Goals as goal

pub unwrap-requires : goal.unwrap-requires
unwrap-requires g c = some_read c.get.result _ c.get.ensures.value (taken _ _ _ _ _ c.in-Some.ensures.steps).live

pub walk-smaller : goal.walk-smaller
walk-smaller g c = c.in-Some.ensures.fewer refl

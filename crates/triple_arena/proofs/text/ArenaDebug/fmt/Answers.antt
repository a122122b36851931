use Rattle.std.proofs.Common.{refl}
use Rattle.triple_arena.proofs.text.ArenaDebug.fmt.Goals as goal

pub walk-smaller : goal.walk-smaller
walk-smaller g c = c.in-Some.ensures.fewer refl

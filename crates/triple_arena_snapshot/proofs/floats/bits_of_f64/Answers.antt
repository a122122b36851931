use Rattle.std.specs.Bool.{passes}
use Rattle.triple_arena_snapshot.proofs.floats.bits_of_f64.Goals as goal

pub returns-clause-fits : goal.returns-clause-fits
returns-clause-fits c = passes _ c.well_formed.0.1

use Rattle.std.proofs.Common.{refl}
use Rattle.triple_arena_snapshot.proofs.laws.fits_under_another_limit.Goals as goal

pub returns-clause-arena : goal.returns-clause-arena
returns-clause-arena g c = λ one other k fits few. ((few, fits.0.1), fits.1)

pub returns-clause-arena_bytes : goal.returns-clause-arena_bytes
returns-clause-arena_bytes g c = λ one other k. refl

pub returns-clause-direct_arena : goal.returns-clause-direct_arena
returns-clause-direct_arena g c = λ one other k fits few. (few, fits.1)

pub returns-clause-direct_arena_bytes : goal.returns-clause-direct_arena_bytes
returns-clause-direct_arena_bytes g c = λ one other k. refl

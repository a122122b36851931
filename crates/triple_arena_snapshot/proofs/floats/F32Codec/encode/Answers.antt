use Rattle.std.proofs.lemmas.Result.{on_ok_weaker}
use Rattle.triple_arena_snapshot.proofs.floats.F32Codec.encode.Goals as goal

pub returns-clause-fits : goal.returns-clause-fits
returns-clause-fits c = on_ok_weaker c.encode.result (λ h. (c.bits_of_f32.ensures.fits, rw (← c.bits_of_f32.ensures.bits) h)) c.encode.ensures.fits

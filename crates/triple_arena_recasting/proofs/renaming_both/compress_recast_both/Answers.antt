use Rattle.std.proofs.Common.{append-nil}
use Rattle.triple_arena_recasting.proofs.renaming_both.compress_recast_both.Goals as goal

pub returns-clause-resolved : goal.returns-clause-resolved
returns-clause-resolved g c = rw (append-nil, append-nil) at c.compress_recast_both_with.ensures.resolved

pub returns-clause-refusal : goal.returns-clause-refusal
returns-clause-refusal g c = rw (append-nil, append-nil) at c.compress_recast_both_with.ensures.refusal

use Rattle.std.proofs.Common.{refl}
use Rattle.triple_arena_traits.specs.laws.HistoryLaws.{Fits-empty, Fits-keys, Continues-none, Continues-call, Continues-calls, Continues-append, Fits-compressed, new_pointer, gone_for_good, never_live}
use Rattle.triple_arena_traits.proofs.Removals.{none_wraps}
use Rattle.triple_arena_traits.proofs.laws.pointers_are_fresh.Goals as goal

pub returns-clause-empty : goal.returns-clause-empty
returns-clause-empty g c = Fits-empty

pub returns-clause-begun : goal.returns-clause-begun
returns-clause-begun g c = Fits-keys

pub returns-clause-call : goal.returns-clause-call
returns-clause-call g c = Continues-call

pub returns-clause-calls : goal.returns-clause-calls
returns-clause-calls g c = Continues-calls

pub returns-clause-none : goal.returns-clause-none
returns-clause-none g c = Continues-none

pub returns-clause-one_after_another : goal.returns-clause-one_after_another
returns-clause-one_after_another g c = Continues-append

pub returns-clause-never_live : goal.returns-clause-never_live
returns-clause-never_live g c = never_live

pub returns-clause-reset : goal.returns-clause-reset
returns-clause-reset g c s counter values = Fits-compressed s _ counter values refl

pub returns-clause-new : goal.returns-clause-new
returns-clause-new g c = new_pointer

pub returns-clause-gone : goal.returns-clause-gone
returns-clause-gone g c = gone_for_good

pub returns-clause-none_wraps : goal.returns-clause-none_wraps
returns-clause-none_wraps g c = none_wraps

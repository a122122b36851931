use Rattle.triple_arena_direct.specs.laws.GoneLaws.{up_to-fits, gone-continues, gone-below}
use Rattle.triple_arena_direct.specs.laws.StrictAnswerLaws.{Continues-strict, Continues-steps}
use Rattle.triple_arena_direct.proofs.strict_laws.strict_calls_are_fresh.Goals as goal

pub returns-clause-call : goal.returns-clause-call
returns-clause-call g c kind generations s call calls t counts = Continues-strict kind generations counts s call calls t

pub returns-clause-calls : goal.returns-clause-calls
returns-clause-calls g c kind generations s steps calls t counts = Continues-steps kind generations counts s steps calls t

pub returns-clause-given_once : goal.returns-clause-given_once
returns-clause-given_once g c kind generations s steps calls t h counts fits ran = (Continues-steps kind generations counts s steps calls t ran h fits).given_once

pub returns-clause-live : goal.returns-clause-live
returns-clause-live g c kind generations s steps calls t h counts fits ran = (Continues-steps kind generations counts s steps calls t ran h fits).live

pub returns-clause-stays_gone : goal.returns-clause-stays_gone
returns-clause-stays_gone g c kind generations s steps calls t h counts fits ran = gone-continues s t (up_to-fits h s fits) calls (Continues-steps kind generations counts s steps calls t ran)

pub returns-clause-below : goal.returns-clause-below
returns-clause-below g c s p none below = gone-below s p none below

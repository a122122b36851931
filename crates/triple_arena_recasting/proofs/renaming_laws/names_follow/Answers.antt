use Rattle.triple_arena_recasting.specs.laws.NameLaws.{name_led, named_read}
use Rattle.triple_arena_recasting.proofs.renaming_laws.names_follow.Goals as goal

pub returns-clause-led : goal.returns-clause-led
returns-clause-led g c = name_led g.P.Ptr.numbers g.P.Recast.held g.P.Recast.refill g.met.P.Ptr.holds_itself g.met.P.Ptr.refills

pub returns-clause-read : goal.returns-clause-read
returns-clause-read g c = λ read stays rename slots news. named_read read rename slots news g.P.Ptr.numbers g.T.Recast.held g.T.Recast.refill stays

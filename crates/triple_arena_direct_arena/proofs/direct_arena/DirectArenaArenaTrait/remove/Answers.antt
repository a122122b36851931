use Rattle.std.proofs.Common.{◌∙◌, sym, ap}
use Rattle.triple_arena_traits.proofs.Refused.{gone_found, rest_found}
use Rattle.triple_arena_direct_arena.specs.DirectState.{direct_removed}
use Rattle.triple_arena_direct_arena.specs.laws.DirectStepLaws.{slots-removed}
use Rattle.triple_arena_direct_arena.proofs.direct_arena.DirectArenaArenaTrait.remove.Goals as goal

pub returns-clause-done : goal.returns-clause-done
returns-clause-done g c live = c.take-generation.ensures.state ∙ ap (direct_removed c.args.self.now) c.in-Some.ensures.index

pub returns-clause-gone : goal.returns-clause-gone
returns-clause-gone g c =
    let p = g.P.Ptr.numbers c.args.p in
    let live = sym c.in-Some.ensures.live in
    gone_found c.args.self.now.slots _ p live (slots-removed c.args.self.now p.0 c.take-generation.new.self (returns-clause-done g c live))

pub returns-clause-others : goal.returns-clause-others
returns-clause-others g c =
    let p = g.P.Ptr.numbers c.args.p in
    let live = sym c.in-Some.ensures.live in
    rest_found c.args.self.now.slots _ p live (slots-removed c.args.self.now p.0 c.take-generation.new.self (returns-clause-done g c live))

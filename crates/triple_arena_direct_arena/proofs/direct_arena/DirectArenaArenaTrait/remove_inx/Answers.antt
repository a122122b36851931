use Rattle.std.proofs.Common.{◌∙◌, None, sym, ap}
use Rattle.triple_arena_traits.proofs.LookUps.{others_found}
use Rattle.triple_arena_direct_arena.specs.DirectState.{direct_removed}
use Rattle.triple_arena_direct_arena.specs.laws.DirectStepLaws.{slots-removed}
use Rattle.triple_arena_direct_arena.proofs.direct_arena.DirectArenaArenaTrait.remove_inx.Goals as goal

pub returns-clause-done : goal.returns-clause-done
returns-clause-done g c live = c.take.ensures.state ∙ ap (direct_removed c.args.self.now) c.in-Some.ensures.index

pub returns-clause-gone : goal.returns-clause-gone
returns-clause-gone g c =
    (slots-removed c.args.self.now (g.P.Inx.PtrInx.number c.args.inx) c.take.new.self (returns-clause-done g c (sym c.in-Some.ensures.live))).there

pub returns-clause-others : goal.returns-clause-others
returns-clause-others g c =
    let i = g.P.Inx.PtrInx.number c.args.inx in
    others_found c.args.self.now.slots c.take.new.self.slots i None (slots-removed c.args.self.now i c.take.new.self (returns-clause-done g c (sym c.in-Some.ensures.live)))

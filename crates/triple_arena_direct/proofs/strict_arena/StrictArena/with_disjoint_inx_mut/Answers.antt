use Rattle.std.proofs.Common.{[]}
use Rattle.triple_arena_traits.specs.ArenaState.{ArenaState, entry}
use Rattle.triple_arena_direct.specs.laws.GoneLaws.{up_to-continues, gone-continues}
use Rattle.triple_arena_direct.proofs.StrictSteps.{wrote_two_at}
use Rattle.triple_arena_direct.proofs.strict_arena.StrictArena.with_disjoint_inx_mut.Goals as goal

pub invariant_of-self : goal.invariant_of-self
invariant_of-self g c counts =
    up_to-continues c.self.inside.arena c.with_disjoint_inx_mut.new.self (c.self.invariant counts) [] c.with_disjoint_inx_mut.ensures.history

pub returns-clause-step : goal.returns-clause-step
returns-clause-step g c =
    let s : ArenaState g.row.T.Denot = c.self.inside.arena in
    rw (← c.self.view_is) (wrote_two_at g.S.NonZeroInxGenericStack.kind g.P.Gen.PtrGen.generations g.P.Gen.PtrGen.number g.F.FnOnce s c.with_disjoint_inx_mut.new.self (g.P.Inx.PtrInx.number c.args.first) (g.P.Inx.PtrInx.number c.args.second) c.with_disjoint_inx_mut.result c.args.f (entry s (g.P.Inx.PtrInx.number c.args.first)) (entry s (g.P.Inx.PtrInx.number c.args.second)) c.with_disjoint_inx_mut.ensures.worked)

pub returns-clause-stays_gone : goal.returns-clause-stays_gone
returns-clause-stays_gone g c =
    rw (← c.self.view_is) (λ counts. gone-continues c.self.inside.arena c.with_disjoint_inx_mut.new.self (c.self.invariant counts) [] c.with_disjoint_inx_mut.ensures.history)

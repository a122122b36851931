use Rattle.std.proofs.Common.{◌∷◌, [], map, refl, subst, append_assoc}
use Rattle.std.proofs.lemmas.List.{map_push, append-nil}
use Rattle.triple_arena_chain.specs.Chains.{nodes, begun_at, Answers}
use Rattle.triple_arena_chain.proofs.chains.Chains.rest.Goals as goal

pub walk-preserved : goal.walk-preserved
walk-preserved g c = λ qs answers.
    rw (c.in_ok-push.ensures.items, map_push g.P.Ptr.numbers c.walk.all.items c.in-Some.q, append_assoc)
    (c.walk.invariant (g.P.Ptr.numbers c.in-Some.q ∷ qs) (c.advance.new.self, c.in-Some.ensures.steps, answers))

pub returns-clause-rest : goal.returns-clause-rest
returns-clause-rest g c = λ there.
    c.walks_along_chains.ensures c.args.self.now.slots c.args.self.now.len (g.P.Ptr.numbers c.args.p) (map g.P.Ptr.numbers c.walk.all.items) c.len-len.ensures.linked c.len-len.ensures.counted there
    (subst (λ ps. Answers (nodes c.args.self.now) (begun_at (g.P.Ptr.numbers c.args.p) c.args.self.now.len) ps) (append-nil (map g.P.Ptr.numbers c.walk.all.items))
    (c.walk.invariant [] (c.in_default.ensures.steps.0, refl)))

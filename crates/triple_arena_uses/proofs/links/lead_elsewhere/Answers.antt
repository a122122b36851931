use Rattle.triple_arena_uses.proofs.links.lead_elsewhere.Goals as goal

pub returns-clause-history : goal.returns-clause-history
returns-clause-history g c = rw c.recast.ensures.after (c.recasts_are_fresh.ensures.history c.args.links.now _)

use Rattle.triple_arena_uses.proofs.snapshots.keep.Goals as goal

pub returns-clause-same : goal.returns-clause-same
returns-clause-same g c = c.clone_from.ensures.entries

pub returns-clause-fits : goal.returns-clause-fits
returns-clause-fits g c = c.clone_from.ensures.succeeds (λ x. tt)

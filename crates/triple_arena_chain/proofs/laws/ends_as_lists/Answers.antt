use Rattle.triple_arena_chain.proofs.Joints.{cut_after_run, cut_before_run, joined_run, ring_run}
use Rattle.triple_arena_chain.proofs.laws.ends_as_lists.Goals as goal

pub returns-clause-cut_after : goal.returns-clause-cut_after
returns-clause-cut_after g c = λ old p new xs ys rest done run before behind.
    let law = cut_after_run old p new xs ys rest done run before behind in
    ((law.0, law.2), (law.1, law.3))

pub returns-clause-cut_before : goal.returns-clause-cut_before
returns-clause-cut_before g c = λ old p new xs ys rest linked done run before behind apart.
    let law = cut_before_run old p new xs ys rest linked done run before behind apart in
    ((law.0, law.2), (law.1, law.3))

pub returns-clause-joined : goal.returns-clause-joined
returns-clause-joined g c = joined_run

pub returns-clause-ring : goal.returns-clause-ring
returns-clause-ring g c = ring_run

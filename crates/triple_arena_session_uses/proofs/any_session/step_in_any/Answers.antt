use Rattle.triple_arena_session_uses.proofs.any_session.step_in_any.Goals as goal

pub returns-clause-arena : goal.returns-clause-arena
returns-clause-arena c = (c.session_steps_as_store.ensures.steps c.args.session.now c.step.new.self c.args.command c.step.result c.step.ensures.arena c.step.ensures.step).arena

use Rattle.std.proofs.Common.{refl}
use Rattle.triple_arena_session.proofs.laws.eleven_commands_answered.Goals as goal

pub returns-clause-answered : goal.returns-clause-answered
returns-clause-answered c = refl

pub returns-clause-without : goal.returns-clause-without
returns-clause-without c = refl

pub returns-clause-others : goal.returns-clause-others
returns-clause-others c = refl

pub returns-clause-store : goal.returns-clause-store
returns-clause-store c = refl

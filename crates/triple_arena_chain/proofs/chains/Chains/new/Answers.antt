use Rattle.std.proofs.Common.{◌∙◌, ap}
use Rattle.triple_arena_chain.proofs.chains.Chains.new.Goals as goal

pub returns-clause-empty : goal.returns-clause-empty
returns-clause-empty g c =
    let empty = c.of_arena.ensures.empty in
    record {
      none = empty.none;
      len = empty.len;
      capacity = empty.capacity ∙ ap g.A.ArenaStates.capacity c.new.ensures ∙ g.met.A.ArenaLaws.capacity_empty _ _;
      limit = empty.limit ∙ ap g.A.ArenaStates.limit c.new.ensures ∙ g.met.A.ArenaLaws.limit_empty _ _;
    }

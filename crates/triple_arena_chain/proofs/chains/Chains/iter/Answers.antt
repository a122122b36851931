use Rattle.std.proofs.Common.{map, ap, ◌∙◌}
use Rattle.triple_arena_chain.specs.Room.{all_values}
use Rattle.triple_arena_chain.proofs.Listing.{of_link, values_read}
use Rattle.triple_arena_chain.proofs.chains.Chains.iter.Goals as goal

pub returns : goal.returns
returns g c = ap (map of_link) c.iter.ensures ∙ values_read g.P.Ptr.numbers (g.A.ArenaStates.slots c.self.inside.arena) ∙ ap all_values c.self.view_is

use Rattle.std.proofs.Common.{rules}
use Rattle.std.proofs.lemmas.Result.{on_ok_weaker}
use Rattle.triple_arena_direct.specs.laws.SortLaws.{sorted_found}
use Rattle.triple_arena_direct_uses.specs.Tickets.{ticket_numbers, is_of_another}
use Rattle.triple_arena_direct_uses.proofs.leases.Leases.revoke_all.Goals as goal

pub returns-clause-found : goal.returns-clause-found
returns-clause-found c =
    rw (← c.self.view_is)
    (on_ok_weaker c.retain.result
    (λ done. sorted_found ticket_numbers _ (is_of_another c.args.holder) _ (λ after p x keeps called. search rules) _ c.self.inside.leases c.retain.new.self done.1 done.0 done.2 done.3)
    c.retain.ensures.done)

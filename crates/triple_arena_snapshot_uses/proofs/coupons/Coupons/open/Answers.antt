use Rattle.std.proofs.Common.{sym, ◌∙◌}
use Rattle.triple_arena_snapshot_uses.specs.Coupons.{coupons_content}
use Rattle.triple_arena_snapshot_uses.proofs.Contents.{same_numbers}
use Rattle.triple_arena_snapshot_uses.proofs.coupons.Coupons.open.Goals as goal

pub returns-in-Ok-clause-found : goal.returns-in-Ok-clause-found
returns-in-Ok-clause-found g c = λ saved fits is q. sym (same_numbers _) ∙ c.in-Ok.ensures.found saved fits is q ∙ same_numbers _

pub returns-in-Ok-clause-again : goal.returns-in-Ok-clause-again
returns-in-Ok-clause-again g c = λ saved fits is. c.in-Ok.ensures.again (coupons_content saved) fits is

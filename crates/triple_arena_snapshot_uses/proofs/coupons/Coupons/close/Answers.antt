use Rattle.triple_arena_snapshot_uses.proofs.coupons.Coupons.close.Goals as goal

pub returns-in-Ok-clause-written : goal.returns-in-Ok-clause-written
returns-in-Ok-clause-written g c = rw (← c.self.view_is) c.in-Ok.ensures.written

pub returns-in-Err-clause-cut : goal.returns-in-Err-clause-cut
returns-in-Err-clause-cut g c = rw (← c.self.view_is) c.in-Err.ensures.cut

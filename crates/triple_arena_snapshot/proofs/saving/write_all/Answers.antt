use Rattle.std.proofs.Common.{◌-◌, ◌≤◌, length, drop, length-drop, length-take, arith, rules}
use Rattle.triple_arena_snapshot.proofs.Writes.{appended_next, cut_at}
use Rattle.triple_arena_snapshot.proofs.saving.write_all.Goals as goal

pub writes-preserved : goal.writes-preserved
writes-preserved g c =
    let bytes = c.args.bytes.now in
    let done = c.writes.written in
    let count = c.in-Some.count in
    let most = length-take (length bytes - done) (drop done bytes) in
    let left = length-drop done bytes in
    let fits = c.in-Some.ensures.within in
    let before = c.writes.invariant in
    let within : count ≤ length bytes - done = omega (arith, most, left, fits) in
    (omega (arith, within, before.0), appended_next _ _ _ bytes done count before.1 c.in-Some.ensures.took within)

pub returns-in-None : goal.returns-in-None
returns-in-None g c =
    record { ok = search rules; write = search rules; err = cut_at _ _ _ c.args.bytes.now c.writes.written (search rules) c.writes.invariant.1 c.in-None.ensures.failed }

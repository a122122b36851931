use Rattle.std.proofs.Common.{map, sym, ◌∙◌}
use Rattle.std.specs.Int.NonZero.{non_zero_usize_get}
use Rattle.triple_arena_slots.proofs.Linking.{read_here}
use Rattle.triple_arena_snapshot.proofs.FreeLists.{goes_on, stops}
use Rattle.triple_arena_snapshot.proofs.free_lists.take_all.Goals as goal

pub loop-inx-preserved : goal.loop-inx-preserved
loop-inx-preserved c =
    let at = c.loop-inx.inx-index in
    let here = read_here non_zero_usize_get c.args.indexes.now at c.inx-item.result c.loop-inx-test.true c.inx-item.is in
    goes_on c.args.marks.now.items c.loop-inx.marks.items (map non_zero_usize_get c.args.indexes.now) at (non_zero_usize_get c.inx-item.result) c.inx-item.result.ok here c.loop-inx.invariant c.take.new.marks.items (sym c.take.ensures.value ∙ c.if-not-take.false) c.take.ensures.taken

pub returns-then-not-take-clause-refused : goal.returns-then-not-take-clause-refused
returns-then-not-take-clause-refused c = λ e.
    let at = c.loop-inx.inx-index in
    let here = read_here non_zero_usize_get c.args.indexes.now at c.inx-item.result c.loop-inx-test.true c.inx-item.is in
    (non_zero_usize_get c.inx-item.result, stops c.args.marks.now.items c.loop-inx.marks.items (map non_zero_usize_get c.args.indexes.now) at (non_zero_usize_get c.inx-item.result) c.inx-item.result.ok here c.loop-inx.invariant (sym c.take.ensures.value ∙ c.if-not-take.true))

use Rattle.std.proofs.Common.{◌≡◌, ◌≤◌, ◌-◌, map, length}
use Rattle.triple_arena_snapshot.specs.Codings.{many_at_front}
use Rattle.triple_arena_snapshot.proofs.Loop.{with_front}
use Rattle.triple_arena_snapshot.proofs.stacks.push_decoded.Given as goal

abbrev pub invariant-loop : goal.invariant-loop
invariant-loop g l =
    let decoding = g.X.Codec.coding.decoding in
    record {
      read : with_front (map g.X.Codec.content (g.S.NonZeroInxGenericStack.items l.stack)) (many_at_front decoding (l.count - l.counter) l.rest) ≡ many_at_front decoding l.count l.bytes;
      many : length (g.S.NonZeroInxGenericStack.items l.stack) ≡ l.counter;
      within : l.counter ≤ l.count;
      limit : g.S.NonZeroInxGenericStack.limit l.stack ≡ g.S.NonZeroInxGenericStack.limit l.fn.stack;
    }

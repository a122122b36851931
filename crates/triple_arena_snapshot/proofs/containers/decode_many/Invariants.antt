use Rattle.std.proofs.Common.{◌≡◌, ◌-◌, map}
use Rattle.triple_arena_snapshot.specs.Codings.{many_at_front}
use Rattle.triple_arena_snapshot.proofs.Loop.{with_front}
use Rattle.triple_arena_snapshot.proofs.containers.decode_many.Given as goal

abbrev pub invariant-loop : goal.invariant-loop
invariant-loop g l =
    let decoding = g.T.Codec.coding.decoding in
    with_front (map g.T.Codec.content l.values.items) (many_at_front decoding (l.count - l.counter) l.rest) ≡ many_at_front decoding l.count l.bytes

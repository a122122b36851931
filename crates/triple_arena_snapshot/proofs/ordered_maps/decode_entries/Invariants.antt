use Rattle.std.proofs.Common.{◌≡◌, ◌-◌, []}
use Rattle.triple_arena_snapshot.specs.MapCodings.{entries_behind}
use Rattle.triple_arena_snapshot.specs.Maps.{contents}
use Rattle.triple_arena_snapshot.proofs.ordered_maps.decode_entries.Given as goal

abbrev pub invariant-loop : goal.invariant-loop
invariant-loop g l =
    let reads = entries_behind g.K.KeyCodec.order g.K.KeyCodec.keyed.decoding g.V.Codec.coding.decoding in
    reads (contents g.K.KeyCodec.key g.V.Codec.content l.map.entries) (l.count - l.counter) l.rest ≡ reads [] l.count l.bytes

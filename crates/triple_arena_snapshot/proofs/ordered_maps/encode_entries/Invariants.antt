use Rattle.std.proofs.Common.{◌≡◌, ◌++◌}
use Rattle.std.specs.List.{flat_map, AllByRecursion}
use Rattle.triple_arena_snapshot.specs.Codings.{pair_bytes}
use Rattle.triple_arena_snapshot.specs.Maps.{contents}
use Rattle.triple_arena_snapshot.proofs.ordered_maps.encode_entries.Given as goal

-- what is written, and then the rest, is all; and where the rest fits, all does
abbrev pub invariant-loop-key : goal.invariant-loop-key
invariant-loop-key g l =
    let bytes = pair_bytes g.K.KeyCodec.keyed.encoding g.V.Codec.coding.encoding in
    let seen = contents g.K.KeyCodec.key g.V.Codec.content in
    record {
      written : l.out.items ++ flat_map bytes (seen l.key-iterator) ≡ l.fn.out.items ++ flat_map bytes (seen l.map.entries);
      fits : AllByRecursion (λ e. g.K.KeyCodec.keyed.fits e.0 × g.V.Codec.coding.fits e.1) (seen l.key-iterator)
          → AllByRecursion (λ e. g.K.KeyCodec.keyed.fits e.0 × g.V.Codec.coding.fits e.1) (seen l.map.entries);
    }

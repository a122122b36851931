use Rattle.std.proofs.Common.{◌≡◌, ◌++◌, map, drop}
use Rattle.std.specs.List.{flat_map, AllByRecursion}
use Rattle.triple_arena_snapshot.proofs.containers.encode_all.Given as goal

-- what is written, and then the rest, is all; and where the rest fits, all does
abbrev pub invariant-loop-value : goal.invariant-loop-value
invariant-loop-value g l =
    let coding = g.T.Codec.coding in
    let content = g.T.Codec.content in
    record {
      written : l.out.items ++ flat_map coding.encoding (map content (drop l.value-index l.values))
          ≡ l.fn.out.items ++ flat_map coding.encoding (map content l.values);
      fits : AllByRecursion coding.fits (map content (drop l.value-index l.values)) → AllByRecursion coding.fits (map content l.values);
    }

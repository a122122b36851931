use Rattle.std.proofs.Common.{◌≡◌, ◌++◌, ◌-◌}
use Rattle.std.specs.Int.NonZero.{non_zero_usize_get}
use Rattle.std.specs.List.{flat_map, AllByRecursion}
use Rattle.std.specs.Option.{option_map}
use Rattle.triple_arena_slots.specs.Layout.{chain}
use Rattle.triple_arena_snapshot.specs.ArenaLayouts.{index}
use Rattle.triple_arena_snapshot.proofs.arena_slots.encode_links.Given as goal

-- what is written, and then the rest, is all; and where the rest fits, all does
abbrev pub invariant-loop : goal.invariant-loop
invariant-loop g l =
    record {
      written : l.out.items ++ flat_map index.encoding (chain l.slots (l.count - l.counter) (option_map non_zero_usize_get l.next)) ≡ l.fn.out.items ++ flat_map index.encoding (chain l.slots l.count (option_map non_zero_usize_get l.fn.first));
      fits : AllByRecursion index.fits (chain l.slots (l.count - l.counter) (option_map non_zero_usize_get l.next)) → AllByRecursion index.fits (chain l.slots l.count (option_map non_zero_usize_get l.fn.first));
    }

use Rattle.std.proofs.Common.{map, sym, ◌∙◌}
use Rattle.std.specs.Option.{option_map}
use Rattle.triple_arena_traits.specs.ArenaState.{map_entry}
use Rattle.triple_arena_snapshot.proofs.Whole.{read_whole, left_behind}
use Rattle.triple_arena_snapshot.proofs.loading.whole_direct_arena.Goals as goal

pub returns-then-not-is_empty-clause-read : goal.returns-then-not-is_empty-clause-read
returns-then-not-is_empty-clause-read g c =
    left_behind _ (map (option_map (map_entry g.T.Codec.content)) c.in_ok-arena.arena.slots) c.in_ok-arena.rest.now c.in_ok-arena.ensures.read (sym c.is_empty.ensures ∙ c.if-not-is_empty.true)

pub returns-clause-read : goal.returns-clause-read
returns-clause-read g c =
    read_whole _ (map (option_map (map_entry g.T.Codec.content)) c.in_ok-arena.arena.slots) c.in_ok-arena.rest.now c.in_ok-arena.ensures.read (sym c.is_empty.ensures ∙ c.if-not-is_empty.false)

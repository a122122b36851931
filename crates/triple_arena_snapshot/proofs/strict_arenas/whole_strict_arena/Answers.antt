use Rattle.std.proofs.Common.{sym, ◌∙◌}
use Rattle.triple_arena_snapshot.specs.ArenaCodings.{arena_content}
use Rattle.triple_arena_snapshot.proofs.Whole.{read_whole, left_behind}
use Rattle.triple_arena_snapshot.proofs.strict_arenas.whole_strict_arena.Goals as goal

pub returns-then-not-is_empty-clause-read : goal.returns-then-not-is_empty-clause-read
returns-then-not-is_empty-clause-read g c =
    left_behind _ (arena_content g.T.Codec.content c.in_ok-strict.strict) c.in_ok-strict.rest.now c.in_ok-strict.ensures.read (sym c.is_empty.ensures ∙ c.if-not-is_empty.true)

pub returns-clause-read : goal.returns-clause-read
returns-clause-read g c =
    read_whole _ (arena_content g.T.Codec.content c.in_ok-strict.strict) c.in_ok-strict.rest.now c.in_ok-strict.ensures.read (sym c.is_empty.ensures ∙ c.if-not-is_empty.false)

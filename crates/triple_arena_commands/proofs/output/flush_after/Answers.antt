use Rattle.std.proofs.Common.{[], subst, sym, refl, inr}
use Rattle.std.specs.Io.Buffered.{writer_contents}
use Rattle.triple_arena_commands.specs.TextRun.{AppendsFront}
use Rattle.triple_arena_commands.specs.laws.TextLaws.{AppendsFront-buffer}
use Rattle.triple_arena_commands.proofs.output.flush_after.Goals as goal

pub returns : goal.returns
returns g c =
    inr (refl, subst (λ w. AppendsFront (writer_contents g.W.Write.contents c.args.output) (g.W.Write.contents w) []) (sym c.into_parts-inner.ensures.inner) (AppendsFront-buffer _ _ _ c.flush-flushed.ensures.bytes))

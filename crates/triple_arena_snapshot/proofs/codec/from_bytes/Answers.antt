use Rattle.std.proofs.Common.{ap, subst, ◌∙◌}
use Rattle.triple_arena_snapshot.specs.Coding.{Gives, whole}
use Rattle.triple_arena_snapshot.specs.laws.CodingLaws.{whole_again}
use Rattle.triple_arena_snapshot.proofs.codec.from_bytes.Goals as goal

pub returns-clause-again : goal.returns-clause-again
returns-clause-again g c = λ k fits e.
    subst (λ read. Gives g.T.Codec.content c.read_whole.result read) (ap (whole g.T.Codec.coding.decoding) e ∙ whole_again g.T.Codec.coding k fits) c.read_whole.ensures.read

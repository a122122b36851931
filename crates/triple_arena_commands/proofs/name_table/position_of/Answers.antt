use Rattle.std.proofs.Common.{◌∙◌, refl}
use Rattle.triple_arena_ptr.specs.Pointers.{is_same}
use Rattle.triple_arena_commands.specs.NameLayout.{pointers_of}
use Rattle.triple_arena_commands.proofs.NameLemmas.{position-mapped}
use Rattle.triple_arena_commands.proofs.name_table.position_of.Goals as goal

pub returns-clause-position : goal.returns-clause-position
returns-clause-position g c =
    c.first_row.ensures.position
    ∙ position-mapped (λ row. row.pointer) (λ q. g.P.PartialEq.eq q c.args.p) (λ row. g.P.PartialEq.eq row.pointer c.args.p) (λ row. refl) c.args.rows.now
    ∙ position-mapped g.P.Ptr.numbers (λ q. is_same q (g.P.Ptr.numbers c.args.p)) (λ q. g.P.PartialEq.eq q c.args.p)
    (λ q. rw (g.met.P.Ptr.numbers_of q, g.met.P.Ptr.numbers_of c.args.p, g.met.P.Ptr.equates q c.args.p, g.met.P.Inx.PtrInx.equates (g.P.Ptr.index_of q) (g.P.Ptr.index_of c.args.p), g.met.P.Gen.PtrGen.equates (g.P.Ptr.generation_of q) (g.P.Ptr.generation_of c.args.p)) refl)
    (pointers_of c.args.rows.now)

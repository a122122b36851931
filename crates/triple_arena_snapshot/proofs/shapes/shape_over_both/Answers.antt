use Rattle.std.proofs.Common.{◌-◌, ◌++◌, sym, ◌∙◌, arith}
use Rattle.triple_arena_snapshot.proofs.ShapeBytes.{at_later, byte_front, byte_behind}
use Rattle.triple_arena_snapshot.proofs.shapes.shape_over_both.Goals as goal

pub returns-in-Ok : goal.returns-in-Ok
returns-in-Ok g c =
    sym (at_later c.args.tag (g.A.Codec.shape ++ g.B.Codec.shape) c.args.at (λ e. omega (arith, e, c.if-at-eq0.false))
    ∙ byte_front g.A.Codec.shape g.B.Codec.shape (c.args.at - 1) c.in-Ok.byte (sym c.shape_at.ensures.shaped ∙ c.in-Ok.is))

pub returns-in-Err : goal.returns-in-Err
returns-in-Err g c =
    c.shape_at-in-Err.ensures.shaped
    ∙ sym (at_later c.args.tag (g.A.Codec.shape ++ g.B.Codec.shape) c.args.at (λ e. omega (arith, e, c.if-at-eq0.false))
    ∙ byte_behind g.A.Codec.shape g.B.Codec.shape (c.args.at - 1) c.in-Err.past (sym c.shape_at.ensures.shaped ∙ c.in-Err.is))

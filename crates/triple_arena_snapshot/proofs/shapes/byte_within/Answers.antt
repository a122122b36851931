use Rattle.std.proofs.Common.{◌-◌, length, sym, ◌∙◌, arith}
use Rattle.triple_arena_snapshot.proofs.ShapeBytes.{byte_front, byte_behind, byte_is, byte_past}
use Rattle.triple_arena_snapshot.proofs.shapes.byte_within.Goals as goal

pub returns-then-at-outer : goal.returns-then-at-outer
returns-then-at-outer g c = sym (byte_front c.args.outer.now g.T.Codec.shape c.args.at _ (byte_is c.args.outer.now c.args.at c.if-at-outer.true))

pub returns : goal.returns
returns g c =
    c.shape_at.ensures.shaped
    ∙ sym (byte_behind c.args.outer.now g.T.Codec.shape c.args.at (c.args.at - length c.args.outer.now) (byte_past c.args.outer.now c.args.at (omega (arith, c.if-at-outer.false))))

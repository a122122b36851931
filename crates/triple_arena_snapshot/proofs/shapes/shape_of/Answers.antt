use Rattle.std.proofs.Common.{◌++◌, sym, ap, ◌∙◌}
use Rattle.triple_arena_snapshot.specs.Shapes.{byte_at}
use Rattle.triple_arena_snapshot.proofs.ShapeBytes.{front_longer, fewer_left, front_whole}
use Rattle.triple_arena_snapshot.proofs.shapes.shape_of.Goals as goal

pub bytes-preserved : goal.bytes-preserved
bytes-preserved g c =
    let shape = c.args.outer.now ++ g.T.Codec.shape in
    front_longer shape c.bytes.shape.items c.bytes.invariant c.encode.new.out.items c.in-Ok.byte (sym (c.byte_within.ensures ∙ ap (byte_at shape) (c.len.ensures ∙ c.bytes.shape.ok.0)) ∙ c.in-Ok.is) c.in_ok-encode.ensures.written

pub bytes-smaller : goal.bytes-smaller
bytes-smaller g c =
    let shape = c.args.outer.now ++ g.T.Codec.shape in
    fewer_left shape c.bytes.shape.items c.bytes.invariant c.encode.new.out.items c.in-Ok.byte (sym (c.byte_within.ensures ∙ ap (byte_at shape) (c.len.ensures ∙ c.bytes.shape.ok.0)) ∙ c.in-Ok.is) c.in_ok-encode.ensures.written

pub returns : goal.returns
returns g c =
    let shape = c.args.outer.now ++ g.T.Codec.shape in
    front_whole shape c.bytes.shape.items c.bytes.invariant c.in_default.field-0 (sym (c.byte_within.ensures ∙ ap (byte_at shape) (c.len.ensures ∙ c.bytes.shape.ok.0)) ∙ c.in_default.is)

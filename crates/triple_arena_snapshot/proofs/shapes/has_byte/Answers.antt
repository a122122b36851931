use Rattle.std.proofs.Common.{◌++◌, sym, ◌∙◌}
use Rattle.triple_arena_snapshot.proofs.ShapeBytes.{byte_there, none_there}
use Rattle.triple_arena_snapshot.proofs.shapes.has_byte.Goals as goal

pub returns-in-Ok : goal.returns-in-Ok
returns-in-Ok g c = byte_there (c.args.outer.now ++ g.T.Codec.shape) c.args.at c.args.byte c.in-Ok.wanted c.requires (sym c.byte_within.ensures ∙ c.in-Ok.is)

pub returns-in-Err : goal.returns-in-Err
returns-in-Err g c = none_there (c.args.outer.now ++ g.T.Codec.shape) c.args.at c.in-Err._past _ c.requires (sym c.byte_within.ensures ∙ c.in-Err.is)

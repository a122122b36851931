use Rattle.std.proofs.Common.{◌++◌, sym, ◌∙◌}
use Rattle.triple_arena_snapshot.proofs.ShapeBytes.{ends_there, stands_there}
use Rattle.triple_arena_snapshot.proofs.shapes.ends_at.Goals as goal

pub returns-in-Ok : goal.returns-in-Ok
returns-in-Ok g c = stands_there (c.args.outer.now ++ g.T.Codec.shape) c.args.at c.in-Ok._byte (sym c.byte_within.ensures ∙ c.in-Ok.is)

pub returns-in-Err : goal.returns-in-Err
returns-in-Err g c = ends_there (c.args.outer.now ++ g.T.Codec.shape) c.args.at c.in-Err.past (sym c.byte_within.ensures ∙ c.in-Err.is)

use Rattle.std.proofs.Common.{◌≡◌, ◌-◌, ◌++◌, length, drop}
use Rattle.triple_arena_snapshot.proofs.shapes.shape_of.Given as goal

abbrev pub invariant-bytes : goal.invariant-bytes
invariant-bytes g l = l.shape.items ++ drop (length l.shape.items) (l.outer ++ g.T.Codec.shape) ≡ l.outer ++ g.T.Codec.shape

abbrev pub decreases-bytes : goal.decreases-bytes
decreases-bytes g l = length (l.outer ++ g.T.Codec.shape) - length l.shape.items

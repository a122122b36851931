use Rattle.triple_arena_snapshot.specs.laws.ChecksumLaws.{table_step}
use Rattle.triple_arena_snapshot.proofs.checksum.by_table.Goals as goal

pub returns : goal.returns
returns c = table_step c.args.table.now c.args.state c.args.byte c.requires c.told-table c.ranges.state.fits c.ranges.byte.fits

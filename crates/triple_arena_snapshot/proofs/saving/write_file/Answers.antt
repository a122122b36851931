use Rattle.std.proofs.Common.{◌≡◌, ◌++◌, length, rules}
use Rattle.std.specs.Int.{w32, to_le_bytes}
use Rattle.triple_arena_snapshot.specs.Checksum.{crc32c}
use Rattle.triple_arena_snapshot.specs.Files.{head_of}
use Rattle.triple_arena_snapshot.proofs.Writes.{file_written, file_cut}
use Rattle.triple_arena_snapshot.proofs.saving.write_file.Goals as goal

pub returns-clause-written : goal.returns-clause-written
returns-clause-written g c =
    let front : c.as_slice-front.result.now ≡ head_of (c.args.outer.now ++ g.T.Codec.shape) (length c.args.payload.now) = search rules in
    let back : c.as_slice-back.result.now ≡ to_le_bytes w32 (crc32c (c.as_slice-front.result.now ++ c.args.payload.now)) = search rules in
    file_written _ _ (c.args.outer.now ++ g.T.Codec.shape) c.args.payload.now c.as_slice-front.result.now c.as_slice-back.result.now front back c.write_parts.result c.write_parts.ensures.ok

pub returns-clause-refused : goal.returns-clause-refused
returns-clause-refused g c =
    let front : c.as_slice-front.result.now ≡ head_of (c.args.outer.now ++ g.T.Codec.shape) (length c.args.payload.now) = search rules in
    let back : c.as_slice-back.result.now ≡ to_le_bytes w32 (crc32c (c.as_slice-front.result.now ++ c.args.payload.now)) = search rules in
    file_cut _ _ (c.args.outer.now ++ g.T.Codec.shape) c.args.payload.now c.as_slice-front.result.now c.as_slice-back.result.now front back c.write_parts.result c.write_parts.ensures.err c.write_parts.ensures.write

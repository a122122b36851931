use Rattle.std.proofs.Common.{bit_xor, sym, ap, ◌∙◌}
use Rattle.triple_arena_snapshot.specs.Checksum.{remainder}
use Rattle.triple_arena_snapshot.specs.laws.ChecksumLaws.{remainder-append}
use Rattle.triple_arena_snapshot.proofs.checksum.crc32c_of_both.Goals as goal

pub returns : goal.returns
returns c =
    ap (λ n. bit_xor n 0xFFFFFFFF)
    (c.remainder-2.ensures ∙ ap (λ n. remainder n c.args.behind.now) c.remainder.ensures ∙ sym (remainder-append 0xFFFFFFFF c.args.front.now c.args.behind.now))

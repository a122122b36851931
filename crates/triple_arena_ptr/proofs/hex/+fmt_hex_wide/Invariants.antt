use Rattle.triple_arena_ptr.proofs.hex.+fmt_hex_wide.Given as goal

abbrev pub decreases-fmt_hex_wide : goal.decreases-fmt_hex_wide
decreases-fmt_hex_wide g l = l.n

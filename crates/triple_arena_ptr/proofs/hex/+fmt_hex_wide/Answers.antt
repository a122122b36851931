use Rattle.std.proofs.Common.{◌≡◌, ◌/◌, ◌%◌, ◌++◌, arith}
use Rattle.std.proofs.lemmas.Grind.{common_steps, put_two}
use Rattle.triple_arena_ptr.specs.PointerText.{hex}
use Rattle.triple_arena_ptr.proofs.HexDigits.{hex_step}
use Rattle.triple_arena_ptr.proofs.hex.+fmt_hex_wide.Goals as goal

pub returns : goal.returns
returns g t c =
    let step : hex (c.args.n / 16) ++ hex (c.args.n % 16) ≡ hex c.args.n = hex_step c.args.n (omega arith) (omega arith) in
    λ plain ok. put_two g.W.Write.write_str_gives c.args.f.now c.fmt_hex_wide.new.f c.write-2.new.self (hex (c.args.n / 16)) (hex (c.args.n % 16)) (hex c.args.n)
    (grind (arith, common_steps)) (grind (arith, common_steps)) step

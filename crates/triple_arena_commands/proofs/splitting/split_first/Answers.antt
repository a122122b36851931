use Rattle.std.proofs.Common.{rules, nat_eq, sym, arith}
use Rattle.std.proofs.lemmas.Grind.{common_steps}
use Rattle.memchr.specs.Find.{is_byte}
use Rattle.triple_arena_commands.proofs.Splits.{first-is_position, parts-found, parts-none}
use Rattle.triple_arena_commands.proofs.splitting.split_first.Goals as goal

pub returns-in-Some : goal.returns-in-Some
returns-in-Some c =
    let found = first-is_position (is_byte c.args.at) c.args.bytes.now _ c.in-Some.ensures in
    let e = parts-found (λ b. nat_eq b c.args.at) c.args.bytes.now c.in-Some.index (sym found) in grind (arith, common_steps, e)

pub returns-in-None : goal.returns-in-None
returns-in-None c =
    let none = first-is_position (is_byte c.args.at) c.args.bytes.now _ c.in-None.ensures in
    let e = parts-none (λ b. nat_eq b c.args.at) c.args.bytes.now (sym none) in search rules

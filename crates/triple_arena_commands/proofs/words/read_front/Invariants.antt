use Rattle.std.proofs.Common.{◌≡◌, ◌-◌, ◌≤◌, length, take}
use Rattle.std.specs.Str.Parse.{AllDigits, digits_value}
use Rattle.triple_arena_commands.proofs.words.read_front.Given as goal

abbrev pub invariant-digits : goal.invariant-digits
invariant-digits l = (l.count ≤ length l.text) × AllDigits 10 (take l.count l.text) × (digits_value 10 (take l.count l.text) ≡ l.number)

abbrev pub decreases-digits : goal.decreases-digits
decreases-digits l = length l.text - l.count

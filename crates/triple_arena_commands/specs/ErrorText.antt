-- The words that say why a text wasn't run to its end.
use Rattle.std.specs.Prelude.{ℕ, List, ◌++◌, codes}
use Rattle.std.specs.Fmt.{decimal}
use Rattle.triple_arena_commands.specs.declared.text_error.TextError.{TextError}
use Rattle.triple_arena_commands.specs.declared.text_error.TextError.TheVariants.{Malformed, Read, Write, NoMemory}

abbrev pub error_text : TextError → List ℕ
error_text (Malformed n) = codes "line " ++ decimal n ++ codes ": malformed"
error_text Read = codes "read failed"
error_text Write = codes "write failed"
error_text NoMemory = codes "no memory"

-- The names of pointers.
use Rattle.std.specs.Prelude.{ℕ, suc, List, Option}
use Rattle.std.specs.List.{position}
use Rattle.std.specs.Option.{option_map}
use Rattle.triple_arena_ptr.specs.Pointers.{Pointer, is_same}

-- the name of a pointer: the least place at which the table has it
abbrev pub name_of : List Pointer → Pointer → Option ℕ
name_of table p = option_map suc (position (λ q. is_same q p) table)

-- What contracts see of an entry of a direct arena.
use Rattle.std.specs.Prelude.{◌≡◌, Result}
use Rattle.std.specs.Borrow.{RestsIfErr, Fml, RattleType, MutBor, GName}
use Rattle.triple_arena_direct_arena.specs.DirectState.{DirectState}
use Rattle.triple_arena_direct_arena.specs.declared.insert_entry.ArenaDirectInsertEntry.{ArenaDirectInsertEntry}

module _ {P T S I G : Type 0} where
  -- the pointer that the entry was asked for
  abbrev pub direct_entry_pointer : ArenaDirectInsertEntry P T S I G → P
  direct_entry_pointer entry = entry.p

  -- the reference to the arena
  abbrev pub direct_entry_reference : ArenaDirectInsertEntry P T S I G → MutBor (DirectState T)
  direct_entry_reference entry = entry.arena

  -- the arena, as the entry holds it
  abbrev pub direct_entry_arena : ArenaDirectInsertEntry P T S I G → DirectState T
  direct_entry_arena entry = entry.arena.now

  -- the ghost name of the reference to the arena
  abbrev pub direct_entry_lender : ArenaDirectInsertEntry P T S I G → GName
  direct_entry_lender entry = entry.arena.ghost_name

  -- refused, the arena stays as it is
  abbrev pub direct_entry_rests : (arena_row : RattleType) → MutBor arena_row.Denot → {E : Type 0} → Result (ArenaDirectInsertEntry P T S I G) E → Fml
  direct_entry_rests arena_row arena result = RestsIfErr arena_row arena direct_entry_lender result (λ end. end ≡ arena.now)

-- What contracts see of an insertion entry.
use Rattle.std.specs.Prelude.{◌≡◌, Result}
use Rattle.std.specs.Borrow.{RestsIfErr, Fml, RattleType, MutBor, GName}
use Rattle.triple_arena_traits.specs.ArenaState.{ArenaState}
use Rattle.triple_arena.specs.declared.insert_entry.ArenaInsertEntry.{ArenaInsertEntry}

module _ {P T S I G : Type 0} where
  -- the reference to the arena
  abbrev pub entry_reference : ArenaInsertEntry P T S I G → MutBor (ArenaState T)
  entry_reference entry = entry.arena

  -- the arena, as the entry holds it
  abbrev pub entry_arena : ArenaInsertEntry P T S I G → ArenaState T
  entry_arena entry = entry.arena.now

  -- the ghost name of the reference to the arena
  abbrev pub entry_lender : ArenaInsertEntry P T S I G → GName
  entry_lender entry = entry.arena.ghost_name

  -- refused, the arena stays as it is
  abbrev pub entry_rests : (arena_row : RattleType) → MutBor arena_row.Denot → {E : Type 0} → Result (ArenaInsertEntry P T S I G) E → Fml
  entry_rests arena_row arena result = RestsIfErr arena_row arena entry_lender result (λ end. end ≡ arena.now)

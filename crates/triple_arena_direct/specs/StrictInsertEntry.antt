-- What contracts see of an insertion entry of a strict arena.
use Rattle.std.specs.Prelude.{◌≡◌, Result}
use Rattle.std.specs.Borrow.{RestsIfErr, Fml, RattleType, MutBor, GName}
use Rattle.triple_arena_traits.specs.ArenaState.{ArenaState}
use Rattle.triple_arena_direct.specs.declared.strict_arena.insert_entry.StrictInsertEntry.{StrictInsertEntry}

module _ {P T S I G : Type 0} where
  -- the reference to the arena
  abbrev pub strict_entry_reference : StrictInsertEntry P T S I G → MutBor (ArenaState T)
  strict_entry_reference place = place.arena

  -- the arena, as the entry holds it
  abbrev pub strict_entry_arena : StrictInsertEntry P T S I G → ArenaState T
  strict_entry_arena place = place.arena.now

  -- the ghost name of the reference to the arena
  abbrev pub strict_entry_lender : StrictInsertEntry P T S I G → GName
  strict_entry_lender place = place.arena.ghost_name

  -- refused, the arena stays as it is
  abbrev pub strict_entry_rests : (arena_row : RattleType) → MutBor arena_row.Denot → {E : Type 0} → Result (StrictInsertEntry P T S I G) E → Fml
  strict_entry_rests arena_row arena result = RestsIfErr arena_row arena strict_entry_lender result (λ end. end ≡ arena.now)

use Rattle.std.proofs.Common.{◌≡◌, List}
use Rattle.triple_arena_ptr.specs.Pointers.{Pointer}
use Rattle.triple_arena_traits.specs.Walks.{values_of}
use Rattle.triple_arena_recasting.specs.Extending.{all_inserted, EntriesCame}
use Rattle.triple_arena_recasting.proofs.extending.extend.Given as goal

abbrev pub invariant-each : goal.invariant-each
invariant-each g l = record {
  came : List (Pointer × g.row.T.Denot);
  yielded : values_of came ≡ l.yielded;
  entries : EntriesCame g.A.ArenaStates.slots g.A.ArenaStates.fits l.fn.this came l.this;
  done : l.this ≡ all_inserted g.A.ArenaInsertTrait.inserted g.A.ArenaInsertTrait.grown l.fn.this (values_of came);
  limit : g.A.ArenaStates.limit l.this ≡ g.A.ArenaStates.limit l.fn.this;
}

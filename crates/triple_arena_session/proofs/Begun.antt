-- The pointers of a session's entries begin a history where those of its arena do.
use Rattle.std.proofs.Common.{◌≡◌, is_some, sym, ap, ◌∙◌}
use Rattle.triple_arena_ptr.specs.Pointers.{Pointer}
use Rattle.triple_arena_traits.specs.Entries.{look_up}
use Rattle.triple_arena_traits.specs.ArenaState.{ArenaState, map_values}
use Rattle.triple_arena_traits.specs.Walks.{keys}
use Rattle.triple_arena_traits.specs.Histories.{begun_with, is_live, Fits}
use Rattle.triple_arena_traits.specs.laws.HistoryLaws.{Fits-keys}
use Rattle.triple_arena_direct.specs.laws.GoneLaws.{up_to-fits}
use Rattle.triple_arena_session.proofs.Mapped.{look_up-mapped}
use Rattle.triple_arena_session.proofs.Rows.{is_some-map}

module _ {T U : Type 0} (f : T → U) (s : ArenaState T) where
  live-mapped : (p : Pointer) → is_live (map_values f s) p ≡ is_live s p
  live-mapped p = ap is_some (look_up-mapped f s p) ∙ is_some-map f (look_up s.slots p)

  pub Fits-keys-mapped : Fits (begun_with (keys s.slots)) s → Fits (begun_with (keys (map_values f s).slots)) (map_values f s)
  Fits-keys-mapped fits =
      Fits-keys (map_values f s) (λ p live. up_to-fits (begun_with (keys s.slots)) s fits p (sym (live-mapped p) ∙ live))

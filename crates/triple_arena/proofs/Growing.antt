-- What making a place leaves.
use Rattle.std.proofs.Common.{◌≡◌, [], Result, Ok, Err, OnOk, OnErr}
use Rattle.triple_arena_stack.specs.StackKind.{StackKind}
use Rattle.triple_arena_traits.specs.ArenaState.{ArenaState}
use Rattle.triple_arena_traits.specs.Reallocation.{grown}
use Rattle.triple_arena_traits.specs.Histories.{Fits, Continues}
use Rattle.triple_arena_traits.specs.laws.HistoryLaws.{Continues-grown}

module _ {T A E : Type 0} (kind : StackKind) (s t : ArenaState T) where
  -- a history goes on
  pub grown_or_same : (r : Result A E) → OnOk r (t ≡ grown kind s) → OnErr r (t ≡ s) → Continues Fits s [] t
  grown_or_same (Ok x) done refused = Continues-grown kind s t done
  grown_or_same (Err e) done refused = rw refused (λ h fits. fits)

-- What strict arenas promise of a compaction, by what it left of the arena inside.
use Rattle.std.proofs.Common.{◌≡◌, ℕ, Bool, true, false, List, [], ◌∷◌, Option, refl, ap}
use Rattle.triple_arena_ptr.specs.Numbers.{Generations, raise}
use Rattle.triple_arena_ptr.specs.Pointers.{Pointer}
use Rattle.triple_arena_stack.specs.StackKind.{StackKind}
use Rattle.triple_arena_traits.specs.ArenaState.{ArenaState}
use Rattle.triple_arena_traits.specs.SlotSteps.{IsTouched}
use Rattle.triple_arena_traits.specs.Compression.{compressed, raised_if_any}
use Rattle.triple_arena_traits.specs.Entries.{entry_count}
use Rattle.triple_arena_traits.specs.Walks.{keys}
use Rattle.triple_arena_traits.specs.Histories.{History, ModelCall, compression, Fits, Continues}
use Rattle.triple_arena_traits.specs.laws.HistoryLaws.{Fits-keys}
use Rattle.triple_arena_recasting.specs.Compacted.{IsCompacted}
use Rattle.triple_arena_direct.specs.Gone.{IsUpToCounter}
use Rattle.triple_arena_direct.specs.StrictAnswers.{is_exhausted_for_any}
use Rattle.triple_arena_direct.specs.StrictCalls.{IsStrictStep, to_compress}
use Rattle.triple_arena_direct.specs.StrictCompacted.{IsStrictCompaction}
use Rattle.triple_arena_direct.specs.laws.GoneLaws.{up_to-continues, gone-continues}
use Rattle.triple_arena_direct.specs.laws.StrictAnswerLaws.{Continues-strict}
use Rattle.triple_arena_direct.proofs.StrictAnswers.{step_done, moved_len, all_gone}

-- a compaction that didn't wrap
pub unwrapped : {A T : Type 0} {slots : A → List (Option (ℕ × T))} {fits : History → A → Type 0} {compresses : List T → A → Type 0} {rank : Pointer → Pointer} {generations : Generations} {reset : Bool}
    {AreMade : List T → List T → Type 0} {IsFoundMade : Option T → Option T → Type 0} {old new : A}
    (wraps : Bool) → wraps ≡ false → IsCompacted slots fits compresses rank generations wraps reset AreMade IsFoundMade old new
    → IsCompacted slots fits compresses rank generations false reset AreMade IsFoundMade old new
unwrapped false none is = is
unwrapped true none is = absurd cc

module _ {T : Type 0} (kind : StackKind) (generations : Generations) (s t : ArenaState T) (values : List T)
    (up_to : generations.counting ≡ true → IsUpToCounter s) (allowed : is_exhausted_for_any generations s ≡ false)
    (left : IsTouched (compressed s (raised_if_any (raise generations) s) values) t) (len : entry_count t.slots ≡ entry_count s.slots) where
  abbrev call : ModelCall
  call = compression (keys s.slots) (keys t.slots)

  stepped : IsStrictStep kind generations s (to_compress values) (call ∷ []) t
  stepped = (
    moved_len s t (raised_if_any (raise generations) s) values left len,
    step_done s t (compressed s (raised_if_any (raise generations) s) values) _ (is_exhausted_for_any generations s) (call ∷ []) allowed
        (ap (λ (u : ArenaState T). compression (keys s.slots) (keys u.slots) ∷ []) left.0) left,
  )

  continues : generations.counting ≡ true → Continues Fits s (call ∷ []) t
  continues counts = Continues-strict kind generations counts s (to_compress values) (call ∷ []) t stepped

  -- no entry is of a generation that the counter has not come to
  pub still_up_to : generations.counting ≡ true → IsUpToCounter t
  still_up_to counts = up_to-continues s t (up_to counts) (call ∷ []) (continues counts)

  pub compacted_strictly : IsStrictCompaction kind generations s t
  compacted_strictly = record {
    step = (values, stepped);
    history = continues;
    begun = λ counts. Fits-keys t (still_up_to counts);
    gone_for_good = λ counts. all_gone s t call (up_to counts) (continues counts) refl;
    stays_gone = λ counts. gone-continues s t (up_to counts) (call ∷ []) (continues counts);
  }

-- What a compaction gives: sets whose keys stand under the pointers that their arena gives then.
use Rattle.std.specs.Prelude.{◌≡◌, ◌≤◌, ℕ, Bool, List, [], ◌∷◌, map, Option, IsSome}
use Rattle.triple_arena_ptr.specs.Numbers.{Generations}
use Rattle.triple_arena_ptr.specs.Pointers.{Pointer}
use Rattle.triple_arena.specs.Histories.{History, compression, begun_with, CountsUp, Continues}
use Rattle.triple_arena.specs.Walks.{keys}
use Rattle.triple_arena_surject.specs.Surject.{SurjectState, found_at, IsRenamed}

-- every key is in its set under its new name; the entries keep their order, and no index is above the number of keys. Where
-- generations count, without a wrap, a history of the arena of keys goes on; in each case one can begin anew, if one fitted
pub record KeepsSets {A B K V X : Type 0} (slots : A → List (Option (ℕ × X))) (fits : History → A → Type 0) (generations : Generations) (wraps : Bool) (rename : Pointer → Pointer) (old new : SurjectState A B K V) : Type 0 where
  pub renamed : IsRenamed old rename new
  pub ranked : keys (slots new.arena) ≡ map rename (keys (slots old.arena))
  pub packed : (p : Pointer) → IsSome (found_at new p) → p.0 ≤ new.len_keys
  pub history : CountsUp generations wraps → Continues fits old.arena (compression (keys (slots old.arena)) (keys (slots new.arena)) ∷ []) new.arena
  pub begun : (h : History) → fits h old.arena → fits (begun_with (keys (slots new.arena))) new.arena

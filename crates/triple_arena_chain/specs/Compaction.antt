-- What a compaction gives: chains under the names that their arena gives then.
use Rattle.std.specs.Prelude.{◌≡◌, ◌≤◌, ℕ, Bool, List, [], ◌∷◌, map, Option, IsSome}
use Rattle.triple_arena_ptr.specs.Numbers.{Generations}
use Rattle.triple_arena_ptr.specs.Pointers.{Pointer}
use Rattle.triple_arena.specs.Histories.{History, compression, begun_with, CountsUp, Continues}
use Rattle.triple_arena.specs.Walks.{keys}
use Rattle.triple_arena_chain.specs.Chains.{ChainState, nodes, IsMoved}

-- every chain has its values in its order, under their new names, entries stay in the order of their indexes, and no index is
-- above their number. Where generations count, without a wrap, a history of the arena goes on; in each case one can begin anew,
-- if one fitted
pub record KeepsChains {A T X : Type 0} (slots : A → List (Option (ℕ × X))) (fits : History → A → Type 0) (generations : Generations) (wraps : Bool) (rename : Pointer → Pointer) (old new : ChainState A T) : Type 0 where
  pub moved : IsMoved (nodes old) rename (nodes new)
  pub ranked : keys (slots new.arena) ≡ map rename (keys (slots old.arena))
  pub packed : (p : Pointer) → IsSome (nodes new p) → p.0 ≤ new.len
  pub history : CountsUp generations wraps → Continues fits old.arena (compression (keys (slots old.arena)) (keys (slots new.arena)) ∷ []) new.arena
  pub begun : (h : History) → fits h old.arena → fits (begun_with (keys (slots new.arena))) new.arena

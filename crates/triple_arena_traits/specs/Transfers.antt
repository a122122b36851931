-- What a transfer does: the entries of a source are taken out one by one, and put down in order.
use Rattle.std.specs.Prelude.{◌≡◌, ℕ, Bool, List, map, Option}
use Rattle.std.specs.List.{FoldsTo}
use Rattle.triple_arena_base.specs.declared.invalidation.InvalidationOption.{InvalidationOption}
use Rattle.triple_arena_ptr.specs.Numbers.{Generations}
use Rattle.triple_arena_ptr.specs.Pointers.{Pointer}
use Rattle.triple_arena_traits.specs.Ending.{told}
use Rattle.triple_arena_traits.specs.Walks.{entries}
use Rattle.triple_arena_traits.specs.Histories.{History}
use Rattle.triple_arena_traits.specs.Drains.{TakesOut}
use Rattle.triple_arena_traits.specs.Compression.{closed_up}

-- one call of the closure: the pointer and the value that were taken out, the pointer of the new place, and the value that
-- it gave
pub record Transfer (Q U P T : Type 0) : Type 0 where
  pub from : Q
  pub old : U
  pub to : P
  pub new : T

module _ {Q U P T : Type 0} where
  -- the entries that were taken out
  abbrev pub taken_out : (Q → Pointer) → List (Transfer Q U P T) → List (Pointer × U)
  taken_out numbers moved = map (λ t. (numbers t.from, t.old)) moved

  -- the entries that were put down
  abbrev pub put_down : (P → Pointer) → List (Transfer Q U P T) → List (Pointer × T)
  put_down numbers moved = map (λ t. (numbers t.to, t.new)) moved

module _ {Q U P T A M : Type 0} (source : Q → Pointer) (target : P → Pointer) (step : M → Q → InvalidationOption U → P → T → M → Type 0)
    (slots : A → List (Option (ℕ × U))) (fits : History → A → Type 0) (removes : A → ℕ → A → Type 0) (wraps : A → Bool) (generations : Generations) where
  -- the entry was taken out, and the closure was called with what its removal told
  abbrev pub TransferTurn : M × A → Transfer Q U P T → M × A → Type 0
  TransferTurn before t after =
      TakesOut fits removes wraps generations before.1 (source t.from) after.1
      × step before.0 t.from (told (wraps before.1) t.old) t.to t.new after.0

  -- the entries of a source were removed one by one, in the order of their indexes, and the closure was called with each;
  -- what it gave stands from index 1 on, under one generation, at the pointers that it was called with
  pub record Transfers (generation : ℕ) (f : M) (old new : A) (put : List (Option (ℕ × T))) : Type 0 where
    pub moved : List (Transfer Q U P T)
    pub last : M
    pub ran : FoldsTo TransferTurn (f, old) moved (last, new)
    pub came : taken_out source moved ≡ entries (slots old)
    pub went : put_down target moved ≡ entries put
    pub stands : put ≡ closed_up generation (map (λ t. t.new) moved)

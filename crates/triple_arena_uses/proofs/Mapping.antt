-- Walks that write to each entry.
use Rattle.std.proofs.Common.{◌≡◌, ℕ, List, [], ◌∷◌, ◌++◌, map, Option, Some, None, false, refl, sym, ap, ◌∙◌, append_assoc, append-nil}
use Rattle.triple_arena_ptr.specs.Pointers.{Pointer}
use Rattle.triple_arena.specs.Entries.{look_up, with_value_in}
use Rattle.triple_arena.specs.Walks.{Stand, Steps, IsAtFirst, entries, entries_ahead, entries_behind}
use Rattle.triple_arena.specs.laws.WalkLaws.{ahead_taken, ahead_written, ahead_none, ahead_first, behind_written, none_behind, all_behind}

module _ {T : Type 0} (made : Pointer × T → Pointer × T) where
  -- those behind are made anew, and those ahead are still to be
  abbrev pub IsMadeSoFar : List (Pointer × T) → Stand → List (Option (ℕ × T)) → Type 0
  IsMadeSoFar old s slots = entries_behind s slots ++ map made (entries_ahead s slots) ≡ map made old

  pub made_first : (slots : List (Option (ℕ × T))) (s : Stand) → IsAtFirst slots s → IsMadeSoFar (entries slots) s slots
  made_first slots s first = rw (none_behind slots s first, ahead_first slots s first) refl

  pub made_more : (old : List (Pointer × T)) (greatest : ℕ) (slots : List (Option (ℕ × T))) (b : Stand) (p : Pointer) (a : Stand) (v w : T) → b.reverse ≡ false → Steps greatest slots b (Some p) a → look_up slots p ≡ Some v → made (p, v) ≡ (p, w) → IsMadeSoFar old b slots → IsMadeSoFar old a (with_value_in slots p.0 w)
  made_more old greatest slots b p a v w forward s is makes so_far =
      rw (behind_written greatest slots b p a w forward s, ahead_written greatest slots b p a w s)
      (append_assoc (entries_behind b slots) ((p, w) ∷ []) (map made (entries_ahead a slots))
      ∙ ap (λ e. entries_behind b slots ++ e ∷ map made (entries_ahead a slots)) (sym makes)
      ∙ ap (λ es. entries_behind b slots ++ map made es) (sym (ahead_taken greatest slots b p a forward s v is))
      ∙ so_far)

  pub made_all : (old : List (Pointer × T)) (greatest : ℕ) (slots : List (Option (ℕ × T))) (b a : Stand) → Steps greatest slots b None a → IsMadeSoFar old b slots → entries slots ≡ map made old
  made_all old greatest slots b a s so_far =
      sym (append-nil (entries_behind b slots) ∙ all_behind greatest slots b a s)
      ∙ ap (λ es. entries_behind b slots ++ map made es) (sym (ahead_none greatest slots b a s))
      ∙ so_far

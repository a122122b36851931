-- How a side table stays beside its table.
use Rattle.std.proofs.Common.{◌≡◌, ◌≢◌, ◌⊎◌, ℕ, List, Option, None, is_some, sym, ap, ◌∙◌, inl, inr}
use Rattle.std.proofs.lemmas.Bool.{cases_eq}
use Rattle.triple_arena_ptr.specs.Pointers.{Pointer}
use Rattle.triple_arena.specs.Entries.{look_up}
use Rattle.triple_arena.specs.laws.PointerListLaws.{pointer_is}
use Rattle.triple_arena_direct.specs.Mirrors.{IsMirror}

same_or_other : (q p : Pointer) → (q ≡ p) ⊎ (q ≢ p)
same_or_other q p =
    elim (cases_eq q.0 p.0) [
      | inl i ↦ elim (cases_eq q.1 p.1) [
        | inl g ↦ inl (pointer_is q.0 q.1 p.0 p.1 i g)
        | inr other ↦ inr (λ e. other (ap (λ (r : Pointer). r.1) e))
      ]
      | inr other ↦ inr (λ e. other (ap (λ (r : Pointer). r.0) e))
    ]

module _ {A B : Type 0} where
  -- what both lose under one pointer alone
  pub same_removed : (es es' : List (Option (ℕ × A))) (ns ns' : List (Option (ℕ × B))) (p : Pointer) → IsMirror es ns → look_up es' p ≡ None → look_up ns' p ≡ None → ((q : Pointer) → q ≢ p → look_up es' q ≡ look_up es q) → ((q : Pointer) → q ≢ p → look_up ns' q ≡ look_up ns q) → IsMirror es' ns'
  same_removed es es' ns ns' p same gone gone' others others' q =
      elim (same_or_other q p) [
        | inl here ↦ ap is_some (ap (look_up ns') here ∙ gone') ∙ sym (ap is_some (ap (look_up es') here ∙ gone))
        | inr other ↦ ap is_some (others' q other) ∙ same q ∙ sym (ap is_some (others q other))
      ]

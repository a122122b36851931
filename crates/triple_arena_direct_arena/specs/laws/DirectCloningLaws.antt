-- Laws of cloning into a direct arena.
use Rattle.std.proofs.Common.{◌≡◌, ℕ, ◌≤◌, nat_lt, cond, Bool, true, false, List, Option, refl, ap, ◌∙◌, arith}
use Rattle.std.proofs.lemmas.Bool.Decides.{nat_tests}
use Rattle.triple_arena_stack.specs.StackKind.{StackKind}
use Rattle.triple_arena_traits.specs.Entries.{entry_in, KeepsEntries}
use Rattle.triple_arena_direct_arena.specs.DirectState.{DirectState, direct_capacity, direct_reallocated, direct_ready_for, direct_with_slots}

module _ {T : Type 0} (kind : StackKind) where
  -- where there is a place for so many, the arena is ready as it is
  pub ready-fits : (s : DirectState T) (m : ℕ) → m ≤ direct_capacity s → direct_ready_for kind s m ≡ s
  ready-fits s m fits =
      let no : nat_lt (direct_capacity s) m ≡ false = grind (arith, nat_tests) in
      ap (λ b. cond b (direct_reallocated kind s m) s) no

  by_case : (b : Bool) (s t : DirectState T) (x : Option ℕ) → s.limit ≡ x → t.limit ≡ x → (cond b s t).limit ≡ x
  by_case true s t x p q = p
  by_case false s t x p q = q

  pub kept-cloned : (old : DirectState T) (last : ℕ) (next : Option ℕ) (copy : List (Option (ℕ × T))) (new : DirectState T) → new ≡ direct_with_slots (direct_ready_for kind old last) copy → KeepsEntries copy new.slots
  kept-cloned old last next copy new is i = ap (λ s. entry_in s.slots i) is

  pub limit-cloned : (old : DirectState T) (last : ℕ) (next : Option ℕ) (copy : List (Option (ℕ × T))) (new : DirectState T) → new ≡ direct_with_slots (direct_ready_for kind old last) copy → new.limit ≡ old.limit
  limit-cloned old last next copy new is =
      ap (λ s. s.limit) is ∙ by_case (nat_lt (direct_capacity old) last) (direct_reallocated kind old last) old old.limit refl refl

  pub capacity-cloned : (old : DirectState T) (last : ℕ) (next : Option ℕ) (copy : List (Option (ℕ × T))) (new : DirectState T) → new ≡ direct_with_slots (direct_ready_for kind old last) copy → last ≤ direct_capacity old → direct_capacity new ≡ direct_capacity old
  capacity-cloned old last next copy new is fits = ap direct_capacity is ∙ ap direct_capacity (ready-fits old last fits)

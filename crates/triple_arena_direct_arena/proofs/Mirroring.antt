-- How a mirror follows an arena.
use Rattle.std.proofs.Common.{◌≡◌, ℕ, zero, suc, ◌≤◌, ◌==◌, Bool, true, false, List, [], ◌∷◌, Option, Some, None, is_some, Contains, cond, Result, Ok, refl, sym, ap, subst, ◌∙◌, inl, inr, arith, true≢false}
use Rattle.std.proofs.lemmas.Bool.{cases_eq}
use Rattle.std.specs.List.{FoldsTo}
use Rattle.std.specs.Borrow.{Bor}
use Rattle.std.specs.Option.{option_and_then}
use Rattle.triple_arena_ptr.specs.Pointers.{Pointer}
use Rattle.triple_arena_traits.specs.laws.ItemLaws.{eq_true}
use Rattle.triple_arena_traits.specs.Entries.{entry_in, value_of_generation, look_up, ChangesAt, KeepsEntries}
use Rattle.triple_arena_traits.specs.Walks.{entries, keys}
use Rattle.triple_arena_traits.specs.laws.WalkLaws.{live_key, key_live}
use Rattle.triple_arena_traits.specs.Copying.{Copies}
use Rattle.triple_arena_traits.specs.DirectInsertion.{IsVacant}
use Rattle.triple_arena_traits.proofs.LookUps.{others_found}
use Rattle.triple_arena_traits.proofs.CopyLemmas.{copied_keys}
use Rattle.triple_arena_direct_arena.specs.DirectState.{DirectState, direct_capacity}
use Rattle.triple_arena_direct_arena.specs.laws.DirectStepLaws.{slots-removed}
use Rattle.triple_arena_direct_arena.specs.laws.DirectInsertionLaws.{slots-inserted_at}
use Rattle.triple_arena_direct_arena.specs.Mirrors.{Change, IsMirror, Makes, Follows}
use Rattle.triple_arena_direct_arena.specs.Mirrors.Change.{comes, goes}

same_bool : (a b : Bool) → (a ≡ true → b ≡ true) → (b ≡ true → a ≡ true) → a ≡ b
same_bool true b there back = sym (there refl)
same_bool false true there back = back refl
same_bool false false there back = refl

module _ {T U : Type 0} where
  -- arenas whose walks have the same pointers
  pub same_keys : (slots : List (Option (ℕ × T))) (mirror : List (Option (ℕ × U))) → keys mirror ≡ keys slots → IsMirror slots mirror
  same_keys slots mirror same p =
      same_bool (is_some (look_up mirror p)) (is_some (look_up slots p))
      (λ live. key_live slots p (subst (λ ks. Contains ks p) same (live_key mirror p live)))
      (λ live. key_live mirror p (subst (λ ks. Contains ks p) (sym same) (live_key slots p live)))

  -- a change at one index that leaves entries of one generation there, or none
  same_changed : (slots slots' : List (Option (ℕ × T))) (mirror mirror' : List (Option (ℕ × U))) (i : ℕ) (e : Option (ℕ × T)) (e' : Option (ℕ × U)) → IsMirror slots mirror → ((generation : ℕ) → is_some (option_and_then (value_of_generation generation) e') ≡ is_some (option_and_then (value_of_generation generation) e)) → ChangesAt slots i e slots' → ChangesAt mirror i e' mirror' → IsMirror slots' mirror'
  same_changed slots slots' mirror mirror' i e e' same alike change change' p =
      elim (cases_eq p.0 i) [
        | inl here ↦
            ap (λ o. is_some (option_and_then (value_of_generation p.1) o)) (ap (entry_in mirror') here ∙ change'.there)
            ∙ alike p.1
            ∙ sym (ap (λ o. is_some (option_and_then (value_of_generation p.1) o)) (ap (entry_in slots') here ∙ change.there))
        | inr away ↦
            ap is_some (others_found mirror mirror' i e' change' p away)
            ∙ same p
            ∙ sym (ap is_some (others_found slots slots' i e change p away))
      ]

  alike_at : (h generation : ℕ) (u : U) (v : T) → is_some (option_and_then (value_of_generation generation) (Some (h, u))) ≡ is_some (option_and_then (value_of_generation generation) (Some (h, v)))
  alike_at h generation u v = by_test (h == generation)
    where
      by_test : (b : Bool) → is_some (cond b (Some u) None) ≡ is_some (cond b (Some v) None)
      by_test true = refl
      by_test false = refl

  same_step : (slots slots' : List (Option (ℕ × T))) (mirror mirror' : DirectState U) (change : Change) → IsMirror slots mirror.slots → Makes slots change slots' → Follows mirror change mirror' → IsMirror slots' mirror'.slots
  same_step slots slots' mirror mirror' (comes (zero, h)) same (v, made) (u, is) = absurd (let there = made.there in cc)
  same_step slots slots' mirror mirror' (comes (suc k, h)) same (v, made) (u, is) =
      same_changed slots slots' mirror.slots mirror'.slots (suc k) (Some (h, v)) (Some (h, u)) same (λ generation. alike_at h generation u v) made
      (rw is (slots-inserted_at mirror (suc k, h) u (omega arith)))
  same_step slots slots' mirror mirror' (goes i) same made is =
      same_changed slots slots' mirror.slots mirror'.slots i None None same (λ generation. refl) made (slots-removed mirror i mirror' is)

  -- one change after another
  pub same_after : (slots : List (Option (ℕ × T))) (mirror : DirectState U) (changes : List Change) (slots' : List (Option (ℕ × T))) (mirror' : DirectState U) → IsMirror slots mirror.slots → FoldsTo Makes slots changes slots' → FoldsTo Follows mirror changes mirror' → IsMirror slots' mirror'.slots
  same_after slots mirror [] slots' mirror' same made followed =
      rw (← made, ← followed) same
  same_after slots mirror (change ∷ rest) slots' mirror' same made followed =
      same_after made.0 followed.0 rest slots' mirror' (same_step slots made.0 mirror followed.0 change same made.1 followed.1) made.2 followed.2

  -- where no entry stands in the arena, none stands in the mirror
  pub vacant_alike : (slots : List (Option (ℕ × T))) (mirror : DirectState U) (i : ℕ) → IsMirror slots mirror.slots → entry_in slots i ≡ None → i ≤ direct_capacity mirror → IsVacant mirror.slots (direct_capacity mirror) i
  vacant_alike slots mirror i same free within = record { within = within; free = by_entry (entry_in mirror.slots i) refl }
    where
      by_entry : (o : Option (ℕ × U)) → entry_in mirror.slots i ≡ o → entry_in mirror.slots i ≡ None
      by_entry None is = is
      by_entry (Some e) is =
          let live : is_some (look_up mirror.slots (i, e.0)) ≡ true = ap (λ o. is_some (option_and_then (value_of_generation e.0) o)) is ∙ ap (λ b. is_some (cond b (Some e.1) None)) (eq_true e.0 e.0 refl) in
          let none : is_some (look_up slots (i, e.0)) ≡ false = ap (λ o. is_some (option_and_then (value_of_generation e.0) o)) free in
          absurd (true≢false (sym live ∙ same (i, e.0) ∙ none))

-- a mirror keeps its capacity
pub same_capacity : {U : Type 0} (mirror : DirectState U) (changes : List Change) (mirror' : DirectState U) → FoldsTo Follows mirror changes mirror' → direct_capacity mirror' ≡ direct_capacity mirror
same_capacity mirror [] mirror' followed = ap direct_capacity (sym followed)
same_capacity mirror (comes p ∷ rest) mirror' followed =
    same_capacity followed.0 rest mirror' followed.2 ∙ ap direct_capacity followed.1.1
same_capacity mirror (goes i ∷ rest) mirror' followed =
    same_capacity followed.0 rest mirror' followed.2 ∙ ap direct_capacity followed.1

module _ {P T U E M : Type 0} (numbers : P → Pointer) (step : M → P → Bor T → Result U E → M → Type 0) where
  -- a clone has the pointers of its source
  pub same_cloned : (f : M) (source : List (Option (ℕ × T))) (copy mirror : List (Option (ℕ × U))) → Copies numbers step f (entries source) (Ok tt) copy → KeepsEntries copy mirror → IsMirror source mirror
  same_cloned f source copy mirror copies kept p =
      ap (λ o. is_some (option_and_then (value_of_generation p.1) o)) (kept p.0) ∙ same_keys source copy (copied_keys numbers step f source copy copies) p

-- Advancers and drains of an arena.
use Rattle.std.proofs.Common.{◌≡◌, ◌∙◌, ℕ, ◌<◌, ◌≤◌, ◌+◌, ◌-◌, Bool, true, false, IsSome, List, [], ◌∷◌, Option, Some, None, MatchOption, length, refl, sym, ap, inl, inr, arith}
use Rattle.std.proofs.lemmas.Bool.{cases_lt}
use Rattle.std.proofs.lemmas.List.{length-map}
use Rattle.std.specs.Prelude.{⊤}
use Rattle.std.specs.Iterator.{YieldsFirstBy, MakesProgress, at_most}
use Rattle.std.specs.Int.NonZero.{non_zero_usize_get}
use Rattle.std.specs.declared.num.NonZeroUsize.{NonZeroUsize}
use Rattle.triple_arena_base.specs.declared.invalidation.InvalidationOption.{InvalidationOption}
use Rattle.triple_arena_base.specs.Invalidation.{as_option, overflowing_option, allowed_option}
use Rattle.triple_arena_ptr.specs.Pointers.{Pointer}
use Rattle.triple_arena_traits.specs.Entries.{entry_in, look_up, entry_count, ChangesAt}
use Rattle.triple_arena_traits.specs.Ending.{told, told_of}
use Rattle.triple_arena_traits.specs.Places.{number_or_zero}
use Rattle.triple_arena_traits.specs.Walks.{Stand, Steps, IsAtFirst, IsBeforeAll, entries, entries_ahead, keys_ahead}
use Rattle.triple_arena_traits.specs.laws.WalkLaws.{length-entries, ahead_first, ahead_all, ahead_taken_out, others_ahead, ahead_none, ahead_after_none, one_less, forward_stays, found, some_or_none, live_within, up_yes}

-- a forward advancer at the least index of an entry, if there is one
pub at_first : {T : Type 0} (slots : List (Option (ℕ × T))) (o : Option NonZeroUsize) → MatchOption o ((i : ℕ) → entry_in slots i ≡ None) (λ inx. IsSome (entry_in slots (non_zero_usize_get inx)) × ((i : ℕ) → i < non_zero_usize_get inx → entry_in slots i ≡ None)) → IsAtFirst slots (record { place = number_or_zero o; reverse = false })
at_first slots None none =
    record { forward = refl; live = inl refl; all = λ j live. absurd (some_or_none _ live (none j)) }
at_first slots (Some inx) found =
    record {
      forward = refl;
      live = inr found.0;
      all = λ j live. elim (cases_lt j (non_zero_usize_get inx)) [
        | inl below ↦ absurd (some_or_none _ live (found.1 j below))
        | inr from ↦ up_yes (non_zero_usize_get inx) j (live_within slots (non_zero_usize_get inx) found.0).0 from
      ];
    }

pub unwrapped : {A : Type 0} (wrapped : Bool) (x : A) (answer : InvalidationOption A) → Some answer ≡ as_option (told_of wrapped (Some x)) → answer ≡ told wrapped x
unwrapped true x answer e = cc
unwrapped false x answer e = cc

pub overflowing_told : {A : Type 0} (wrapped : Bool) (x : A) → overflowing_option (told wrapped x) ≡ (x, wrapped)
overflowing_told true x = refl
overflowing_told false x = refl

pub allowed_told : {A : Type 0} (wrapped : Bool) (x : A) → allowed_option (told wrapped x) ≡ x
allowed_told true x = refl
allowed_told false x = refl

-- an iterator over a list that gives its first item has fewer left
pub one_fewer : {A X : Type 0} (view : A → X) (before after : List X) (o : Option A) → YieldsFirstBy view (λ rest. rest) before o after → MakesProgress (λ _. ⊤) (λ rest. at_most (length rest)) before o after
one_fewer view before after None yields = record { on = λ f. tt; keeps = tt; rests = λ f. tt }
one_fewer view before after (Some x) yields = record { on = λ f. (tt, tt, omega (arith, ap length yields)); keeps = tt; rests = λ f. tt }

-- the count of an arena's entries is that of the entries ahead of a stand at the first of them
pub first_counted : {T : Type 0} (n : ℕ) (slots : List (Option (ℕ × T))) (s : Stand) → IsAtFirst slots s → n ≡ entry_count slots → n ≡ length (entries_ahead s slots)
first_counted n slots s first is = is ∙ sym (ap length (ahead_first slots s first) ∙ length-entries slots)

pub first_keys_counted : {T : Type 0} (n : ℕ) (slots : List (Option (ℕ × T))) (s : Stand) → IsAtFirst slots s → n ≡ entry_count slots → n ≡ length (keys_ahead s slots)
first_keys_counted n slots s first is = first_counted n slots s first is ∙ sym (length-map (entries_ahead s slots) (λ e. e.0))

-- after a step a forward stand has one less ahead, or none
module _ {T : Type 0} (greatest : ℕ) (slots : List (Option (ℕ × T))) (b a : Stand) (n : ℕ) (forward : b.reverse ≡ false) where
  pub stays_counted : n ≡ length (entries_ahead b slots) → Steps greatest slots b None a → (a.reverse ≡ false) × (n ≡ length (entries_ahead a slots))
  stays_counted is s = (
    forward_stays greatest slots b None a s ∙ forward,
    is ∙ ap length (ahead_none greatest slots b a s) ∙ sym (ap length (ahead_after_none greatest slots b a forward s)),
  )

  pub one_counted : (p : Pointer) → n ≡ length (entries_ahead b slots) → Steps greatest slots b (Some p) a → (a.reverse ≡ false) × (1 ≤ n) × (n - 1 ≡ length (entries_ahead a slots))
  one_counted p is s =
      let less = one_less greatest slots b p a forward s in
      (forward_stays greatest slots b (Some p) a s ∙ forward, omega (arith, is, less), omega (arith, is, less))

-- a drain has all entries of its arena left: the one that is answered and taken out is the first, and none is where none is
-- answered
module _ {T : Type 0} (greatest : ℕ) (slots : List (Option (ℕ × T))) (b a : Stand) (before : IsBeforeAll slots b) where
  pub none_drained : Steps greatest slots b None a → entries slots ≡ []
  none_drained s = sym (ahead_all slots b before.all) ∙ ahead_none greatest slots b a s

  pub first_drained : (left : List (Option (ℕ × T))) (p : Pointer) (v : T) → Steps greatest slots b (Some p) a → look_up slots p ≡ Some v → ChangesAt slots p.0 None left → entries slots ≡ (p, v) ∷ entries left
  first_drained left p v s is change =
      sym (ahead_all slots b before.all) ∙ ahead_taken_out greatest slots left b p a v before.forward s is change
      ∙ ap (λ rest. (p, v) ∷ rest) (ahead_all left a (others_ahead greatest slots b p a left before s change).all)

-- a removal of an entry that is found leaves fewer
pub fewer_removed : {A T : Type 0} (slots : A → List (Option (ℕ × T))) (old new : A) (p : Pointer) (v : T) → look_up (slots old) p ≡ Some v → (IsSome (entry_in (slots old) p.0) → entry_count (slots new) + 1 ≡ entry_count (slots old)) → entry_count (slots new) < entry_count (slots old)
fewer_removed slots old new p v is fewer = omega (arith, fewer (rw (found (slots old) p (rw is refl)).entry refl))

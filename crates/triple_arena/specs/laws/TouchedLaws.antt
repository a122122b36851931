-- What an arena keeps, where more slots may have been touched.
use Rattle.std.proofs.Common.{◌≡◌, ℕ, ◌+◌, ◌≤◌, ◌==◌, Bool, true, false, cond, List, Option, None, [], length, map, IsSome, refl, sym, ap, subst, ◌∙◌}
use Rattle.std.specs.Option.{option_map}
use Rattle.triple_arena_stack.specs.StackKind.{StackKind}
use Rattle.triple_arena_stack.specs.Capacity.{next_capacity}
use Rattle.triple_arena_traits.specs.Items.{with_item}
use Rattle.triple_arena_traits.specs.Entries.{ChangesAt, KeepsEntries, entry_in, entry_count}
use Rattle.triple_arena_traits.specs.ArenaState.{ArenaState, arena_len, capacity, with_value}
use Rattle.triple_arena_traits.specs.SlotSteps.{IsTouched}
use Rattle.triple_arena_traits.specs.Ending.{removed, invalidated}
use Rattle.triple_arena_traits.specs.FreeList.{tidied, laid_out}
use Rattle.triple_arena_traits.specs.Reallocation.{with_room_for, reallocated, ready_for, grown}
use Rattle.triple_arena_traits.specs.Compression.{compressed, rank}
use Rattle.triple_arena_traits.specs.Walks.{keys, values}
use Rattle.triple_arena_traits.specs.Cloning.{counter_of}
use Rattle.triple_arena_traits.specs.Histories.{Fits, Continues}
use Rattle.triple_arena_traits.specs.laws.EntryLaws.{slots-removed, limit_of-removed, capacity-removed, slots-invalidated, slots-reallocated, slots-tidied}
use Rattle.triple_arena_traits.specs.laws.LengthLaws.{len-removed, len-invalidated, len-reallocated, len-tidied}
use Rattle.triple_arena_traits.specs.laws.CloningLaws.{limit-cloned, capacity-cloned}
use Rattle.triple_arena_traits.specs.laws.CompressionLaws.{keys-compressed, values-compressed, compressed-with_value}
use Rattle.triple_arena_traits.specs.laws.HistoryLaws.{Continues-touched}

module _ {T : Type 0} where
  -- a history that fits goes on
  pub Continues-unchanged : (old new : ArenaState T) → IsTouched old new → Continues Fits old [] new
  Continues-unchanged old new same = Continues-touched old old new [] same (λ h fits. fits)

  module _ (raise : ℕ → ℕ) where
    pub removed_slots : (old : ArenaState T) (i : ℕ) (new : ArenaState T) → IsTouched (removed raise old i) new → ChangesAt old.slots i None new.slots
    removed_slots old i new same =
        subst (ChangesAt old.slots i None) (sym (ap (λ (s : ArenaState T). s.slots) same.0)) (slots-removed raise old i (removed raise old i) refl)

    pub removed_len : (old : ArenaState T) (i : ℕ) (new : ArenaState T) → IsTouched (removed raise old i) new → IsSome (entry_in old.slots i) → arena_len new + 1 ≡ arena_len old
    removed_len old i new same live =
        ap (λ (s : ArenaState T). arena_len s + 1) same.0 ∙ len-removed raise old i (removed raise old i) refl live

    pub removed_limit : (old : ArenaState T) (i : ℕ) (new : ArenaState T) → IsTouched (removed raise old i) new → new.limit ≡ old.limit
    removed_limit old i new same =
        ap (λ (s : ArenaState T). s.limit) same.0 ∙ limit_of-removed raise old i (removed raise old i) refl

    pub removed_capacity : (old : ArenaState T) (i : ℕ) (new : ArenaState T) → IsTouched (removed raise old i) new → capacity new ≡ capacity old
    removed_capacity old i new same = ap capacity same.0 ∙ capacity-removed raise old i (removed raise old i) refl

    pub invalidated_slots : (old : ArenaState T) (i : ℕ) (new : ArenaState T) → IsTouched (invalidated raise old i) new → ChangesAt old.slots i (option_map (λ (e : ℕ × T). (raise old.counter, e.1)) (entry_in old.slots i)) new.slots
    invalidated_slots old i new same =
        subst (ChangesAt old.slots i (option_map (λ (e : ℕ × T). (raise old.counter, e.1)) (entry_in old.slots i))) (sym (ap (λ (s : ArenaState T). s.slots) same.0)) (slots-invalidated raise old i (invalidated raise old i) refl)

    pub invalidated_len : (old : ArenaState T) (i : ℕ) (new : ArenaState T) → IsTouched (invalidated raise old i) new → arena_len new ≡ arena_len old
    invalidated_len old i new same = ap arena_len same.0 ∙ len-invalidated raise old i (invalidated raise old i) refl

  pub tidied_slots : (old new : ArenaState T) → IsTouched (tidied old) new → KeepsEntries old.slots new.slots
  tidied_slots old new same i =
      ap (λ (s : ArenaState T). entry_in s.slots i) same.0 ∙ slots-tidied old (tidied old) refl i

  pub tidied_len : (old new : ArenaState T) → IsTouched (tidied old) new → arena_len new ≡ arena_len old
  tidied_len old new same = ap arena_len same.0 ∙ len-tidied old (tidied old) refl

  module _ (kind : StackKind) where
    pub grown_touched : (old new : ArenaState T) → IsTouched old new → IsTouched (grown kind old) (grown kind new)
    grown_touched old new same =
        subst (λ s. IsTouched (grown kind old) (grown kind s)) (sym same.0) (by_test (arena_len old == capacity old))
      where
        roomy : ArenaState T
        roomy = with_room_for kind old (next_capacity (capacity old) old.limit old.greatest)

        by_test : (b : Bool) → IsTouched (cond b roomy old) (cond b (record roomy { steps = new.steps }) (record old { steps = new.steps }))
        by_test true = (refl, same.1)
        by_test false = (refl, same.1)

    pub reallocated_slots : (old : ArenaState T) (m : ℕ) (new : ArenaState T) → IsTouched (reallocated kind old m) new → KeepsEntries old.slots new.slots
    reallocated_slots old m new same i =
        ap (λ (s : ArenaState T). entry_in s.slots i) same.0 ∙ slots-reallocated kind old m (reallocated kind old m) refl i

    pub reallocated_len : (old : ArenaState T) (m : ℕ) (new : ArenaState T) → IsTouched (reallocated kind old m) new → arena_len new ≡ arena_len old
    reallocated_len old m new same = ap arena_len same.0 ∙ len-reallocated kind old m (reallocated kind old m) refl

    module _ (first : ℕ) where
      pub cloned_slots : (old : ArenaState T) (last : ℕ) (next : Option ℕ) (copy : List (Option (ℕ × T))) (new : ArenaState T) → IsTouched (laid_out (ready_for kind old last) copy (counter_of first next)) new → KeepsEntries copy new.slots
      cloned_slots old last next copy new same i = ap (λ (s : ArenaState T). entry_in s.slots i) same.0

      pub cloned_limit : (old : ArenaState T) (last : ℕ) (next : Option ℕ) (copy : List (Option (ℕ × T))) (new : ArenaState T) → IsTouched (laid_out (ready_for kind old last) copy (counter_of first next)) new → new.limit ≡ old.limit
      cloned_limit old last next copy new same =
          ap (λ (s : ArenaState T). s.limit) same.0 ∙ limit-cloned kind first old last next copy (laid_out (ready_for kind old last) copy (counter_of first next)) refl

      pub cloned_capacity : (old : ArenaState T) (last : ℕ) (next : Option ℕ) (copy : List (Option (ℕ × T))) (new : ArenaState T) → IsTouched (laid_out (ready_for kind old last) copy (counter_of first next)) new → last ≤ capacity old → capacity new ≡ capacity old
      cloned_capacity old last next copy new same fits =
          ap capacity same.0 ∙ capacity-cloned kind first old last next copy (laid_out (ready_for kind old last) copy (counter_of first next)) refl fits

  pub compressed_keys : (s new : ArenaState T) (counter : ℕ) (vs : List T) → IsTouched (compressed s counter vs) new → length vs ≡ entry_count s.slots → keys new.slots ≡ map (rank s counter) (keys s.slots)
  compressed_keys s new counter vs same many =
      ap (λ (t : ArenaState T). keys t.slots) same.0 ∙ keys-compressed s (compressed s counter vs) counter vs refl many

  pub compressed_values : (s new : ArenaState T) (counter : ℕ) (vs : List T) → IsTouched (compressed s counter vs) new → length vs ≡ entry_count s.slots → values new.slots ≡ vs
  compressed_values s new counter vs same many =
      ap (λ (t : ArenaState T). values t.slots) same.0 ∙ values-compressed s (compressed s counter vs) counter vs refl many

  pub compressed_with_value : (s new : ArenaState T) (counter : ℕ) (vs : List T) (i : ℕ) (v : T) → IsTouched (compressed s counter vs) new → IsTouched (compressed s counter (with_item vs i v)) (with_value new i v)
  compressed_with_value s new counter vs i v same = (
    ap (λ (t : ArenaState T). with_value t i v) same.0
        ∙ ap (λ (t : ArenaState T). record t { steps = new.steps }) (compressed-with_value s (compressed s counter vs) counter vs i v refl),
    same.1,
  )

-- What each change of an arena leaves of its entries, by their indexes, and of its limit and capacity.
use Rattle.std.proofs.Common.{◌≡◌, ◌≢◌, ℕ, zero, suc, ◌+◌, ◌-◌, ◌*◌, ◌<◌, ◌≤◌, ◌==◌, Bool, true, false, List, [], ◌∷◌, map, length, set, take, Option, Some, None, cond, count_by, min, slice_get, refl, sym, ap, subst, ◌∙◌, inl, inr, arith}
use Rattle.std.proofs.lemmas.Bool.{cases_eq}
use Rattle.std.proofs.lemmas.List.{length-take-le}
use Rattle.std.proofs.lemmas.List.Sums.{sum_by-cons}
use Rattle.std.specs.Option.{option_map, option_and_then}
use Rattle.triple_arena_stack.specs.StackKind.{StackKind, reallocated_room}
use Rattle.triple_arena_stack.specs.StackKind.StackKind.{heap, limited, fixed, array}
use Rattle.triple_arena_stack.specs.Capacity.{stack_capacity, next_capacity}
use Rattle.triple_arena_traits.specs.Items.{item, with_item}
use Rattle.triple_arena_traits.specs.laws.ItemLaws.{joined, joined_mapped, item-map, eq_true, eq_false, item_past, item-with_other, item-push_same, item-push_other}
use Rattle.triple_arena_traits.specs.Entries.{entry_in, with_value_in, ChangesAt, KeepsEntries}
use Rattle.triple_arena_traits.specs.ArenaState.{ArenaState, capacity, slot_count, arena_len, is_free, IsWellFormed}
use Rattle.triple_arena_traits.specs.Insertion.{place_among, place, next_pointer, inserted_among, inserted}
use Rattle.triple_arena_traits.specs.Ending.{removed, invalidated, cleared}
use Rattle.triple_arena_traits.specs.FreeList.{put_before, trimmed, tidied, without_free_end}
use Rattle.triple_arena_traits.specs.Reallocation.{with_room_for, reallocated, grown}

-- the count of an index in a list that begins with it
pub count_head : (i : ℕ) (rest : List ℕ) → count_by (λ j. j == i) (i ∷ rest) ≡ 1 + count_by (λ j. j == i) rest
count_head i rest = omega (arith, sum_by-cons (λ j. cond (j == i) 1 0) i rest, ap {B = ℕ} (λ b. cond b 1 0) (eq_true i i refl))

-- a reallocation leaves room for what fits
pub within_room : (kind : StackKind) (room len m greatest : ℕ) (limit : Option ℕ) → len ≤ min (stack_capacity room limit) greatest → len ≤ min (stack_capacity (reallocated_room kind room len m) limit) greatest
within_room heap room len m greatest None fits = omega arith
within_room heap room len m greatest (Some most) fits = omega arith
within_room limited room len m greatest None fits = omega arith
within_room limited room len m greatest (Some most) fits = omega arith
within_room fixed room len m greatest limit fits = fits
within_room (array places) room len m greatest limit fits = fits

-- the capacity that a full arena asks for is a greater one
pub doubled : (c : ℕ) → c < cond (c == 0) 4 (c * 2)
doubled zero = omega arith
doubled (suc c) = rw (eq_false (suc c) 0 (λ e. omega arith)) (omega arith)

-- a reallocation to a capacity that is no less leaves one that is no less
kept_room : (kind : StackKind) (room len m greatest : ℕ) (limit : Option ℕ) → min (stack_capacity room limit) greatest ≤ m → min (stack_capacity room limit) greatest ≤ min (stack_capacity (reallocated_room kind room len (min (stack_capacity m limit) greatest)) limit) greatest
kept_room heap room len m greatest None more = omega arith
kept_room heap room len m greatest (Some most) more = omega arith
kept_room limited room len m greatest None more = omega arith
kept_room limited room len m greatest (Some most) more = omega arith
kept_room fixed room len m greatest limit more = omega arith
kept_room (array places) room len m greatest limit more = omega arith

module _ {X T : Type 0} (entry : X → Option (ℕ × T)) where
  -- the entry of a slot that was read, by the slots that a state has, and under a number that the index has
  pub slot_read : (es : List X) (slots : List (Option (ℕ × T))) (i n : ℕ) (o : Option X) → o ≡ item es i → map entry es ≡ slots → i ≡ n → option_and_then entry o ≡ entry_in slots n
  slot_read es slots i n o read shown here =
      ap (option_and_then entry) read ∙ joined_mapped entry (item es i) ∙ sym (ap joined (item-map entry es i)) ∙ ap (λ xs. entry_in xs i) shown ∙ ap (entry_in slots) here

module _ {T : Type 0} where
  set_entry : (xs : List (Option (ℕ × T))) (k : ℕ) (e : Option (ℕ × T)) → (slice_get xs k ≡ None → e ≡ None) → joined (slice_get (set xs k e) k) ≡ e
  set_entry [] k e none = sym (none refl)
  set_entry (x ∷ xs) zero e none = refl
  set_entry (x ∷ xs) (suc k) e none = set_entry xs k e none

  entry_set : (xs : List (Option (ℕ × T))) (i : ℕ) (e : Option (ℕ × T)) → (item xs i ≡ None → e ≡ None) → entry_in (with_item xs i e) i ≡ e
  entry_set xs zero e none = sym (none refl)
  entry_set xs (suc k) e none = set_entry xs k e none

  -- an entry that is put at an index, or taken away there
  pub changes_at : (xs : List (Option (ℕ × T))) (i : ℕ) (e : Option (ℕ × T)) → (item xs i ≡ None → e ≡ None) → ChangesAt xs i e (with_item xs i e)
  changes_at xs i e none =
      record { there = entry_set xs i e none; others = λ j other. ap joined (item-with_other xs i j e other) }

  -- another value in the entry at an index
  pub written : (slots : List (Option (ℕ × T))) (i : ℕ) (w : T) → ChangesAt slots i (option_map (λ e. (e.0, w)) (entry_in slots i)) (with_value_in slots i w)
  written slots i w =
      changes_at slots i (option_map (λ e. (e.0, w)) (entry_in slots i)) (λ none. ap (λ slot. option_map (λ (x : ℕ × T). (x.0, w)) (joined slot)) none)

  -- the slots without the last one
  shorter_get : (xs : List (Option (ℕ × T))) (k : ℕ) → suc k ≢ length xs → slice_get (take (length xs - 1) xs) k ≡ slice_get xs k
  shorter_get [] k other = refl
  shorter_get (x ∷ []) zero other = absurd (other refl)
  shorter_get (x ∷ []) (suc k) other = refl
  shorter_get (x ∷ y ∷ xs) zero other = let n : length (x ∷ y ∷ xs) - 1 ≡ suc (length xs) = omega arith in rw n refl
  shorter_get (x ∷ y ∷ xs) (suc k) other =
      let n : length (x ∷ y ∷ xs) - 1 ≡ suc (length xs) = omega arith in
      let m : length (y ∷ xs) - 1 ≡ length xs = omega arith in
      rw n (rw m at (shorter_get (y ∷ xs) k (λ h. other (ap suc h))))

  shorter_item : (xs : List (Option (ℕ × T))) (j : ℕ) → j ≢ length xs → item (take (length xs - 1) xs) j ≡ item xs j
  shorter_item xs zero other = refl
  shorter_item xs (suc k) other = shorter_get xs k other

  shorter_last : (xs : List (Option (ℕ × T))) → item (take (length xs - 1) xs) (length xs) ≡ None
  shorter_last [] = refl
  shorter_last (x ∷ xs) = item_past (take (length (x ∷ xs) - 1) (x ∷ xs)) (length (x ∷ xs)) (omega (arith, length-take-le (length (x ∷ xs) - 1) (x ∷ xs) (omega arith)))

  changes_last : (xs : List (Option (ℕ × T))) → ChangesAt xs (length xs) None (take (length xs - 1) xs)
  changes_last xs =
      record { there = ap joined (shorter_last xs); others = λ j other. ap joined (shorter_item xs j other) }

  -- what two states have alike is that of whichever a test picks
  pub by_case : {A : Type 0} (f : ArenaState T → A) (b : Bool) (s t : ArenaState T) (x : A) → f s ≡ x → f t ≡ x → f (cond b s t) ≡ x
  by_case f true s t x p q = p
  by_case f false s t x p q = q

  module _ (raise : ℕ → ℕ) where
    removal_changes : (s : ArenaState T) (i : ℕ) → ChangesAt s.slots i None (removed raise s i).slots
    removal_changes s i =
        elim (cases_eq i (slot_count s)) [
          | inl same ↦ rw (eq_true i (slot_count s) same) (subst (λ j. ChangesAt s.slots j None (take (slot_count s - 1) s.slots)) (sym same) (changes_last s.slots))
          | inr other ↦ rw (eq_false i (slot_count s) other) (changes_at s.slots i None (λ h. refl))
        ]

    pub slots-removed : (old : ArenaState T) (i : ℕ) (new : ArenaState T) → new ≡ removed raise old i → ChangesAt old.slots i None new.slots
    slots-removed old i new is = rw is (removal_changes old i)

    pub limit_of-removed : (old : ArenaState T) (i : ℕ) (new : ArenaState T) → new ≡ removed raise old i → new.limit ≡ old.limit
    limit_of-removed old i new is = ap (λ s. s.limit) is ∙ by_case (λ s. s.limit) (i == slot_count old) _ _ old.limit refl refl

    pub capacity-removed : (old : ArenaState T) (i : ℕ) (new : ArenaState T) → new ≡ removed raise old i → capacity new ≡ capacity old
    capacity-removed old i new is = ap capacity is ∙ by_case capacity (i == slot_count old) _ _ (capacity old) refl refl

    pub slots-invalidated : (old : ArenaState T) (i : ℕ) (new : ArenaState T) → new ≡ invalidated raise old i → ChangesAt old.slots i (option_map (λ e. (raise old.counter, e.1)) (entry_in old.slots i)) new.slots
    slots-invalidated old i new is =
        rw is (changes_at old.slots i (option_map (λ e. (raise old.counter, e.1)) (entry_in old.slots i)) (λ none. ap (λ slot. option_map (λ (e : ℕ × T). (raise old.counter, e.1)) (joined slot)) none))

    pub slots-cleared : (old new : ArenaState T) → new ≡ cleared raise old → (i : ℕ) → entry_in new.slots i ≡ None
    slots-cleared old new is zero = refl
    slots-cleared old new is (suc k) = ap (λ s. entry_in s.slots (suc k)) is

  -- the slots up to the last one with an entry have the same entries
  before_entry : (x : Option (ℕ × T)) (ys zs : List (Option (ℕ × T))) (k : ℕ) → ((j : ℕ) → joined (slice_get ys j) ≡ joined (slice_get zs j)) → joined (slice_get (put_before x ys) k) ≡ joined (slice_get (x ∷ zs) k)
  before_entry (Some e) ys zs zero same = refl
  before_entry (Some e) ys zs (suc k) same = same k
  before_entry None [] zs zero same = refl
  before_entry None [] zs (suc k) same = same k
  before_entry None (y ∷ ys) zs zero same = refl
  before_entry None (y ∷ ys) zs (suc k) same = same k

  trimmed_entry : (xs : List (Option (ℕ × T))) (k : ℕ) → joined (slice_get (trimmed xs) k) ≡ joined (slice_get xs k)
  trimmed_entry [] k = refl
  trimmed_entry (x ∷ xs) k = before_entry x (trimmed xs) xs k (trimmed_entry xs)

  pub entry-trimmed : (xs : List (Option (ℕ × T))) (i : ℕ) → entry_in (trimmed xs) i ≡ entry_in xs i
  entry-trimmed xs zero = refl
  entry-trimmed xs (suc k) = trimmed_entry xs k

  -- the order of the free list leaves every entry
  pub slots-tidied : (old new : ArenaState T) → new ≡ tidied old → KeepsEntries old.slots new.slots
  slots-tidied old new is i = ap (λ s. entry_in s.slots i) is ∙ entry-trimmed old.slots i

  -- and so do free slots at the end that are taken away
  pub slots-without_free_end : (old new : ArenaState T) → new ≡ without_free_end old → KeepsEntries old.slots new.slots
  slots-without_free_end old new is i = ap (λ s. entry_in s.slots i) is ∙ entry-trimmed old.slots i

  pub slots-reallocated : (kind : StackKind) (old : ArenaState T) (m : ℕ) (new : ArenaState T) → new ≡ reallocated kind old m → KeepsEntries old.slots new.slots
  slots-reallocated kind old m new is i = ap (λ s. entry_in s.slots i) is ∙ entry-trimmed old.slots i

  vacant_cases : (o : Option (Option (ℕ × T))) (n : ℕ) → 1 + n ≡ cond (is_free o) 1 0 → (o ≡ Some None) × (n ≡ 0)
  vacant_cases None n e = absurd (omega arith)
  vacant_cases (Some None) n e = (refl, omega arith)
  vacant_cases (Some (Some x)) n e = absurd (omega arith)

  -- the first free index has a slot with no entry, and comes once
  pub first_free : (s : ArenaState T) (i : ℕ) (rest : List ℕ) → IsWellFormed s → s.free ≡ i ∷ rest → (item s.slots i ≡ Some None) × (count_by (λ j. j == i) rest ≡ 0)
  first_free s i rest well e =
      vacant_cases (item s.slots i) _ (sym (count_head i rest) ∙ ap (count_by (λ j. j == i)) (sym e) ∙ well.free_once i)

  -- an insertion into a well-formed arena
  pub slots-inserted : (s : ArenaState T) (v : T) → IsWellFormed s → ChangesAt s.slots (place s) (Some (s.counter, v)) (inserted s v).slots
  slots-inserted s v well = by_free s.free refl
    where
      by_free : (f : List ℕ) → s.free ≡ f → ChangesAt s.slots (place_among f (slot_count s)) (Some (s.counter, v)) (inserted_among f s v).slots
      by_free [] e =
          record {
            there = ap joined (item-push_same s.slots (slot_count s + 1) (Some (s.counter, v)) refl);
            others = λ j other. ap joined (item-push_other s.slots j (Some (s.counter, v)) other);
          }
      by_free (i ∷ rest) e =
          let free = (first_free s i rest well e).0 in
          changes_at s.slots i (Some (s.counter, v)) (λ none. absurd (cc))

  pub limit-inserted : (s : ArenaState T) (v : T) → (inserted s v).limit ≡ s.limit
  limit-inserted s v = by_free s.free
    where
      by_free : (f : List ℕ) → (inserted_among f s v).limit ≡ s.limit
      by_free [] = refl
      by_free (i ∷ rest) = refl

  pub capacity-inserted : (s : ArenaState T) (v : T) → capacity (inserted s v) ≡ capacity s
  capacity-inserted s v = by_free s.free
    where
      by_free : (f : List ℕ) → capacity (inserted_among f s v) ≡ capacity s
      by_free [] = refl
      by_free (i ∷ rest) = refl

  -- growth changes the room alone
  pub slots-grown : (kind : StackKind) (s : ArenaState T) → KeepsEntries s.slots (grown kind s).slots
  slots-grown kind s i = by_case (λ t. entry_in t.slots i) (arena_len s == capacity s) _ _ (entry_in s.slots i) refl refl

  pub limit-grown : (kind : StackKind) (s : ArenaState T) → (grown kind s).limit ≡ s.limit
  limit-grown kind s = by_case (λ t. t.limit) (arena_len s == capacity s) _ _ s.limit refl refl

  pub next-grown : (kind : StackKind) (s : ArenaState T) → next_pointer (grown kind s) ≡ next_pointer s
  next-grown kind s = by_case next_pointer (arena_len s == capacity s) _ _ (next_pointer s) refl refl

  pub well_formed-grown : (kind : StackKind) (s : ArenaState T) → IsWellFormed s → IsWellFormed (grown kind s)
  well_formed-grown kind s well = by_test (arena_len s == capacity s)
    where
      by_test : (b : Bool) → IsWellFormed (cond b (with_room_for kind s (next_capacity (capacity s) s.limit s.greatest)) s)
      by_test false = well
      by_test true =
          record {
            free_once = well.free_once;
            total = well.total;
            fits = within_room kind s.room (slot_count s) (next_capacity (capacity s) s.limit s.greatest) s.greatest s.limit well.fits;
          }

  pub capacity-grown : (kind : StackKind) (s : ArenaState T) → capacity s ≤ capacity (grown kind s)
  capacity-grown kind s = by_test (arena_len s == capacity s)
    where
      by_test : (b : Bool) → capacity s ≤ capacity (cond b (with_room_for kind s (next_capacity (capacity s) s.limit s.greatest)) s)
      by_test false = omega arith
      by_test true = kept_room kind s.room (slot_count s) (cond (capacity s == 0) 4 (capacity s * 2)) s.greatest s.limit (omega (arith, doubled (capacity s)))

  -- an arena that has a place stays as it is
  pub same-grown : (kind : StackKind) (s : ArenaState T) → arena_len s < capacity s → grown kind s ≡ s
  same-grown kind s place = rw (eq_false (arena_len s) (capacity s) (λ e. omega arith)) refl

  -- the counter is the generation of the next pointer
  pub generation-next : (s : ArenaState T) (generation : ℕ) → Some s.counter ≡ Some generation → (next_pointer s).1 ≡ generation
  generation-next s generation told = cc

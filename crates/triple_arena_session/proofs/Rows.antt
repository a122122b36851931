-- What stands under the pointers of a table, before and after a change of the arena.
use Rattle.std.proofs.Common.{◌≡◌, ◌≢◌, ◌⊎◌, ℕ, ◌+◌, ◌||◌, Bool, true, false, List, [], ◌∷◌, map, Option, Some, None, is_some, cond, count_by, refl, sym, ap, ◌∙◌, inl, inr, arith, true≢false}
use Rattle.std.proofs.lemmas.Bool.{cases_eq}
use Rattle.std.proofs.lemmas.Option.{same_Some}
use Rattle.std.proofs.lemmas.List.Sums.{sum_by-cons}
use Rattle.std.specs.Option.{option_map, option_and_then}
use Rattle.triple_arena_stack.specs.StackKind.{StackKind}
use Rattle.triple_arena_traits.specs.Items.{item, with_item}
use Rattle.triple_arena_traits.specs.laws.ItemLaws.{eq_true, eq_false}
use Rattle.triple_arena_ptr.specs.Pointers.{Pointer, is_same}
use Rattle.triple_arena_traits.specs.Entries.{value_of_generation, entry_count, ChangesAt, look_up}
use Rattle.triple_arena_traits.specs.ArenaState.{ArenaState, entry, arena_len}
use Rattle.triple_arena_traits.specs.Walks.{keys}
use Rattle.triple_arena_traits.specs.laws.WalkLaws.{found}
use Rattle.triple_arena_traits.specs.Histories.{has, AreDistinct, is_live}
use Rattle.triple_arena_commands.specs.PointerNames.{name_of}
use Rattle.triple_arena_commands.specs.NameStore.{row_count}
use Rattle.triple_arena_session.specs.SessionState.{SessionState}
use Rattle.triple_arena_session.specs.Shown.{as_row, row_of, shown}
use Rattle.triple_arena_traits.specs.laws.PointerListLaws.{same_itself, same_is, keys_from, has-keys, has-below}
use Rattle.triple_arena_session.proofs.TableNames.{map_changed_at, count_same, count_map, count_none, count_or, count_present}
use Rattle.triple_arena_session.proofs.Soundness.{SoundOver}

pub some_is : {A : Type 0} (o : Option A) → is_some o ≡ false → o ≡ None
some_is None e = refl
some_is (Some x) e = absurd (true≢false e)

pub some_has : {A : Type 0} (o : Option A) → is_some o ≡ true → (x : A) × (o ≡ Some x)
some_has None e = absurd (true≢false (sym e))
some_has (Some x) e = (x, refl)

pub is_some-map : {A B : Type 0} (f : A → B) (o : Option A) → is_some (option_map f o) ≡ is_some o
is_some-map f None = refl
is_some-map f (Some x) = refl

module _ {T : Type 0} where
  pub value_hit : (o : Option (ℕ × T)) (n : ℕ) (v : T) → o ≡ Some (n, v) → option_and_then (value_of_generation n) o ≡ Some v
  value_hit o n v e = ap (option_and_then (value_of_generation n)) e ∙ ap (λ b. cond b (Some v) None) (eq_true n n refl)

  pub value_miss : (o : Option (ℕ × T)) (n h : ℕ) (v : T) → o ≡ Some (h, v) → h ≢ n → option_and_then (value_of_generation n) o ≡ None
  value_miss o n h v e other = ap (option_and_then (value_of_generation n)) e ∙ ap (λ b. cond b (Some v) None) (eq_false h n other)

  -- the entry of a pointer that finds a value
  pub entry_found : (s : ArenaState T) (p : Pointer) (v : T) → look_up s.slots p ≡ Some v → entry s p.0 ≡ Some (p.1, v)
  entry_found s p v at =
      let f = found s.slots p (ap is_some at) in
      f.entry ∙ ap (λ w. Some (p.1, w)) (same_Some f.value v (sym f.looked_up ∙ at))

  -- a pointer at another index, or with nothing under it before and after, finds what it found
  pub kept_value : (s t : ArenaState T) (i : ℕ) (e : Option (ℕ × T)) (q : Pointer) → ChangesAt s.slots i e t.slots → (q.0 ≡ i → (look_up s.slots q ≡ None) × (option_and_then (value_of_generation q.1) e ≡ None)) → look_up t.slots q ≡ look_up s.slots q
  kept_value s t i e q changes there =
      elim (cases_eq q.0 i) [
        | inl here ↦ ap (option_and_then (value_of_generation q.1)) (ap (entry t) here ∙ changes.there) ∙ (there here).1 ∙ sym (there here).0
        | inr other ↦ ap (option_and_then (value_of_generation q.1)) (changes.others q.0 other)
      ]

  -- the number of entries is that of live pointers in a table that has them all
  count_from : (at : ℕ) (xs : List (Option (ℕ × T))) (table : List Pointer) → AreDistinct table → ((p : Pointer) → has (keys_from at xs) p ≡ true → has table p ≡ true) → count_by (λ p. has (keys_from at xs) p) table ≡ entry_count xs
  count_from at [] table d covers = count_none table
  count_from at (None ∷ xs) table d covers = count_from (at + 1) xs table d covers ∙ omega (arith, sum_by-cons (λ o. cond (is_some o) 1 0) None xs)
  count_from at (Some e ∷ xs) table d covers =
      let first : has table (at, e.0) ≡ true = covers (at, e.0) (ap (λ b. b || has (keys_from (at + 1) xs) (at, e.0)) (same_itself (at, e.0))) in
      let one : count_by (λ q. is_same q (at, e.0)) table ≡ 1 = count_present (at, e.0) table d first in
      let rest : count_by (λ p. has (keys_from (at + 1) xs) p) table ≡ entry_count xs = count_from (at + 1) xs table d (λ p h. covers p (later p h)) in
      omega (
        arith,
        one,
        rest,
        count_or (λ p. is_same p (at, e.0)) (λ p. has (keys_from (at + 1) xs) p) (λ p h. has-below (at + 1) xs p (omega (arith, ap (λ (r : Pointer). r.0) (same_is p (at, e.0) h)))) table,
        sum_by-cons (λ o. cond (is_some o) 1 0) (Some e) xs,
      )
    where
      later : (p : Pointer) → has (keys_from (at + 1) xs) p ≡ true → (is_same p (at, e.0) || has (keys_from (at + 1) xs) p) ≡ true
      later p h = by (is_same p (at, e.0))
        where
          by : (b : Bool) → (b || has (keys_from (at + 1) xs) p) ≡ true
          by true = refl
          by false = h

  pub count_live : (s : ArenaState T) (table : List Pointer) → AreDistinct table → ((p : Pointer) → is_live s p ≡ true → has table p ≡ true) → count_by (is_live s) table ≡ arena_len s
  count_live s table d covers =
      count_same (is_live s) (λ p. has (keys s.slots) p) (λ p. sym (has-keys s p)) table
      ∙ count_from 1 s.slots table d (λ p h. covers p (sym (has-keys s p) ∙ h))

module _ {X : Type 0} where
  -- the rows that a sound session shows are as many as its entries
  pub row_count-shown : (kind : StackKind) (s : SessionState X) → SoundOver kind s → row_count (shown s) ≡ arena_len s.arena
  row_count-shown kind s sound =
      count_map is_some (row_of s.arena s.table) s.table
      ∙ count_same _ (is_live s.arena) (λ p. is_some-map _ (look_up s.arena.slots p)) s.table
      ∙ count_live s.arena s.table sound.table.distinct sound.table.has_live

  -- a row stays where its pointer finds the same, and stored pointers keep their names
  pub row_kept : (kind : StackKind) (s : SessionState X) (t : ArenaState (X × Option Pointer)) (table : List Pointer) (q : Pointer) → SoundOver kind s → ((l : Pointer) → has s.table l ≡ true → name_of table l ≡ name_of s.table l) → look_up t.slots q ≡ look_up s.arena.slots q → row_of t table q ≡ row_of s.arena s.table q
  row_kept kind s t table q sound names same = ap (option_map {U = X × Option ℕ} (as_row table)) same ∙ by (look_up s.arena.slots q) refl
    where
      by : (o : Option (X × Option Pointer)) → look_up s.arena.slots q ≡ o → option_map {U = X × Option ℕ} (as_row table) o ≡ option_map (as_row s.table) o
      by None is = refl
      by (Some (datum, None)) is = refl
      by (Some (datum, Some l)) is = ap (λ name. Some (datum, name)) (names l (sound.table.has_links q l datum is))

  -- the rows after a change at a live pointer
  pub rows_changed : (kind : StackKind) (s : SessionState X) (t : ArenaState (X × Option Pointer)) (table : List Pointer) (name : ℕ) (p : Pointer) (node : X × Option Pointer) (e : Option (ℕ × (X × Option Pointer))) (r : Option (X × Option ℕ))
      → SoundOver kind s → ((l : Pointer) → has s.table l ≡ true → name_of table l ≡ name_of s.table l)
      → item s.table name ≡ Some p → look_up s.arena.slots p ≡ Some node → ChangesAt s.arena.slots p.0 e t.slots
      → ((q : Pointer) → has s.table q ≡ true → q.1 ≢ p.1 → option_and_then (value_of_generation q.1) e ≡ None)
      → row_of t table p ≡ r → map (row_of t table) s.table ≡ with_item (map (row_of s.arena s.table) s.table) name r
  rows_changed kind s t table name p node e r sound names at found changes others there =
      map_changed_at (row_of s.arena s.table) (row_of t table) s.table name p r sound.table.distinct at there
      (λ q h differs. row_kept kind s t table q sound names
      (kept_value s.arena t p.0 e q changes (λ here.
      let stands = entry_found s.arena p node found in
      let generation : q.1 ≢ p.1 = λ same. differs (ap (λ i. (i, q.1)) here ∙ ap (λ n. (p.0, n)) same) in
      (value_miss (entry s.arena q.0) q.1 p.1 node (ap (entry s.arena) here ∙ stands) (λ same. generation (sym same)), others q h generation))))

  -- what is found after a change was found before, or stands where the change is
  pub found_before : (s t : ArenaState (X × Option Pointer)) (i : ℕ) (e : Option (ℕ × (X × Option Pointer))) (q : Pointer) (node : X × Option Pointer) → ChangesAt s.slots i e t.slots → look_up t.slots q ≡ Some node → (option_and_then (value_of_generation q.1) e ≡ Some node) ⊎ (look_up s.slots q ≡ Some node)
  found_before s t i e q node changes found =
      elim (cases_eq q.0 i) [
        | inl here ↦ inl (sym (ap (option_and_then (value_of_generation q.1)) (ap (entry t) here ∙ changes.there)) ∙ found)
        | inr other ↦ inr (sym (ap (option_and_then (value_of_generation q.1)) (changes.others q.0 other)) ∙ found)
      ]

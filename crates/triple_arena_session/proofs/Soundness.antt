-- The table of a sound session is what a history of its arena gave.
use Rattle.std.proofs.Common.{◌≡◌, ◌<◌, ◌≤◌, ◌&&◌, ◌||◌, Bool, true, false, not, IsTrue, List, [], ◌∷◌, ◌++◌, filter, Some, cond, Option, is_some, refl, sym, ap, subst, ◌∙◌, true≢false}
use Rattle.std.proofs.lemmas.Bool.{and_parts}
use Rattle.std.proofs.lemmas.List.{append-nil}
use Rattle.triple_arena_ptr.specs.Pointers.{Pointer, is_same}
use Rattle.triple_arena_stack.specs.StackKind.{StackKind, IsOfKind}
use Rattle.triple_arena_traits.specs.Entries.{look_up}
use Rattle.triple_arena_traits.specs.ArenaState.{ArenaState, arena_len, IsWellFormed}
use Rattle.triple_arena_traits.specs.Histories.{has, AreDistinct, ModelCall, clearing, given_by, History, begun_with, and_then, given, ended, is_live, Fits, Continues}
use Rattle.triple_arena_traits.specs.laws.HistoryLaws.{Fits-empty}
use Rattle.triple_arena_traits.specs.laws.PointerListLaws.{same_is}
use Rattle.triple_arena_session.specs.SessionState.{SessionState, new_session}
use Rattle.triple_arena_session.specs.Shown.{IsSound, IsArenaOver}

-- a session is sound, over an arena of a stack of this kind
pub record SoundOver {X : Type 0} (kind : StackKind) (s : SessionState X) : Type 0 where
  pub table : IsSound s
  pub well_formed : IsWellFormed s.arena
  pub of_kind : IsOfKind kind s.arena.room s.arena.limit

pub sound_over : {X : Type 0} (kind : StackKind) (s : SessionState X) → IsSound s → IsArenaOver kind s.arena → SoundOver kind s
sound_over kind s sound over = record { table = sound; well_formed = over.0; of_kind = over.1 }

pub over_of : {X : Type 0} (kind : StackKind) (s : SessionState X) → SoundOver kind s → IsArenaOver kind s.arena
over_of kind s sound = (sound.well_formed, sound.of_kind)

-- the pointers of a list that pass a test
has-filter : (f : Pointer → Bool) (ps : List Pointer) (p : Pointer) → has (filter f ps) p ≡ (has ps p && f p)
has-filter f [] p = refl
has-filter f (q ∷ ps) p = by (f q) refl (has-filter f ps p)
  where
    taken : (a h g : Bool) → (a ≡ true → g ≡ true) → (a || (h && g)) ≡ ((a || h) && g)
    taken true h g k = sym (k refl)
    taken false h g k = refl

    left_out : (a h g : Bool) → (a ≡ true → g ≡ false) → (h && g) ≡ ((a || h) && g)
    left_out true true g k = refl
    left_out true false g k = sym (k refl)
    left_out false h g k = refl

    by : (b : Bool) → f q ≡ b → has (filter f ps) p ≡ (has ps p && f p) → has (cond b (q ∷ filter f ps) (filter f ps)) p ≡ ((is_same p q || has ps p) && f p)
    by true is rest =
        ap (λ c. is_same p q || c) rest ∙ taken (is_same p q) (has ps p) (f p) (λ so. ap f (same_is p q so) ∙ is)
    by false is rest =
        rest ∙ left_out (is_same p q) (has ps p) (f p) (λ so. ap f (same_is p q so) ∙ is)

not_true : (b : Bool) → not b ≡ true → b ≡ false
not_true true e = absurd (true≢false (sym e))
not_true false e = refl

live_if : (l h : Bool) → (l ≡ true → h ≡ true) → l ≡ (h && not (h && not l))
live_if true true k = refl
live_if true false k = absurd (true≢false (sym (k refl)))
live_if false true k = refl
live_if false false k = refl

was_ended : (g e : Bool) → (g && not e) ≡ false → g ≡ true → e ≡ true
was_ended true true h k = refl
was_ended true false h k = absurd (true≢false h)
was_ended false e h k = absurd (true≢false (sym k))

module _ {T : Type 0} where
  -- the pointers of a table that an arena does not have
  abbrev pub ended_in : ArenaState T → List Pointer → List Pointer
  ended_in arena table = filter (λ p. not (is_live arena p)) table

  -- the history that a table tells: all its pointers were there, and those that the arena does not have were cleared
  abbrev pub history_of : ArenaState T → List Pointer → History
  history_of arena table = and_then (begun_with table) (clearing (ended_in arena table))

  -- what is sound of a table, over an arena
  pub record TableSound (arena : ArenaState T) (table : List Pointer) : Type 0 where
    pub distinct : AreDistinct table
    pub has_live : (p : Pointer) → IsTrue (is_live arena p) → IsTrue (has table p)
    pub by_now : (p : Pointer) → IsTrue (has table p) → p.1 ≤ arena.counter
    pub before : (p : Pointer) → IsTrue (has table p) → is_live arena p ≡ false → p.1 < arena.counter

  -- the pointers that a history gave, of an arena that it fits
  TableSound-fits : (h : History) (t : ArenaState T) → Fits h t → TableSound t (given h)
  TableSound-fits h t fits =
      record {
        distinct = fits.given_once;
        has_live = λ p live. (and_parts (has (given h) p) (not (has (ended h) p)) (sym (fits.live p) ∙ live)).0;
        by_now = fits.given_by_now;
        before = λ p e dead. fits.ended_before p (was_ended (has (given h) p) (has (ended h) p) (sym (fits.live p) ∙ dead) e);
      }

module _ {X : Type 0} (kind : StackKind) (s : SessionState X) (sound : SoundOver kind s) where
  Fits-table : Fits (history_of s.arena s.table) s.arena
  Fits-table =
      record {
        given_once = subst AreDistinct (sym (append-nil s.table)) sound.table.distinct;
        live = λ p.
            live_if (is_live s.arena p) (has s.table p) (sound.table.has_live p)
            ∙ sym (ap (λ l. has l p && not (has (ended_in s.arena s.table) p)) (append-nil s.table)
            ∙ ap (λ b. has s.table p && not b) (has-filter (λ q. not (is_live s.arena q)) s.table p));
        given_by_now = λ p e. sound.table.by_now p (sym (ap (λ l. has l p) (append-nil s.table)) ∙ e);
        ended_before = λ p e.
            let parts = and_parts (has s.table p) (not (is_live s.arena p)) (sym (has-filter (λ q. not (is_live s.arena q)) s.table p) ∙ e) in
            sound.table.before p parts.0 (not_true (is_live s.arena p) parts.1);
      }

  -- the table stays sound where no pointer is given
  pub TableSound-kept : (t : ArenaState (X × Option Pointer)) → Continues Fits s.arena [] t → TableSound t s.table
  TableSound-kept t continues =
      subst (TableSound t) (append-nil s.table) (TableSound-fits (history_of s.arena s.table) t (continues (history_of s.arena s.table) Fits-table))

  -- and with those that a model call gives
  pub TableSound-given : (call : ModelCall) (t : ArenaState (X × Option Pointer)) → Continues Fits s.arena (call ∷ []) t → TableSound t (s.table ++ given_by call)
  TableSound-given call t continues =
      subst (λ l. TableSound t (l ++ given_by call)) (append-nil s.table)
      (TableSound-fits (and_then (history_of s.arena s.table) call) t (continues (history_of s.arena s.table) Fits-table))

-- a session that has given no name is sound, over an arena without an entry
pub IsSound-empty : {X : Type 0} (a : ArenaState (X × Option Pointer)) → arena_len a ≡ 0 → IsSound (new_session a)
IsSound-empty a none =
    let fits : Fits (begun_with []) a = Fits-empty a none in
    record {
      distinct = tt;
      has_live = λ p live. absurd (true≢false (sym live ∙ fits.live p));
      has_links = λ p q datum found. absurd (true≢false (sym (ap is_some found) ∙ fits.live p));
      by_now = λ p h. absurd (true≢false (sym h));
      before = λ p h dead. absurd (true≢false (sym h));
    }

-- with the links, and what holds of the arena, that is soundness
pub SoundOver-from : {X : Type 0} (kind : StackKind) (t : SessionState X) → TableSound t.arena t.table → ((p q : Pointer) (datum : X) → look_up t.arena.slots p ≡ Some (datum, Some q) → has t.table q ≡ true) → IsArenaOver kind t.arena → SoundOver kind t
SoundOver-from kind t table links over =
    sound_over kind t (record { distinct = table.distinct; has_live = table.has_live; has_links = links; by_now = table.by_now; before = table.before }) over

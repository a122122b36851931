-- What is found after `retain` of a strict arena, whose closure answers alike each time.
use Rattle.std.proofs.Common.{◌≡◌, ℕ, zero, suc, ◌+◌, Bool, true, false, cond, List, [], ◌∷◌, map, Option, Some, None, slice_get, refl, sym, ap, subst, ◌∙◌, arith}
use Rattle.std.proofs.lemmas.Option.{same_Some}
use Rattle.std.specs.Borrow.{Bor}
use Rattle.std.specs.Option.{option_and_then}
use Rattle.triple_arena_ptr.specs.Pointers.{Pointer}
use Rattle.triple_arena_traits.specs.Entries.{look_up, value_of_generation}
use Rattle.triple_arena_traits.specs.ArenaState.{ArenaState, entry}
use Rattle.triple_arena_traits.specs.SlotSteps.{IsTouched}
use Rattle.triple_arena_traits.specs.Ending.{removed}
use Rattle.triple_arena_traits.specs.FreeList.{IsRising}
use Rattle.triple_arena_traits.specs.Walks.{entries}
use Rattle.triple_arena_traits.specs.laws.EntryLaws.{slots-removed}
use Rattle.triple_arena_traits.specs.laws.ItemLaws.{eq_true}
use Rattle.triple_arena_traits.specs.laws.LookUpLaws.{entry_at}
use Rattle.triple_arena_traits.specs.laws.MoveLaws.{nth_found}
use Rattle.triple_arena_traits.specs.laws.WalkLaws.{some_or_none, keys_rising}
use Rattle.triple_arena_recasting.specs.laws.RetainLaws.{kept_if, entry_of_walk, at_entry, rising_at, rising_indexes, looked}
use Rattle.triple_arena_direct.specs.StrictRetain.{AskedAt, Sorts, without_entries, ended_entries}

module _ {P T F : Type 0} (numbers : P → Pointer) (step : F → P → Bor T → Bool → F → Type 0) (test : Pointer → T → Bool) (f : F)
    (answers : (after : F) (p : P) (x : Bor T) (keeps : Bool) → step f p x keeps after → (keeps ≡ test (numbers p) x.now) × (after ≡ f)) where
  asked_is : (after : F) (x : Pointer × T) (keeps : Bool) → AskedAt numbers step f x.0 x.1 keeps after → (keeps ≡ test x.0 x.1) × (after ≡ f)
  asked_is after x keeps asked =
      let told = answers after asked.pointer asked.shown keeps asked.called in
      (told.0 ∙ ap (λ p. test p asked.shown.now) asked.names ∙ ap (test x.0) asked.shows, told.1)

  -- an index without one of these entries keeps what it has
  out_elsewhere : (g last : F) (es : List (Pointer × T)) (gone : List Pointer) → Sorts numbers step g es gone last → (i : ℕ)
      → ((k : ℕ) (e : Pointer × T) → slice_get es k ≡ Some e → e.0.0 ≡ i → ⊥) → (s : ArenaState T) → entry (without_entries gone s) i ≡ entry s i
  out_elsewhere g last [] gone sorts i away s = ap (λ ps. entry (without_entries ps s) i) sorts.0
  out_elsewhere g last (x ∷ es) gone (keeps, after, others, asked, is, sorts) i away s =
      ap (λ ps. entry (without_entries ps s) i) is ∙ by (λ t. out_elsewhere after last es others sorts i (λ k e at. away (suc k) e at) t) keeps
    where
      by : ((t : ArenaState T) → entry (without_entries others t) i ≡ entry t i) → (b : Bool) → entry (without_entries (cond b others (x.0 ∷ others)) s) i ≡ entry s i
      by later true = later s
      by later false =
          later (removed (λ n. n) s x.0.0)
          ∙ (slots-removed (λ n. n) s x.0.0 (removed (λ n. n) s x.0.0) refl).others i (λ same. away zero x refl (sym same))

  -- the entry that is asked first
  out_first : (low : ℕ) (last : F) (x : Pointer × T) (es : List (Pointer × T)) (gone : List Pointer) → IsRising low (map (λ e. e.0.0) (x ∷ es))
      → Sorts numbers step f (x ∷ es) gone last → (s : ArenaState T) → entry s x.0.0 ≡ Some (x.0.1, x.1)
      → entry (without_entries gone s) x.0.0 ≡ cond (test x.0 x.1) (Some (x.0.1, x.1)) None
  out_first low last x es gone rising (keeps, after, others, asked, is, sorts) s stands =
      ap (λ ps. entry (without_entries ps s) x.0.0) is ∙ by keeps ∙ ap (λ b. cond b (Some (x.0.1, x.1)) None) (asked_is after x keeps asked).0
    where
      later : (t : ArenaState T) → entry (without_entries others t) x.0.0 ≡ entry t x.0.0
      later t = out_elsewhere after last es others sorts x.0.0 (λ k e at same. omega (arith, rising_at (x.0.0 + 1) es k e rising.1 at, same)) t

      by : (b : Bool) → entry (without_entries (cond b others (x.0 ∷ others)) s) x.0.0 ≡ cond b (Some (x.0.1, x.1)) None
      by true = later s ∙ stands
      by false = later (removed (λ n. n) s x.0.0) ∙ (slots-removed (λ n. n) s x.0.0 (removed (λ n. n) s x.0.0) refl).there

  -- and any of them
  out_there : (low : ℕ) (last : F) (es : List (Pointer × T)) (gone : List Pointer) → IsRising low (map (λ e. e.0.0) es)
      → Sorts numbers step f es gone last → (s : ArenaState T) (k : ℕ) (e : Pointer × T) → slice_get es k ≡ Some e → entry s e.0.0 ≡ Some (e.0.1, e.1)
      → entry (without_entries gone s) e.0.0 ≡ cond (test e.0 e.1) (Some (e.0.1, e.1)) None
  out_there low last [] gone rising sorts s k e at stands = absurd (cc)
  out_there low last (x ∷ es) gone rising sorts s zero e at stands =
      let same : x ≡ e = cc in
      subst (λ (y : Pointer × T). entry s y.0.0 ≡ Some (y.0.1, y.1) → entry (without_entries gone s) y.0.0 ≡ cond (test y.0 y.1) (Some (y.0.1, y.1)) None) same
      (out_first low last x es gone rising sorts s) stands
  out_there low last (x ∷ es) gone rising (keeps, after, others, asked, is, sorts) s (suc k) e at stands =
      let same : Sorts numbers step f es others last = subst (λ g. Sorts numbers step g es others last) (asked_is after x keeps asked).1 sorts in
      ap (λ ps. entry (without_entries ps s) e.0.0) is ∙ by (λ t here. out_there (x.0.0 + 1) last es others rising.1 same t k e at here) keeps
    where
      by : ((t : ArenaState T) → entry t e.0.0 ≡ Some (e.0.1, e.1) → entry (without_entries others t) e.0.0 ≡ cond (test e.0 e.1) (Some (e.0.1, e.1)) None) → (b : Bool)
          → entry (without_entries (cond b others (x.0 ∷ others)) s) e.0.0 ≡ cond (test e.0 e.1) (Some (e.0.1, e.1)) None
      by later true = later s stands
      by later false =
          later (removed (λ n. n) s x.0.0)
          ((slots-removed (λ n. n) s x.0.0 (removed (λ n. n) s x.0.0) refl).others e.0.0 (λ same. omega (arith, rising_at (x.0.0 + 1) es k e rising.1 at, same)) ∙ stands)

  out_found : (s : ArenaState T) (last : F) (gone : List Pointer) → Sorts numbers step f (entries s.slots) gone last
      → (q : Pointer) → look_up (without_entries gone s).slots q ≡ kept_if test (λ p v. v) q (look_up s.slots q)
  out_found s last gone sorts q = by_entry (entry s q.0) refl
    where
      by_entry : (o : Option (ℕ × T)) → entry s q.0 ≡ o → look_up (without_entries gone s).slots q ≡ kept_if test (λ p v. v) q (look_up s.slots q)
      by_entry None none =
          let stays = out_elsewhere f last (entries s.slots) gone sorts q.0
          (λ k e at here. some_or_none _ (rw (entry_at s.slots e.0 e.1 (at_entry s.slots k e at)) refl) (ap (entry s) here ∙ none)) s in
          ap (option_and_then (value_of_generation q.1)) (stays ∙ none) ∙ sym (ap (λ o. kept_if test (λ p v. v) q (option_and_then (value_of_generation q.1) o)) none)
      by_entry (Some e) is =
          let p : Pointer = (q.0, e.0) in
          let found : look_up s.slots p ≡ Some e.1 = ap (option_and_then (value_of_generation e.0)) is ∙ ap (λ b. cond b (Some e.1) None) (eq_true e.0 e.0 refl) in
          let nth = nth_found s.slots p (rw found refl) in
          let value : nth.0 ≡ e.1 = same_Some _ _ (sym nth.2 ∙ found) in
          let at = entry_of_walk s.slots nth.1 p e.1 nth.3 (nth.4 ∙ ap Some value) in
          let now = out_there 1 last (entries s.slots) gone (rising_indexes 1 (entries s.slots) (keys_rising s.slots)) sorts s nth.1 (p, e.1) at is in
          ap (option_and_then (value_of_generation q.1)) now ∙ looked test (λ p v. v) q.0 e.0 q.1 e.1
          ∙ sym (ap (λ o. kept_if test (λ p v. v) q (option_and_then (value_of_generation q.1) o)) is)

  -- under each pointer is what it found, where the closure keeps that
  pub sorted_found : (raises : ℕ → ℕ) (s t : ArenaState T) (last : F) (gone : List Pointer) → Sorts numbers step f (entries s.slots) gone last
      → IsTouched (ended_entries raises gone s) t → (q : Pointer) → look_up t.slots q ≡ kept_if test (λ p v. v) q (look_up s.slots q)
  sorted_found raises s t last gone sorts is q =
      ap (λ (u : ArenaState T). look_up u.slots q) is.0 ∙ by_gone gone ∙ out_found s last gone sorts q
    where
      by_gone : (ps : List Pointer) → look_up (ended_entries raises ps s).slots q ≡ look_up (without_entries ps s).slots q
      by_gone [] = refl
      by_gone (p ∷ ps) = refl

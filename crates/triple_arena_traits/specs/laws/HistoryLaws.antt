-- Laws of histories: each model call takes every history that fits to one that fits.
use Rattle.std.proofs.Common.{◌≡◌, ◌≢◌, ◌⊎◌, ℕ, zero, suc, ◌+◌, ◌<◌, ◌≤◌, ◌==◌, ◌&&◌, ◌||◌, Bool, true, false, not, List, [], ◌∷◌, ◌++◌, length, Option, Some, None, is_some, IsSome, IsTrue, Result, Ok, Err, OnOk, OnErr, nat_lt, slice_get, take, drop, cond, if◌then◌else◌, refl, sym, ap, subst, ◌∙◌, inl, inr, arith, true≢false}
use Rattle.std.proofs.lemmas.Bool.{cases_eq, cases_Bool, and_parts, or_cases}
use Rattle.std.specs.Option.{option_map}
use Rattle.triple_arena_ptr.specs.Numbers.{Generations, raise, wraps}
use Rattle.triple_arena_ptr.specs.Pointers.{Pointer, is_same}
use Rattle.triple_arena_stack.specs.StackKind.{StackKind}
use Rattle.triple_arena_traits.specs.laws.ItemLaws.{joined, eq_true, eq_false}
use Rattle.triple_arena_traits.specs.Entries.{entry_in, KeepsEntries, look_up}
use Rattle.triple_arena_traits.specs.ArenaState.{ArenaState, entry, arena_len, capacity, with_value, IsWellFormed}
use Rattle.triple_arena_traits.specs.Insertion.{place, next_pointer, inserted}
use Rattle.triple_arena_traits.specs.SlotSteps.{IsTouched}
use Rattle.triple_arena_traits.specs.Ending.{removed, invalidated, cleared}
use Rattle.triple_arena_traits.specs.FreeList.{tidied}
use Rattle.triple_arena_traits.specs.Reallocation.{with_limit, grown}
use Rattle.triple_arena_traits.specs.laws.EntryLaws.{by_case, changes_at, slots-removed, slots-invalidated, slots-cleared, slots-inserted, slots-tidied, slots-grown}
use Rattle.triple_arena_traits.specs.laws.ValueLaws.{keeps_pointers}
use Rattle.triple_arena_traits.specs.laws.WellFormedLaws.{kept-inserted, place_free, counter-removed, live_item, live_counted}
use Rattle.triple_arena_traits.specs.Compression.{closed_up, compressed, raised_if_any, counter_after, wraps_after}
use Rattle.triple_arena_traits.specs.HeldSlots.{held_entry, refill_slots}
use Rattle.triple_arena_traits.specs.Values.{with_values_of}
use Rattle.triple_arena_traits.specs.Walks.{keys}
use Rattle.triple_arena_traits.specs.laws.WalkLaws.{found}
use Rattle.triple_arena_traits.specs.Histories.{has, AreDistinct, ModelCall, insertion, removal, invalidation, clearing, compression, resizing, given_by, ended_by, History, begun_with, and_then, given, ended, remains, followed_by, CountsUp, is_live, Fits, Continues, IsModelCall, AreModelCalls}
use Rattle.triple_arena_traits.specs.laws.PointerListLaws.{has-append, has_head, has_one, one_is, one_not, or_none, same_is, keys_from, false_unless, distinct-append, distinct_last, live_in, live_in_one, live_same, has-keys, distinct-keys}

-- what was given and has not ended, after a call that gave what was not given, and ended what was live
after_call : (g e new gone : Bool) → (new ≡ true → (e ≡ false) × (gone ≡ false)) → (((g && not e) && not gone) || new) ≡ ((g || new) && not (e || gone))
after_call true true true gone h = absurd (true≢false (h refl).0)
after_call true true false gone h = refl
after_call true false true true h = absurd (true≢false (h refl).1)
after_call true false true false h = refl
after_call true false false true h = refl
after_call true false false false h = refl
after_call false true true gone h = absurd (true≢false (h refl).0)
after_call false true false gone h = refl
after_call false false true true h = absurd (true≢false (h refl).1)
after_call false false true false h = refl
after_call false false false gone h = refl

given_and_not_ended : (g e : Bool) → (g && not e) ≡ false → e ≡ false → g ≡ false
given_and_not_ended true true h k = k
given_and_not_ended true false h k = h
given_and_not_ended false e h k = refl

kept : (l g n : Bool) → g ≡ false → n ≡ false → l ≡ ((l && not g) || n)
kept l true n e h = absurd (true≢false e)
kept l false true e h = absurd (true≢false h)
kept true false false e h = refl
kept false false false e h = refl

gone_and_new : (l g n : Bool) → l ≡ g → n ≡ ((l && not g) || n)
gone_and_new true true n e = refl
gone_and_new true false n e = absurd (true≢false e)
gone_and_new false g n e = refl

ended_not : (g e : Bool) → e ≡ true → (g && not e) ≡ false
ended_not true true h = refl
ended_not false e h = refl
ended_not true false h = absurd (true≢false (sym h))

or_first : (a b : Bool) → a ≡ true → (a || b) ≡ true
or_first true b h = refl
or_first false b h = absurd (true≢false (sym h))

-- what has ended has ended for good
ended_stays : (p : Pointer) (h : History) (calls : List ModelCall) → has (ended h) p ≡ true → remains (followed_by h calls) p ≡ false
ended_stays p h [] e = ended_not (has (given h) p) (has (ended h) p) e
ended_stays p h (call ∷ calls) e =
    ended_stays p (and_then h call) calls (has-append (ended h) (ended_by call) p ∙ or_first (has (ended h) p) (has (ended_by call) p) e)

module _ {T : Type 0} where
  -- what a call does to the pointers of an arena, which is all that a history needs to know of it: it gives the first ones,
  -- which were not live or are of a generation that is new, and ends the others, which were live; every other stays as it is
  pub record MovesPointers (s : ArenaState T) (new gone : List Pointer) (t : ArenaState T) : Type 0 where
    pub live : (p : Pointer) → is_live t p ≡ ((is_live s p && not (has gone p)) || has new p)
    pub once : AreDistinct new
    pub fresh : (p : Pointer) → has new p ≡ true → (p.1 ≡ t.counter) × ((is_live s p ≡ false) ⊎ (s.counter < t.counter))
    pub ends : (p : Pointer) → has gone p ≡ true → (is_live s p ≡ true) × (s.counter < t.counter)
    pub rises : s.counter ≤ t.counter

  -- such a call takes every history that fits to one that fits
  pub Continues-moved : (s t : ArenaState T) (call : ModelCall) → MovesPointers s (given_by call) (ended_by call) t → Continues Fits s (call ∷ []) t
  Continues-moved s t call moves h fits =
      record {
        given_once = distinct-append (given h) (given_by call) fits.given_once moves.once not_given;
        live = live;
        given_by_now = λ p e. below p (or_cases (has (given h) p) (has (given_by call) p) (sym (has-append (given h) (given_by call) p) ∙ e));
        ended_before = λ p e. before p (or_cases (has (ended h) p) (has (ended_by call) p) (sym (has-append (ended h) (ended_by call) p) ∙ e));
      }
    where
      was_given : (p : Pointer) → is_live s p ≡ true → has (given h) p ≡ true
      was_given p e = (and_parts (has (given h) p) (not (has (ended h) p)) (sym (fits.live p) ∙ e)).0

      not_ended : (p : Pointer) → has (given_by call) p ≡ true → has (ended h) p ≡ false
      not_ended p new = false_unless (has (ended h) p) (λ e. omega (arith, fits.ended_before p e, moves.rises, moves.fresh p new))

      not_given : (p : Pointer) → has (given_by call) p ≡ true → has (given h) p ≡ false
      not_given p new =
          elim (moves.fresh p new).1 [
            | inl dead ↦ given_and_not_ended (has (given h) p) (has (ended h) p) (sym (fits.live p) ∙ dead) (not_ended p new)
            | inr raised ↦ false_unless (has (given h) p) (λ e. omega (arith, fits.given_by_now p e, raised, (moves.fresh p new).0))
          ]

      not_gone : (p : Pointer) → has (given_by call) p ≡ true → has (ended_by call) p ≡ false
      not_gone p new =
          false_unless (has (ended_by call) p) (λ e. true≢false (sym (was_given p (moves.ends p e).0) ∙ not_given p new))

      live : (p : Pointer) → is_live t p ≡ remains (and_then h call) p
      live p =
          moves.live p
          ∙ ap (λ b. (b && not (has (ended_by call) p)) || has (given_by call) p) (fits.live p)
          ∙ after_call (has (given h) p) (has (ended h) p) (has (given_by call) p) (has (ended_by call) p) (λ new. (not_ended p new, not_gone p new))
          ∙ sym (ap (λ b. b && not (has (ended (and_then h call)) p)) (has-append (given h) (given_by call) p) ∙ ap (λ b. (has (given h) p || has (given_by call) p) && not b) (has-append (ended h) (ended_by call) p))

      below : (p : Pointer) → (has (given h) p ≡ true) ⊎ (has (given_by call) p ≡ true) → p.1 ≤ t.counter
      below p (inl old) = omega (arith, fits.given_by_now p old, moves.rises)
      below p (inr new) = omega (arith, moves.fresh p new)

      before : (p : Pointer) → (has (ended h) p ≡ true) ⊎ (has (ended_by call) p ≡ true) → p.1 < t.counter
      before p (inl old) = omega (arith, fits.ended_before p old, moves.rises)
      before p (inr gone) = omega (arith, fits.given_by_now p (was_given p (moves.ends p gone).0), moves.ends p gone)

  -- where the same pointers are live, and the counter is no lower, whatever history fitted fits
  pub Continues-none : (s t : ArenaState T) → ((p : Pointer) → is_live t p ≡ is_live s p) → s.counter ≤ t.counter → Continues Fits s [] t
  Continues-none s t same rises h fits =
      record {
        given_once = fits.given_once;
        live = λ p. same p ∙ fits.live p;
        given_by_now = λ p e. omega (arith, fits.given_by_now p e, rises);
        ended_before = λ p e. omega (arith, fits.ended_before p e, rises);
      }

  -- what leaves every entry, and the counter, moves no pointer
  kept_live : (s t : ArenaState T) → KeepsEntries s.slots t.slots → (p : Pointer) → is_live t p ≡ is_live s p
  kept_live s t same p = ap (live_in p.1) (same p.0)

  pub Continues-kept : (s t : ArenaState T) → KeepsEntries s.slots t.slots → t.counter ≡ s.counter → Continues Fits s [] t
  Continues-kept s t same counter = Continues-none s t (kept_live s t same) (omega (arith, counter))

  -- another value leaves every pointer
  live_mapped : (h : ℕ) (o : Option (ℕ × T)) (w : T) → live_in h (option_map (λ e. (e.0, w)) o) ≡ live_in h o
  live_mapped h None w = refl
  live_mapped h (Some e) w = by (e.0 == h)
    where
      by : (b : Bool) → is_some (cond b (Some w) None) ≡ is_some (cond b (Some e.1) None)
      by true = refl
      by false = refl

  pub Continues-written : (s : ArenaState T) (i : ℕ) (w : T) → Continues Fits s [] (with_value s i w)
  Continues-written s i w =
      let changes = changes_at s.slots i (option_map (λ e. (e.0, w)) (entry s i)) (λ none. ap (λ slot. option_map (λ (e : ℕ × T). (e.0, w)) (joined slot)) none) in
      Continues-none s (with_value s i w)
      (λ p. elim (cases_eq p.0 i) [
        | inl here ↦ ap (live_in p.1) (ap (entry (with_value s i w)) here ∙ changes.there) ∙ live_mapped p.1 (entry s i) w ∙ ap (live_in p.1) (sym (ap (entry s) here))
        | inr other ↦ ap (live_in p.1) (changes.others p.0 other)
      ])
      (omega arith)

  pub Continues-values_of : (s w : ArenaState T) → Continues Fits s [] (with_values_of s w)
  Continues-values_of s w = Continues-none s (with_values_of s w) (keeps_pointers s w).pointers (omega arith)

  module _ {I : Type 0} (held : T → List I) (refill : T → List I → T) where
    refilled_at : (h : ℕ) (xs : List (Option (ℕ × T))) (items : List I) (k : ℕ) → live_in h (joined (slice_get (refill_slots held refill xs items) k)) ≡ live_in h (joined (slice_get xs k))
    refilled_at h [] items k = refl
    refilled_at h (None ∷ xs) items zero = refl
    refilled_at h (Some e ∷ xs) items zero = live_mapped h (Some e) (refill e.1 (take (length (held e.1)) items))
    refilled_at h (o ∷ xs) items (suc k) = refilled_at h xs (drop (length (held_entry held refill o)) items) k

    refilled_live : (h : ℕ) (xs : List (Option (ℕ × T))) (items : List I) (i : ℕ) → live_in h (entry_in (refill_slots held refill xs items) i) ≡ live_in h (entry_in xs i)
    refilled_live h xs items zero = refl
    refilled_live h xs items (suc k) = refilled_at h xs items k

    pub Continues-refilled : (s : ArenaState T) (items : List I) → Continues Fits s [] (record s { slots = refill_slots held refill s.slots items })
    Continues-refilled s items = Continues-none s (record s { slots = refill_slots held refill s.slots items }) (λ p. refilled_live p.1 s.slots items p.0) (omega arith)

  -- a pointer finds something exactly if it was given and has not ended
  pub found_as_given : (s : ArenaState T) (p : Pointer) (value : Option T) → value ≡ look_up s.slots p → (h : History) → Fits h s → is_some value ≡ remains h p
  found_as_given s p value is h fits = ap is_some is ∙ fits.live p

  pub moves-resized : (s t : ArenaState T) → KeepsEntries s.slots t.slots → t.counter ≡ s.counter → MovesPointers s [] [] t
  moves-resized s t same counter =
      record {
        live = λ p. kept_live s t same p ∙ kept (is_live s p) false false refl refl;
        once = tt;
        fresh = λ p e. absurd (true≢false (sym e));
        ends = λ p e. absurd (true≢false (sym e));
        rises = omega (arith, counter);
      }

  -- slots that were touched make no difference
  pub Continues-touched : (s t new : ArenaState T) (calls : List ModelCall) → IsTouched t new → Continues Fits s calls t → Continues Fits s calls new
  Continues-touched s t new calls same goes h fits =
      let f = goes h fits in
      let counted : Fits (followed_by h calls) (record t { steps = new.steps }) = record { given_once = f.given_once; live = f.live; given_by_now = f.given_by_now; ended_before = f.ended_before } in
      subst (Fits (followed_by h calls)) (sym same.0) counted

  pub Continues-resized : (s t : ArenaState T) → KeepsEntries s.slots t.slots → t.counter ≡ s.counter → Continues Fits s (resizing ∷ []) t
  Continues-resized s t same counter = Continues-moved s t resizing (moves-resized s t same counter)

  pub Continues-tidied : (s t : ArenaState T) → t ≡ tidied s → Continues Fits s (resizing ∷ []) t
  Continues-tidied s t is = Continues-resized s t (slots-tidied s t is) (ap (λ a. a.counter) is)

  -- a limit that is set, or refused
  pub Continues-limited : {A E : Type 0} (r : Result A E) (s t : ArenaState T) (x : ℕ) → OnOk r (t ≡ with_limit s x) → OnErr r (t ≡ tidied s) → Continues Fits s (resizing ∷ []) t
  Continues-limited (Err e) s t x done refused = Continues-tidied s t refused
  Continues-limited (Ok done) s t x is refused = rw is (by (nat_lt x (capacity s)))
    where
      by : (b : Bool) → Continues Fits s (resizing ∷ []) (record (cond b (tidied s) s) { limit = Some x })
      by true = Continues-resized s (record (tidied s) { limit = Some x }) (slots-tidied s (tidied s) refl) refl
      by false = Continues-resized s (record s { limit = Some x }) (λ i. refl) refl

  -- insertion gives the next pointer
  pub moves-inserted : (s : ArenaState T) (v : T) → IsWellFormed s → MovesPointers s (next_pointer s ∷ []) [] (inserted s v)
  moves-inserted s v well =
      let changes = slots-inserted s v well in
      let same = (kept-inserted s v).0 in
      record {
        live = λ p. elim (cases_eq p.0 (place s)) [
          | inl here ↦
              ap (live_in p.1) (ap (entry (inserted s v)) here ∙ changes.there) ∙ live_in_one p (place s) s.counter v here ∙ sym (has_one p (next_pointer s))
              ∙ gone_and_new (is_live s p) false (has (next_pointer s ∷ []) p) (ap (live_in p.1) (ap (entry s) here ∙ place_free s well))
          | inr other ↦
              ap (live_in p.1) (changes.others p.0 other) ∙ kept (is_live s p) false (has (next_pointer s ∷ []) p) refl (one_not p (next_pointer s) other)
        ];
        once = (refl, tt);
        fresh = λ p e.
            let is = one_is p (next_pointer s) e in
            (ap (λ (q : Pointer). q.1) is ∙ sym same, inl (ap (λ (q : Pointer). is_live s q) is ∙ ap (live_in s.counter) (place_free s well)));
        ends = λ p e. absurd (true≢false (sym e));
        rises = omega (arith, same);
      }

  pub Continues-inserted : (s t : ArenaState T) (p : Pointer) (v : T) → IsWellFormed s → p ≡ next_pointer s → t ≡ inserted s v → Continues Fits s (insertion p ∷ []) t
  Continues-inserted s t p v well pointer is = Continues-moved s t (insertion p) (rw (pointer, is) (moves-inserted s v well))

  -- and so it does after a growth, which moves none
  pub Continues-grown : (kind : StackKind) (s m : ArenaState T) → m ≡ grown kind s → Continues Fits s [] m
  Continues-grown kind s m is =
      Continues-kept s m (λ i. ap (λ a. entry a i) is ∙ slots-grown kind s i) (ap (λ a. a.counter) is ∙ by_case (λ a. a.counter) (arena_len s == capacity s) _ _ s.counter refl refl)

  -- where a pointer is live, there is an entry
  live_some : (s : ArenaState T) (p : Pointer) → is_live s p ≡ true → arena_len s ≢ 0
  live_some s p live none =
      let at = found s.slots p live in
      omega (arith, none, live_counted s p.0 (p.1, at.value) (live_item s p.0 (p.1, at.value) at.entry))

  dead : (s : ArenaState T) (p : Pointer) → arena_len s ≡ 0 → is_live s p ≡ false
  dead s p none = false_unless (is_live s p) (λ live. live_some s p live none)

  -- the pointers of entries that were closed up have the new generation
  closed_up_generation : (n at : ℕ) (values : List T) (p : Pointer) → has (keys_from at (closed_up n values)) p ≡ true → p.1 ≡ n
  closed_up_generation n at [] p e = absurd (true≢false (sym e))
  closed_up_generation n at (v ∷ values) p e =
      elim (cases_Bool (is_same p (at, n))) [
        | inl so ↦ ap (λ (q : Pointer). q.1) (same_is p (at, n) so)
        | inr differs ↦ closed_up_generation n (at + 1) values p (sym (or_none _ _ differs) ∙ e)
      ]

  -- the history of an arena's own pointers, where no live generation is above the counter
  pub Fits-keys : (s : ArenaState T) → ((p : Pointer) → IsTrue (is_live s p) → p.1 ≤ s.counter) → Fits (begun_with (keys s.slots)) s
  Fits-keys s below =
      record {
        given_once = distinct-keys s;
        live = λ p. sym (has-keys s p) ∙ and_true (has (keys s.slots) p);
        given_by_now = λ p e. below p (sym (has-keys s p) ∙ e);
        ended_before = λ p e. absurd (true≢false (sym e));
      }
    where
      and_true : (b : Bool) → b ≡ (b && not false)
      and_true true = refl
      and_true false = refl

  module _ (raise : ℕ → ℕ) (s : ArenaState T) where
    -- removal ends the pointer
    pub moves-removed : (q : Pointer) → s.counter < raise s.counter → is_live s q ≡ true → MovesPointers s [] (q ∷ []) (removed raise s q.0)
    moves-removed q up live =
        let t : ArenaState T = removed raise s q.0 in
        let changes = slots-removed raise s q.0 t refl in
        let raised : t.counter ≡ raise s.counter = counter-removed raise s q.0 in
        record {
          live = λ p. elim (cases_eq p.0 q.0) [
            | inl here ↦
                ap (live_in p.1) (ap (entry t) here ∙ changes.there) ∙ gone_and_new (is_live s p) (has (q ∷ []) p) false (live_same s p q live here ∙ sym (has_one p q))
            | inr other ↦
                ap (live_in p.1) (changes.others p.0 other) ∙ kept (is_live s p) (has (q ∷ []) p) false (one_not p q other) refl
          ];
          once = tt;
          fresh = λ p e. absurd (true≢false (sym e));
          ends = λ p e. (ap (is_live s) (one_is p q e) ∙ live, omega (arith, raised, up));
          rises = omega (arith, raised, up);
        }

    -- invalidation ends the pointer, and gives its index under the raised counter
    pub moves-invalidated : (q : Pointer) → s.counter < raise s.counter → is_live s q ≡ true → MovesPointers s ((q.0, raise s.counter) ∷ []) (q ∷ []) (invalidated raise s q.0)
    moves-invalidated q up live =
        let t : ArenaState T = invalidated raise s q.0 in
        let changes = slots-invalidated raise s q.0 t refl in
        let old = found s.slots q live in
        let r : Pointer = (q.0, raise s.counter) in
        let there : entry t q.0 ≡ Some (raise s.counter, old.value) = changes.there ∙ ap (option_map (λ (e : ℕ × T). (raise s.counter, e.1))) old.entry in
        record {
          live = λ p. elim (cases_eq p.0 q.0) [
            | inl here ↦
                ap (live_in p.1) (ap (entry t) here ∙ there) ∙ live_in_one p q.0 (raise s.counter) old.value here ∙ sym (has_one p r)
                ∙ gone_and_new (is_live s p) (has (q ∷ []) p) (has (r ∷ []) p) (live_same s p q live here ∙ sym (has_one p q))
            | inr other ↦
                ap (live_in p.1) (changes.others p.0 other) ∙ kept (is_live s p) (has (q ∷ []) p) (has (r ∷ []) p) (one_not p q other) (one_not p r other)
          ];
          once = (refl, tt);
          fresh = λ p e. (ap (λ (x : Pointer). x.1) (one_is p r e), inr (omega (arith, up)));
          ends = λ p e. (ap (is_live s) (one_is p q e) ∙ live, omega (arith, up));
          rises = omega (arith, up);
        }

    -- the counter of an arena that is cleared or compressed, which is raised where there is an entry
    raised_for : (p : Pointer) → has (keys s.slots) p ≡ true → cond (arena_len s == 0) s.counter (raise s.counter) ≡ raise s.counter
    raised_for p e =
        ap (λ b. cond b s.counter (raise s.counter)) (eq_false (arena_len s) 0 (live_some s p (sym (has-keys s p) ∙ e)))

    raised_rises : (arena_len s ≢ 0 → s.counter < raise s.counter) → s.counter ≤ cond (arena_len s == 0) s.counter (raise s.counter)
    raised_rises up =
        elim (cases_eq (arena_len s) 0) [
          | inl none ↦ rw (eq_true (arena_len s) 0 none) (omega arith)
          | inr some ↦ rw (eq_false (arena_len s) 0 some) (omega (arith, up some))
        ]

    -- clearing ends every pointer
    pub moves-cleared : (arena_len s ≢ 0 → s.counter < raise s.counter) → MovesPointers s [] (keys s.slots) (cleared raise s)
    moves-cleared up =
        record {
          live = λ p. ap (live_in p.1) (slots-cleared raise s (cleared raise s) refl p.0) ∙ gone_and_new (is_live s p) (has (keys s.slots) p) false (sym (has-keys s p));
          once = tt;
          fresh = λ p e. absurd (true≢false (sym e));
          ends = λ p e.
              let live = sym (has-keys s p) ∙ e in
              (live, omega (arith, raised_for p e, up (live_some s p live)));
          rises = raised_rises up;
        }

    -- compression ends every pointer, and gives those of the first indexes under the raised counter
    pub moves-compressed : (values : List T) → length values ≡ arena_len s → (arena_len s ≢ 0 → s.counter < raise s.counter) → MovesPointers s (keys (closed_up (raised_if_any raise s) values)) (keys s.slots) (compressed s (raised_if_any raise s) values)
    moves-compressed values len up =
        let t : ArenaState T = compressed s (raised_if_any raise s) values in
        record {
          live = λ p. sym (has-keys t p) ∙ gone_and_new (is_live s p) (has (keys s.slots) p) (has (keys t.slots) p) (sym (has-keys s p));
          once = distinct-keys t;
          fresh = λ p e.
              let some = closed_up_some t.counter values p e in
              (closed_up_generation t.counter 1 values p e, inr (rw (eq_false (arena_len s) 0 (λ none. some (len ∙ none))) (up (λ none. some (len ∙ none)))));
          ends = λ p e.
              let live = sym (has-keys s p) ∙ e in
              (live, omega (arith, raised_for p e, up (live_some s p live)));
          rises = raised_rises up;
        }
      where
        closed_up_some : (n : ℕ) (vs : List T) (p : Pointer) → has (keys (closed_up n vs)) p ≡ true → length vs ≢ 0
        closed_up_some n [] p e none = true≢false (sym e)
        closed_up_some n (v ∷ vs) p e none = omega (arith, none)

  -- after a compression with a reset, the history of the pointers that stand there fits
  pub Fits-compressed : (s t : ArenaState T) (counter : ℕ) (values : List T) → t ≡ compressed s counter values → Fits (begun_with (keys t.slots)) t
  Fits-compressed s t counter values is =
      rw is (Fits-keys (compressed s counter values) (λ p live. omega (arith, closed_up_generation counter 1 values p (has-keys (compressed s counter values) p ∙ live))))

  -- each model call that does not wrap takes every history that fits to one that fits
  pub Continues-call : (s : ArenaState T) (call : ModelCall) (t : ArenaState T) → IsModelCall s call t → Continues Fits s (call ∷ []) t
  Continues-call s (insertion p) t call = Continues-inserted s t p call.0 call.1 call.2 call.3
  Continues-call s (removal p) t call =
      Continues-moved s t (removal p) (rw call.1 (moves-removed (λ n. n + 1) s p (omega arith) call.0))
  Continues-call s (invalidation p q) t call =
      Continues-moved s t (invalidation p q) (rw (call.1, call.2) (moves-invalidated (λ n. n + 1) s p (omega arith) call.0))
  Continues-call s (clearing ps) t call =
      Continues-moved s t (clearing ps) (rw (call.0, call.1) (moves-cleared (λ n. n + 1) s (λ some. omega arith)))
  Continues-call s (compression ps qs) t call =
      Continues-moved s t (compression ps qs) (rw (call.2, call.3, call.4) (moves-compressed (λ n. n + 1) s call.0 call.1 (λ some. omega arith)))
  Continues-call s resizing t call = Continues-resized s t call.0 call.1

  -- and so do model calls one after another
  pub Continues-calls : (s : ArenaState T) (calls : List ModelCall) (t : ArenaState T) → AreModelCalls s calls t → Continues Fits s calls t
  Continues-calls s [] t run h fits = rw run fits
  Continues-calls s (call ∷ calls) t run h fits =
      Continues-calls run.0 calls t run.2 (and_then h call) (Continues-call s call run.0 run.1 h fits)

  pub Continues-append : (s m t : ArenaState T) (a b : List ModelCall) → Continues Fits s a m → Continues Fits m b t → Continues Fits s (a ++ b) t
  Continues-append s m t a b first second h fits = subst (λ after. Fits after t) (sym (followed-append h a b)) (second (followed_by h a) (first h fits))
    where
      followed-append : (h : History) (a b : List ModelCall) → followed_by h (a ++ b) ≡ followed_by (followed_by h a) b
      followed-append h [] b = refl
      followed-append h (call ∷ a) b = followed-append (and_then h call) a b

  -- the empty history fits every empty arena
  pub Fits-empty : (s : ArenaState T) → arena_len s ≡ 0 → Fits (begun_with []) s
  Fits-empty s none =
      record {
        given_once = tt;
        live = λ p. dead s p none;
        given_by_now = λ p e. absurd (true≢false (sym e));
        ended_before = λ p e. absurd (true≢false (sym e));
      }

  -- and the pointer of an insertion was not given before
  pub new_pointer : (h : History) (p : Pointer) (s : ArenaState T) → Fits (and_then h (insertion p)) s → has (given h) p ≡ false
  new_pointer h p s fits = distinct_last (given h) p fits.given_once

  -- what has ended is live no more
  pub gone_for_good : (h : History) (calls : List ModelCall) (t : ArenaState T) (p : Pointer) → IsTrue (has (ended h) p) → Fits (followed_by h calls) t → is_live t p ≡ false
  gone_for_good h calls t p e fits = fits.live p ∙ ended_stays p h calls e

  -- a pointer of a generation below the counter of an empty arena is never live after it
  pub never_live : (s : ArenaState T) (calls : List ModelCall) (t : ArenaState T) (p : Pointer) → arena_len s ≡ 0 → p.1 < s.counter → Continues Fits s calls t → is_live t p ≡ false
  never_live s calls t p none below continues =
      let h : History = and_then (begun_with (p ∷ [])) (removal p) in
      let fits : Fits h s =
      record {
        given_once = (refl, tt);
        live = λ q. dead s q none ∙ given_and_ended (has (p ∷ []) q);
        given_by_now = λ q e. omega (arith, below, ap (λ (x : Pointer). x.1) (one_is q p e));
        ended_before = λ q e. omega (arith, below, ap (λ (x : Pointer). x.1) (one_is q p e));
      } in
      (continues h fits).live p ∙ ended_stays p h calls (has_head p [])
    where
      given_and_ended : (b : Bool) → false ≡ (b && not b)
      given_and_ended true = refl
      given_and_ended false = refl

-- where generations count and a raise does not wrap, it gives a greater one
up : (generations : Generations) (n : ℕ) → CountsUp generations (wraps generations n) → n < raise generations n
up generations n counts = by generations.counting counts.0 counts.1
  where
    by : (counting : Bool) → counting ≡ true → (counting && (n == generations.greatest)) ≡ false → n < cond counting (if n == generations.greatest then 2 else n + 1) n
    by true counts quiet = rw quiet (omega arith)
    by false counts quiet = absurd (true≢false (sym counts))

module _ {T : Type 0} (generations : Generations) (s t : ArenaState T) where
  -- the same as the calls state it
  pub Continues-removed : (p : Pointer) → CountsUp generations (wraps generations s.counter) → IsSome (look_up s.slots p) → t ≡ removed (raise generations) s p.0 → Continues Fits s (removal p ∷ []) t
  Continues-removed p counts live is =
      Continues-moved s t (removal p) (rw is (moves-removed (raise generations) s p (up generations s.counter counts) live))

  pub Continues-removed_inx : (i generation : ℕ) (value : T) → entry s i ≡ Some (generation, value) → CountsUp generations (wraps generations s.counter) → (IsSome (entry s i) → t ≡ removed (raise generations) s i) → Continues Fits s (removal (i, generation) ∷ []) t
  Continues-removed_inx i generation value here counts is =
      Continues-removed (i, generation) counts (rw (here, eq_true generation generation refl) refl) (is (rw here refl))

  pub Continues-invalidated : (p : Pointer) → CountsUp generations (wraps generations s.counter) → IsSome (look_up s.slots p) → t ≡ invalidated (raise generations) s p.0 → Continues Fits s (invalidation p (p.0, raise generations s.counter) ∷ []) t
  Continues-invalidated p counts live is =
      Continues-moved s t (invalidation p (p.0, raise generations s.counter)) (rw is (moves-invalidated (raise generations) s p (up generations s.counter counts) live))

  -- where a raise for the entries does not wrap
  up_for : CountsUp generations (cond (arena_len s == 0) false (wraps generations s.counter)) → arena_len s ≢ 0 → s.counter < raise generations s.counter
  up_for counts some =
      up generations s.counter (counts.0, sym (ap (λ b. cond b false (wraps generations s.counter)) (eq_false (arena_len s) 0 some)) ∙ counts.1)

  pub Continues-cleared : CountsUp generations (cond (arena_len s == 0) false (wraps generations s.counter)) → t ≡ cleared (raise generations) s → Continues Fits s (clearing (keys s.slots) ∷ []) t
  Continues-cleared counts is =
      Continues-moved s t (clearing (keys s.slots)) (rw is (moves-cleared (raise generations) s (up_for counts)))

  pub Continues-compressed : (first : ℕ) (reset : Bool) (values : List T) → reset ≡ false → CountsUp generations (wraps_after (wraps generations) reset s) → length values ≡ arena_len s → t ≡ compressed s (counter_after first (raise generations) reset s) values → Continues Fits s (compression (keys s.slots) (keys t.slots) ∷ []) t
  Continues-compressed first true values kept counts len is = absurd (true≢false kept)
  Continues-compressed first false values kept counts len is =
      Continues-moved s t (compression (keys s.slots) (keys t.slots)) (rw is (moves-compressed (raise generations) s values len (up_for counts)))

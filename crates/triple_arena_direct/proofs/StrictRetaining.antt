-- One step of a walk that keeps or takes out entries, and the raise after it.
use Rattle.std.proofs.Common.{◌≡◌, ◌≢◌, ℕ, ◌-◌, ◌==◌, Bool, true, false, not, cond, List, [], ◌∷◌, ◌++◌, length, take, Some, None, is_some, IsSome, refl, sym, ap, subst, ◌∙◌, arith, append_assoc, append-nil, true≢false}
use Rattle.std.specs.Borrow.{Bor}
use Rattle.triple_arena_ptr.specs.Pointers.{Pointer}
use Rattle.triple_arena_traits.specs.Items.{with_item}
use Rattle.triple_arena_traits.specs.Entries.{look_up}
use Rattle.triple_arena_traits.specs.ArenaState.{ArenaState, slot_count, arena_len}
use Rattle.triple_arena_traits.specs.Ending.{removed}
use Rattle.triple_arena_traits.specs.SlotSteps.{IsTouched}
use Rattle.triple_arena_traits.specs.Compression.{raised_if_any}
use Rattle.triple_arena_traits.specs.Walks.{Stand, Steps, IsAtFirst, entries, entries_ahead}
use Rattle.triple_arena_traits.specs.laws.EntryLaws.{by_case}
use Rattle.triple_arena_traits.specs.laws.ItemLaws.{eq_false}
use Rattle.triple_arena_traits.specs.laws.WalkLaws.{ahead_taken, ahead_taken_out, ahead_none, ahead_first, forward_stays, length-entries}
use Rattle.triple_arena_traits.specs.laws.WellFormedLaws.{steps-removed}
use Rattle.triple_arena.specs.laws.TouchedLaws.{removed_slots}
use Rattle.triple_arena_traits.specs.Histories.{clearing, is_live}
use Rattle.triple_arena_ptr.specs.Numbers.{Generations, raise}
use Rattle.triple_arena_stack.specs.StackKind.{StackKind}
use Rattle.triple_arena_direct.specs.Gone.{IsUpToCounter}
use Rattle.triple_arena_direct.specs.StrictAnswers.{is_exhausted_for_any}
use Rattle.triple_arena_direct.specs.StrictCalls.{IsStrictStep, to_retain}
use Rattle.triple_arena_direct.specs.StrictRetain.{Sorts, is_any, without_entries, ended_entries, emptied, pointers_lost}
use Rattle.triple_arena_direct.specs.laws.StrictRetainLaws.{kept-without, kept-ended, counter-without}
use Rattle.triple_arena_direct.proofs.StrictAnswers.{step_done}

any_last : {A : Type 0} (xs : List A) (x : A) → true ≡ is_any (xs ++ x ∷ [])
any_last [] x = refl
any_last (y ∷ xs) x = refl

module _ {T : Type 0} where
  steps_of : (raises : ℕ → ℕ) (s : ArenaState T) (i : ℕ) → (removed raises s i).steps ≡ s.steps
  steps_of raises s i = by_case (λ t. t.steps) (i == slot_count s) _ _ s.steps refl refl

  -- a removal whose raise was taken back
  pub taken_back : (raises : ℕ → ℕ) (s t : ArenaState T) (i n : ℕ) → IsTouched (removed raises s i) t → n ≡ s.counter → IsTouched (removed (λ m. m) s i) (record t { counter = n })
  taken_back raises s t i n is same = (
    ap (λ (u : ArenaState T). record u { counter = n }) is.0 ∙ by_test (i == slot_count s),
    omega (arith, is.1, steps_of raises s i, steps_of (λ m. m) s i),
  )
    where
      by_test : (b : Bool) → ◌≡◌ {A = ArenaState T} (record (cond b (record s { slots = take (slot_count s - 1) s.slots; counter = raises s.counter }) (record s { slots = with_item s.slots i None; counter = raises s.counter; free = i ∷ s.free })) { steps = t.steps; counter = n }) (record (cond b (record s { slots = take (slot_count s - 1) s.slots; counter = s.counter }) (record s { slots = with_item s.slots i None; counter = s.counter; free = i ∷ s.free })) { steps = t.steps })
      by_test true = rw same refl
      by_test false = rw same refl

  -- a removal after slots were touched
  touched_removed : (s t u : ArenaState T) (i : ℕ) → IsTouched s t → IsTouched (removed (λ m. m) t i) u → IsTouched (removed (λ m. m) s i) u
  touched_removed s t u i first second = (
    second.0 ∙ ap (λ (z : ArenaState T). record (removed (λ m. m) z i) { steps = u.steps }) first.0 ∙ steps-removed (λ m. m) s t.steps u.steps i,
    omega (arith, steps_of (λ m. m) s i, steps_of (λ m. m) t i, first.1, second.1),
  )

  without_last : (gone : List Pointer) (q : Pointer) (s : ArenaState T) → without_entries (gone ++ q ∷ []) s ≡ removed (λ m. m) (without_entries gone s) q.0
  without_last [] q s = refl
  without_last (p ∷ ps) q s = without_last ps q (removed (λ m. m) s p.0)

  -- the counter of an arena that entries were taken out of
  pub counter_kept : (gone : List Pointer) (s t : ArenaState T) → IsTouched (without_entries gone s) t → t.counter ≡ s.counter
  counter_kept gone s t is = ap (λ (u : ArenaState T). u.counter) is.0 ∙ counter-without gone s

  -- what is left, once all is dropped
  pub emptied_removed : (s t : ArenaState T) (i : ℕ) → IsTouched (removed (λ m. m) s i) t → IsTouched (emptied s) (emptied t)
  emptied_removed s t i is = (ap emptied is.0 ∙ by_test (i == slot_count s), omega (arith, is.1, steps_of (λ m. m) s i))
    where
      by_test : (b : Bool) → ◌≡◌ {A = ArenaState T} (emptied (record (cond b (record s { slots = take (slot_count s - 1) s.slots; counter = s.counter }) (record s { slots = with_item s.slots i None; counter = s.counter; free = i ∷ s.free })) { steps = t.steps })) (record (emptied s) { steps = t.steps })
      by_test true = refl
      by_test false = refl

  -- no entry comes to be of a generation above the counter
  pub up_to_out : (s t : ArenaState T) (i : ℕ) → IsTouched (removed (λ m. m) s i) t → IsUpToCounter s → IsUpToCounter t
  up_to_out s t i is up_to q live =
      let same : look_up t.slots q ≡ look_up (without_entries ((i, 0) ∷ []) s).slots q = ap (λ (u : ArenaState T). look_up u.slots q) is.0 in
      let there : is_live (without_entries ((i, 0) ∷ []) s) q ≡ true = sym (ap is_some same) ∙ live in
      let was : is_live s q ≡ true = sym (ap is_some (kept-without ((i, 0) ∷ []) s q there)) ∙ there in
      omega (arith, up_to q was, ap (λ (u : ArenaState T). u.counter) is.0, counter-without ((i, 0) ∷ []) s)

  -- the counter is raised, if there is an entry
  pub raised_any : (raises : ℕ → ℕ) (s t : ArenaState T) → t ≡ cond (not (arena_len s == 0)) (record s { counter = raises s.counter }) s → t ≡ record s { counter = raised_if_any raises s }
  raised_any raises s t is = is ∙ by (arena_len s == 0)
    where
      by : (b : Bool) → ◌≡◌ {A = ArenaState T} (cond (not b) (record s { counter = raises s.counter }) s) (record s { counter = cond b s.counter (raises s.counter) })
      by true = refl
      by false = refl

  -- what a walk that ended the others is to callers
  module _ (kind : StackKind) (generations : Generations) (s t : ArenaState T) (gone : List Pointer) (is : IsTouched (ended_entries (raise generations) gone s) t) where
    pub retained_step : is_exhausted_for_any generations s ≡ false → IsStrictStep kind generations s (to_retain gone) (clearing (pointers_lost s t) ∷ []) t
    retained_step allowed =
        step_done s t (ended_entries (raise generations) gone s) _ (is_exhausted_for_any generations s) (clearing (pointers_lost s t) ∷ []) allowed
        (ap (λ (u : ArenaState T). clearing (pointers_lost s u) ∷ []) is.0) is

    pub retained_kept : (q : Pointer) → IsSome (look_up t.slots q) → look_up t.slots q ≡ look_up s.slots q
    retained_kept q live =
        let same : look_up t.slots q ≡ look_up (ended_entries (raise generations) gone s).slots q = ap (λ (u : ArenaState T). look_up u.slots q) is.0 in
        same ∙ kept-ended (raise generations) gone s q (sym (ap is_some same) ∙ live)

module _ {P T F : Type 0} (numbers : P → Pointer) (step : F → P → Bor T → Bool → F → Type 0) where
  -- how far such a walk has come: these were taken out, and what calls at the entries ahead take out comes after them
  pub record Sorted (start : F) (s : ArenaState T) (b : Stand) (now : ArenaState T) (f : F) (ended : Bool) : Type 0 where
    pub forward : b.reverse ≡ false
    pub gone : List Pointer
    pub state : IsTouched (without_entries gone s) now
    pub told : ended ≡ is_any gone
    pub goes_on : (more : List Pointer) (last : F) → Sorts numbers step f (entries_ahead b now.slots) more last → Sorts numbers step start (entries s.slots) (gone ++ more) last

  pub sort_start : (start : F) (s : ArenaState T) (b : Stand) → IsAtFirst s.slots b → Sorted start s b s start false
  sort_start start s b first =
      record {
        forward = first.forward;
        gone = [];
        state = (refl, omega arith);
        told = refl;
        goes_on = λ more last sorts. subst (λ es. Sorts numbers step start es more last) (ahead_first s.slots b first) sorts;
      }

  pub sort_kept : (greatest : ℕ) (start : F) (s : ArenaState T) (b a : Stand) (now : ArenaState T) (f after : F) (ended : Bool) (p : P) (x : Bor T) (v : T) → Sorted start s b now f ended → Steps greatest now.slots b (Some (numbers p)) a → look_up now.slots (numbers p) ≡ Some v → x.now ≡ v → step f p x true after → Sorted start s a now after ended
  sort_kept greatest start s b a now f after ended p x v w steps found same called =
      record {
        forward = forward_stays greatest now.slots b (Some (numbers p)) a steps ∙ w.forward;
        gone = w.gone;
        state = w.state;
        told = w.told;
        goes_on = λ more last sorts.
            w.goes_on more last
            (subst (λ es. Sorts numbers step f es more last) (sym (ahead_taken greatest now.slots b (numbers p) a w.forward steps v found))
            (true, after, more, record { pointer = p; names = refl; shown = x; shows = same; called = called }, refl, sorts));
      }

  pub sort_dropped : (greatest : ℕ) (start : F) (s : ArenaState T) (b a : Stand) (now new : ArenaState T) (f after : F) (ended : Bool) (p : P) (x : Bor T) (v : T) → Sorted start s b now f ended → Steps greatest now.slots b (Some (numbers p)) a → look_up now.slots (numbers p) ≡ Some v → x.now ≡ v → step f p x false after → IsTouched (removed (λ m. m) now (numbers p).0) new → Sorted start s a new after true
  sort_dropped greatest start s b a now new f after ended p x v w steps found same called out =
      let q : Pointer = numbers p in
      record {
        forward = forward_stays greatest now.slots b (Some q) a steps ∙ w.forward;
        gone = w.gone ++ q ∷ [];
        state = subst (λ z. IsTouched z new) (sym (without_last w.gone q s)) (touched_removed (without_entries w.gone s) now new q.0 w.state out);
        told = any_last w.gone q;
        goes_on = λ more last sorts.
            subst (λ all. Sorts numbers step start (entries s.slots) all last) (sym (append_assoc w.gone (q ∷ []) more))
            (w.goes_on (q ∷ more) last
            (subst (λ es. Sorts numbers step f es (q ∷ more) last) (sym (ahead_taken_out greatest now.slots new.slots b q a v w.forward steps found (removed_slots (λ m. m) now q.0 new out)))
            (false, after, more, record { pointer = p; names = refl; shown = x; shows = same; called = called }, refl, sorts)));
      }

  pub sort_end : (greatest : ℕ) (start : F) (s : ArenaState T) (b a : Stand) (now : ArenaState T) (f : F) (ended : Bool) → Sorted start s b now f ended → Steps greatest now.slots b None a → (gone : List Pointer) × (last : F) × Sorts numbers step start (entries s.slots) gone last × IsTouched (without_entries gone s) now × (ended ≡ is_any gone)
  sort_end greatest start s b a now f ended w steps = (
    w.gone,
    f,
    subst (λ all. Sorts numbers step start (entries s.slots) all f) (append-nil w.gone)
        (w.goes_on [] f (subst (λ es. Sorts numbers step f es [] f) (sym (ahead_none greatest now.slots b a steps)) (refl, refl))),
    w.state,
    w.told,
  )

  -- where an entry was taken out, there was one
  some_sorted : (f last : F) (es : List (Pointer × T)) (gone : List Pointer) → Sorts numbers step f es gone last → is_any gone ≡ true → length es ≢ 0
  some_sorted f last [] gone sorts any none = true≢false (sym any ∙ ap is_any sorts.0)
  some_sorted f last (e ∷ es) gone sorts any none = absurd (omega (arith, none))

  -- the counter is raised once, if an entry was taken out
  pub raised_once : (raises : ℕ → ℕ) (s now : ArenaState T) (f last : F) (gone : List Pointer) → Sorts numbers step f (entries s.slots) gone last → IsTouched (without_entries gone s) now → is_any gone ≡ true → IsTouched (ended_entries raises gone s) (record now { counter = raises now.counter })
  raised_once raises s now f last [] sorts is any = absurd (true≢false (sym any))
  raised_once raises s now f last (p ∷ ps) sorts is any =
      let some : arena_len s ≢ 0 = λ none. some_sorted f last (entries s.slots) (p ∷ ps) sorts refl (length-entries s.slots ∙ none) in
      let counter : raises now.counter ≡ raised_if_any raises s = ap raises (counter_kept (p ∷ ps) s now is) ∙ sym (ap (λ b. cond b s.counter (raises s.counter)) (eq_false (arena_len s) 0 some)) in (
        ap (λ (u : ArenaState T). record u { counter = raises now.counter }) is.0 ∙ ap (λ n. record (without_entries (p ∷ ps) s) { counter = n; steps = now.steps }) counter,
        is.1,
      )

  -- and stays, if none was
  pub not_raised : (raises : ℕ → ℕ) (s now : ArenaState T) (gone : List Pointer) → IsTouched (without_entries gone s) now → is_any gone ≡ false → IsTouched (ended_entries raises gone s) now
  not_raised raises s now [] is none = is
  not_raised raises s now (p ∷ ps) is none = absurd (true≢false none)

  pub retained : (raises : ℕ → ℕ) (s now new : ArenaState T) (f last : F) (gone : List Pointer) (ended : Bool) → Sorts numbers step f (entries s.slots) gone last → IsTouched (without_entries gone s) now → ended ≡ is_any gone → new ≡ cond ended (record now { counter = raises now.counter }) now → IsTouched (ended_entries raises gone s) new
  retained raises s now new f last gone true sorts is told new_is =
      subst (IsTouched (ended_entries raises gone s)) (sym new_is) (raised_once raises s now f last gone sorts is (sym told))
  retained raises s now new f last gone false sorts is told new_is =
      subst (IsTouched (ended_entries raises gone s)) (sym new_is) (not_raised raises s now gone is (sym told))

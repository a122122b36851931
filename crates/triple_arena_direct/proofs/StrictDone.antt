-- What a call of a strict arena gives that is done, and that it is one strict call.
use Rattle.std.proofs.Common.{◌≡◌, ◌<◌, ◌≤◌, arith, ℕ, ◌&&◌, Bool, true, false, List, [], ◌∷◌, Option, Some, None, is_some, IsSome, Result, Ok, Err, IsOk, IfOk, OnOk, OnErr, refl, sym, ap, subst, ◌∙◌, true≢false}
use Rattle.std.specs.Option.{option_map, option_and_then, ok_or}
use Rattle.std.specs.Result.{result_map_both}
use Rattle.triple_arena_base.specs.Invalidation.{allowed}
use Rattle.triple_arena_base.specs.declared.invalidation.InvalidationResult.{InvalidationResult}
use Rattle.triple_arena_ptr.specs.Numbers.{Generations, raise}
use Rattle.triple_arena_ptr.specs.Pointers.{Pointer}
use Rattle.triple_arena_stack.specs.Capacity.{IsWithin}
use Rattle.triple_arena_stack.specs.StackKind.{StackKind}
use Rattle.triple_arena_traits.specs.Entries.{KeepsEntries, look_up, value_of_generation}
use Rattle.triple_arena_traits.specs.ArenaState.{ArenaState, arena_len, capacity, entry, IsWellFormed}
use Rattle.triple_arena_traits.specs.Insertion.{place, next_pointer, inserted}
use Rattle.triple_arena_traits.specs.SlotSteps.{IsTouched, touched, insertion_steps}
use Rattle.triple_arena_traits.specs.Ending.{told_of, map_told, removed, invalidated}
use Rattle.triple_arena_traits.specs.Reallocation.{reallocated, grown}
use Rattle.triple_arena_traits.specs.Histories.{ModelCall, insertion, removal, invalidation, Fits, Continues}
use Rattle.triple_arena_traits.specs.laws.EntryLaws.{slots-grown, next-grown, same-grown, well_formed-grown}
use Rattle.triple_arena_traits.specs.laws.WellFormedLaws.{place_free}
use Rattle.triple_arena_traits.specs.laws.HistoryLaws.{Continues-grown}
use Rattle.triple_arena_traits.specs.laws.PointerListLaws.{has_head}
use Rattle.triple_arena_traits.proofs.Inserted.{found_inserted}
use Rattle.triple_arena.specs.laws.TouchedLaws.{removed_slots}
use Rattle.triple_arena_direct.specs.declared.errors.StrictError.{StrictError}
use Rattle.triple_arena_direct.specs.declared.errors.StrictError.TheVariants.{InvalidPtr}
use Rattle.triple_arena_direct.specs.Gone.{IsUpToCounter, IsGoneForGood}
use Rattle.triple_arena_direct.specs.StrictAnswers.{is_exhausted, strict_of, calls_if_ok}
use Rattle.triple_arena_direct.specs.StrictCalls.{StrictCall, IsStrictStep, IsStrictCall, IsStrictEnding, to_insert, to_remove, to_invalidate}
use Rattle.triple_arena_direct.specs.StrictDone.{IsStrictlyInserted, IsStrictlyGrown, IsStrictlyReallocated, IsStrictlyRemoved, IsStrictlyRenewed}
use Rattle.triple_arena_direct.specs.laws.GoneLaws.{gone-continues}
use Rattle.triple_arena_direct.specs.laws.StrictAnswerLaws.{Continues-strict}
use Rattle.triple_arena_direct.proofs.StrictAnswers.{answered, if_found, kept_of, step_of, mapped_answer, mapped_test, on_renewed, at_renewed, kept_renewed, step_renewed, step_inserted, counted_inserted, grown_inserted, inserted_history, gone_if_ok}
use Rattle.triple_arena_direct.proofs.StrictSteps.{others_inserted}

module _ {T : Type 0} (kind : StackKind) (generations : Generations) (s t : ArenaState T) (call : StrictCall T) (calls : List ModelCall) where
  -- a step, by which a history goes on
  pub called : (generations.counting ≡ true → IsUpToCounter s) → IsStrictStep kind generations s call calls t → Continues Fits s calls t → IsStrictCall kind generations s call calls t
  called up_to step history =
      record { step = step; history = history; stays_gone = λ counts. gone-continues s t (up_to counts) calls history }

  -- so where generations count
  pub ending : (generations.counting ≡ true → IsUpToCounter s) → IsStrictStep kind generations s call calls t → IsStrictEnding kind generations s call calls t
  ending up_to step =
      let history : generations.counting ≡ true → Continues Fits s calls t = λ counts. Continues-strict kind generations counts s call calls t step in
      record { step = step; history = history; stays_gone = λ counts. gone-continues s t (up_to counts) calls (history counts) }

-- and where nothing changed
pub ending_none : {T : Type 0} (kind : StackKind) (generations : Generations) (s : ArenaState T) (call : StrictCall T) → IsStrictStep kind generations s call [] s → IsStrictEnding kind generations s call [] s
ending_none kind generations s call step = record { step = step; history = λ counts h fits. fits; stays_gone = λ counts q gone. gone }

-- a value that was put into an arena with a place, whose entries are those of the old one
pub inserted_into : {T : Type 0} (s b t : ArenaState T) (value : T) (p : Pointer) → IsWellFormed b → KeepsEntries s.slots b.slots → next_pointer b ≡ next_pointer s → arena_len b < capacity b → p ≡ next_pointer s → IsTouched (inserted b value) t → IsStrictlyInserted s b value p t
inserted_into s b t value p well keeps next has_place names is =
    let at : p ≡ next_pointer b = names ∙ sym next in
    let slots : (q : Pointer) → look_up t.slots q ≡ look_up (inserted b value).slots q = λ q. ap (λ (u : ArenaState _). look_up u.slots q) is.0 in
    record {
      pointer = names;
      free = ap (λ (q : Pointer). entry s q.0) at ∙ sym (keeps (place b)) ∙ place_free b well;
      new = λ q gone same. omega (arith, gone.1, ap (λ (x : Pointer). x.1) same, ap (λ (x : Pointer). x.1) names);
      place = has_place;
      left = is;
      found = slots p ∙ found_inserted b (inserted b value) p value well at refl;
      others = λ q other.
          slots q ∙ others_inserted b value well q (λ e. other (e ∙ sym at)) ∙ ap (option_and_then (value_of_generation q.1)) (keeps q.0);
    }

module _ {P E T : Type 0} (numbers : P → Pointer) (s t : ArenaState T) (value : T) where
  -- an insertion that was done, into an arena that has grown if it was full
  pub inserted_grown : (kind : StackKind) (r : Result P E) → IsWellFormed s → IfOk r (λ p. numbers p ≡ next_pointer s) → OnOk r (arena_len (grown kind s) < capacity (grown kind s)) → OnOk r (t ≡ touched (insertion_steps (grown kind s)) (inserted (grown kind s) value)) → IfOk r (λ p. IsStrictlyInserted s (grown kind s) value (numbers p) t)
  inserted_grown kind (Ok p) well pointer has_place is =
      inserted_into s (grown kind s) t value (numbers p) (well_formed-grown kind s well) (slots-grown kind s) (next-grown kind s) has_place pointer (rw is (refl, omega arith))
  inserted_grown kind (Err e) well pointer has_place is = tt

  -- or within the capacity
  pub inserted_within : (r : Result P E) → IsWellFormed s → IfOk r (λ p. numbers p ≡ next_pointer s) → (IsOk r → arena_len s < capacity s) → OnOk r (t ≡ touched (insertion_steps s) (inserted s value)) → IfOk r (λ p. IsStrictlyInserted s s value (numbers p) t)
  inserted_within (Ok p) well pointer has_place is =
      inserted_into s s t value (numbers p) well (λ i. refl) refl (has_place refl) pointer (rw is (refl, omega arith))
  inserted_within (Err e) well pointer has_place is = tt

  module _ (kind : StackKind) (generations : Generations) (r : Result P E) (up_to : generations.counting ≡ true → IsUpToCounter s) (well : IsWellFormed s)
      (pointer : IfOk r (λ p. numbers p ≡ next_pointer s)) (refused : OnErr r (t ≡ s)) (history : IfOk r (λ p. Continues Fits s (insertion (numbers p) ∷ []) t)) where
    insertion_by : (arena_len s < capacity s → IsOk r) → OnOk r (IsTouched (inserted (grown kind s) value) t) → IsStrictCall kind generations s (to_insert value) (calls_if_ok r (λ p. insertion (numbers p))) t
    insertion_by had_place is =
        called kind generations s t (to_insert value) (calls_if_ok r (λ p. insertion (numbers p))) up_to
        (step_inserted numbers kind generations s t value r well had_place pointer is refused) (inserted_history numbers s t r history refused)

    -- such an insertion is one strict call, done or refused
    pub grown_call : (arena_len s < capacity s → IsOk r) → OnOk r (t ≡ touched (insertion_steps (grown kind s)) (inserted (grown kind s) value)) → IsStrictCall kind generations s (to_insert value) (calls_if_ok r (λ p. insertion (numbers p))) t
    grown_call had_place is = insertion_by had_place (counted_inserted (grown kind s) t value r is)

    pub within_call : (IsOk r → arena_len s < capacity s) → (arena_len s < capacity s → IsOk r) → OnOk r (t ≡ touched (insertion_steps s) (inserted s value)) → IsStrictCall kind generations s (to_insert value) (calls_if_ok r (λ p. insertion (numbers p))) t
    within_call has_place had_place is = insertion_by had_place (grown_inserted kind s t value r has_place (counted_inserted s t value r is))

-- a full arena that has grown
pub has_grown : {T : Type 0} (kind : StackKind) (s t : ArenaState T) → t ≡ grown kind s → arena_len t < capacity t → IsStrictlyGrown s kind t
has_grown kind s t is has_place =
    let next : next_pointer t ≡ next_pointer s = ap next_pointer is ∙ next-grown kind s in
    let kept : (q : Pointer) → look_up t.slots q ≡ look_up s.slots q = λ q. ap (λ (u : ArenaState _). look_up u.slots q) is ∙ ap (option_and_then (value_of_generation q.1)) (slots-grown kind s q.0) in
    record {
      arena = is;
      has_place = has_place;
      next = next;
      kept = kept;
      history = Continues-grown kind s t is;
      stays_gone = λ q gone. (kept q ∙ gone.0, omega (arith, gone.1, ap (λ (x : Pointer). x.1) next));
    }

-- a reallocation that was done
pub has_room : {T A E : Type 0} (kind : StackKind) (s t : ArenaState T) (greatest m : ℕ) (r : Result A E) → OnOk r (IsTouched (reallocated kind s m) t) → OnOk r ((m ≤ greatest) × IsWithin s.limit m) → OnOk r (m ≤ capacity t) → OnOk r (IsStrictlyReallocated s kind greatest m t)
has_room kind s t greatest m (Ok x) left within place = record { left = left; indexed = within.0; within = within.1; place = place }
has_room kind s t greatest m (Err e) left within place = tt

-- an entry that was taken out
pub removed_if_ok : {A E T : Type 0} (generations : Generations) (s t : ArenaState T) (p : Pointer) (r : Result A E) → OnOk r (IsTouched (removed (raise generations) s p.0) t) → (generations.counting ≡ true → OnOk r (IsGoneForGood t p)) → OnOk r (IsStrictlyRemoved s generations p t)
removed_if_ok generations s t p (Ok x) is good =
    let there = (removed_slots (raise generations) s p.0 t is).there in
    record { left = is; free = there; gone = ap (option_and_then (value_of_generation p.1)) there; gone_for_good = good }
removed_if_ok generations s t p (Err e) is good = tt

-- an entry that has another pointer
renewed_if_ok : {P E T : Type 0} (numbers : P → Pointer) (generations : Generations) (s t : ArenaState T) (p : Pointer) (r : Result P E) → OnOk r (IsTouched (invalidated (raise generations) s p.0) t) → IfOk r (λ q. look_up t.slots (numbers q) ≡ look_up s.slots p) → (generations.counting ≡ true → OnOk r (IsGoneForGood t p)) → IfOk r (λ q. IsStrictlyRenewed s generations p (numbers q) t)
renewed_if_ok numbers generations s t p (Ok q) is found good = record { left = is; found = found; gone_for_good = good }
renewed_if_ok numbers generations s t p (Err e) is found good = tt

-- a call that ends the entry of a pointer, where an exhausted counter was tested before
module _ {T : Type 0} (kind : StackKind) (generations : Generations) (s t : ArenaState T) (p : Pointer) (up_to : generations.counting ≡ true → IsUpToCounter s) where
  pub removed_strictly : (told : InvalidationResult T) (r : Result T StrictError) → r ≡ ok_or (allowed told) InvalidPtr → told ≡ told_of (is_exhausted generations s) (look_up s.slots p)
      → (is_exhausted generations s && is_some (look_up s.slots p)) ≡ false → (IsSome (look_up s.slots p) → IsTouched (removed (raise generations) s p.0) t) → (look_up s.slots p ≡ None → IsTouched s t)
      → OnOk r (IsStrictlyRemoved s generations p t) × IsStrictEnding kind generations s (to_remove p) (calls_if_ok r (λ _. removal p)) t
  removed_strictly told r is answer tested done kept =
      let exhausted = is_exhausted generations s in
      let found = look_up s.slots p in
      let strict : r ≡ strict_of exhausted found = is ∙ answered exhausted found told answer tested in
      let left = if_found exhausted found r (IsTouched (removed (raise generations) s p.0) t) strict done in
      let call : IsStrictEnding kind generations s (to_remove p) (calls_if_ok r (λ _. removal p)) t =
      ending kind generations s t (to_remove p) (calls_if_ok r (λ _. removal p)) up_to
      (step_of s t exhausted found r (removal p) (removed (raise generations) s p.0) strict left (kept_of s t exhausted found r strict tested kept)) in
      (removed_if_ok generations s t p r left (λ counts. gone_if_ok s t r (λ _. removal p) p (up_to counts) (call.history counts) (λ x. has_head p [])), call)

  pub invalidated_strictly : {P : Type 0} (numbers : P → Pointer) (told : InvalidationResult P) (r : Result P StrictError) → r ≡ ok_or (allowed told) InvalidPtr
      → map_told numbers told ≡ told_of (is_exhausted generations s) (option_map (λ _. (p.0, raise generations s.counter)) (look_up s.slots p))
      → (is_exhausted generations s && is_some (look_up s.slots p)) ≡ false → (IsSome (look_up s.slots p) → IsTouched (invalidated (raise generations) s p.0) t) → (look_up s.slots p ≡ None → IsTouched s t)
      → (IsSome (look_up s.slots p) → look_up t.slots (p.0, raise generations s.counter) ≡ look_up s.slots p)
      → IfOk r (λ q. IsStrictlyRenewed s generations p (numbers q) t) × IsStrictEnding kind generations s (to_invalidate p) (calls_if_ok r (λ q. invalidation p (numbers q))) t
  invalidated_strictly numbers told r is answer tested done kept renewed =
      let exhausted = is_exhausted generations s in
      let found = look_up s.slots p in
      let q : Pointer = (p.0, raise generations s.counter) in
      let strict : result_map_both numbers (λ e. e) r ≡ strict_of exhausted (option_map (λ _. q) found) =
      ap (result_map_both numbers (λ e. e)) is ∙ mapped_answer numbers exhausted (option_map (λ _. q) found) told answer (mapped_test q exhausted found tested) in
      let left = on_renewed numbers q exhausted found r (IsTouched (invalidated (raise generations) s p.0) t) strict done in
      let call : IsStrictEnding kind generations s (to_invalidate p) (calls_if_ok r (λ x. invalidation p (numbers x))) t =
      ending kind generations s t (to_invalidate p) (calls_if_ok r (λ x. invalidation p (numbers x))) up_to
      (step_renewed numbers q s t exhausted found r (λ x. invalidation p x) (invalidated (raise generations) s p.0) strict left (kept_renewed numbers q s t exhausted found r strict tested kept)) in
      (renewed_if_ok numbers generations s t p r left (at_renewed numbers q (λ x. look_up t.slots x ≡ look_up s.slots p) exhausted found r strict renewed) (λ counts. gone_if_ok s t r (λ x. invalidation p (numbers x)) p (up_to counts) (call.history counts) (λ x. has_head p [])), call)

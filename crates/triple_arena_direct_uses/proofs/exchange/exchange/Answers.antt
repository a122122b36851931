use Rattle.std.proofs.Common.{◌≡◌, ◌≢◌, ℕ, ◌+◌, ◌<◌, ◌≤◌, ◌++◌, [], ◌∷◌, ◌∙◌, List, Bool, true, false, Option, Some, None, is_some, IsSome, Result, Ok, Err, IsOk, IfOk, OnOk, OnErr, ◌↔◌, refl, sym, ap, subst, arith, true≢false}
use Rattle.std.proofs.lemmas.List.{append-nil}
use Rattle.std.proofs.lemmas.Result.{on_ok_weaker}
use Rattle.std.specs.Option.{option_and_then}
use Rattle.triple_arena_ptr.specs.Numbers.{Generations, raise}
use Rattle.triple_arena_ptr.specs.Pointers.{Pointer}
use Rattle.triple_arena_stack.specs.Capacity.{IsFullAtLimit}
use Rattle.triple_arena_stack.specs.StackKind.{StackKind}
use Rattle.triple_arena_stack.specs.StackKind.StackKind.{heap}
use Rattle.triple_arena.specs.Entries.{entry_in, look_up, value_of_generation}
use Rattle.triple_arena.specs.ArenaState.{ArenaState, arena_len, capacity}
use Rattle.triple_arena.specs.SlotSteps.{IsTouched}
use Rattle.triple_arena.specs.Ending.{removed}
use Rattle.triple_arena.specs.laws.TouchedLaws.{removed_len, removed_capacity}
use Rattle.triple_arena.specs.Histories.{ModelCall, insertion, removal}
use Rattle.triple_arena_direct.specs.StrictAnswers.{is_exhausted, strict_of, calls_if_ok}
use Rattle.triple_arena_direct.specs.StrictCalls.{IsStrictStep, AreStrictSteps, StrictCall, to_insert, to_remove}
use Rattle.triple_arena_direct.specs.StrictDone.{IsStrictlyInserted}
use Rattle.triple_arena_direct.specs.declared.errors.StrictError.{StrictError}
use Rattle.triple_arena_direct_uses.proofs.exchange.exchange.Goals as goal

-- two steps, one after the other
two_steps : {T : Type 0} (kind : StackKind) (generations : Generations) (s m t : ArenaState T) (a b : StrictCall T) (first second : List ModelCall)
    → IsStrictStep kind generations s a first m → IsStrictStep kind generations m b second t → AreStrictSteps kind generations s (a ∷ b ∷ []) (first ++ second) t
two_steps kind generations s m t a b first second one two = (m, first, second, one, (t, second, [], two, (refl, refl), sym (append-nil second)), refl)

-- what is found under a pointer is of an entry at its index
entry_there : {T : Type 0} (e : Option (ℕ × T)) (generation : ℕ) → IsSome (option_and_then (value_of_generation generation) e) → IsSome e
entry_there None generation live = live
entry_there (Some e) generation live = refl

one_below : (a b c d : ℕ) → a + 1 ≡ b → c ≡ d → b ≤ d → a < c
one_below a b c d less same fits = omega arith

module _ {T : Type 0} where
  -- once a value came out, there is a place
  place_of : (raises : ℕ → ℕ) (s m : ArenaState T) (p : Pointer) (exhausted : Bool) (found : Option T) → look_up s.slots p ≡ found → arena_len s ≤ capacity s
      → OnOk (strict_of exhausted found) (IsTouched (removed raises s p.0) m) → IsOk (strict_of exhausted found) → arena_len m < capacity m
  place_of raises s m p exhausted None is fits done ok = absurd (true≢false (sym ok))
  place_of raises s m p true (Some x) is fits done ok = absurd (true≢false (sym ok))
  place_of raises s m p false (Some x) is fits done ok =
      one_below _ _ _ _ (removed_len raises s p.0 m done (entry_there (entry_in s.slots p.0) p.1 (ap is_some is))) (removed_capacity raises s p.0 m done) fits

  place_after : (raises : ℕ → ℕ) (s m : ArenaState T) (p : Pointer) (exhausted : Bool) (r : Result T StrictError) → r ≡ strict_of exhausted (look_up s.slots p) → arena_len s ≤ capacity s
      → OnOk r (IsTouched (removed raises s p.0) m) → IsOk r → arena_len m < capacity m
  place_after raises s m p exhausted r answer fits done ok =
      place_of raises s m p exhausted (look_up s.slots p) refl fits
      (subst (λ (a : Result T StrictError). OnOk a (IsTouched (removed raises s p.0) m)) answer done)
      (subst (λ (a : Result T StrictError). IsOk a) answer ok)

  -- and where none came out there is one, if there was
  place_stays : {A E : Type 0} (s m : ArenaState T) (out : Result A E) → OnErr out (IsTouched s m) → OnOk out (arena_len m < capacity m) → arena_len s < capacity s → arena_len m < capacity m
  place_stays s m (Ok x) same place had = place
  place_stays s m (Err e) same place had = subst (λ (a : ArenaState T). arena_len a < capacity a) (sym same.0) had

  -- so where the other value is refused, none came out
  unchanged : {A B E F : Type 0} (s m t : ArenaState T) (out : Result A E) (put : Result B F) → OnErr out (IsTouched s m) → OnErr put (t ≡ m) → OnOk out (IsOk put) → OnErr put (IsTouched s t)
  unchanged s m t out (Ok q) same stays place = tt
  unchanged s m t (Ok x) (Err e) same stays place = absurd (true≢false (sym place))
  unchanged s m t (Err d) (Err e) same stays place = subst (IsTouched s) (sym stays) same

  -- where none came out, what stood under its pointer stays, unless the other stands at its index
  kept_through : {A E B F : Type 0} (numbers : B → Pointer) (s m t : ArenaState T) (p : Pointer) (out : Result A E) (put : Result B F) → OnErr out (IsTouched s m)
      → IfOk put (λ r. (q : Pointer) → q.0 ≢ (numbers r).0 → look_up t.slots q ≡ look_up m.slots q)
      → OnErr out (IfOk put (λ r. p.0 ≢ (numbers r).0 → look_up t.slots p ≡ look_up s.slots p))
  kept_through numbers s m t p (Ok x) put same stays = tt
  kept_through numbers s m t p (Err e) (Ok r) same stays = λ apart. stays p apart ∙ ap (λ (a : ArenaState T). look_up a.slots p) same.0
  kept_through numbers s m t p (Err e) (Err f) same stays = tt

  -- and the arena is full at its limit exactly where it was
  full_as_was : {A E : Type 0} (Q : Type 0) (s m : ArenaState T) (out : Result A E) → OnErr out (IsTouched s m)
      → (Q ↔ IsFullAtLimit (capacity m) m.limit (arena_len m)) → OnErr out (Q ↔ IsFullAtLimit (capacity s) s.limit (arena_len s))
  full_as_was Q s m (Ok x) same exact = tt
  full_as_was Q s m (Err e) same exact = subst (λ (a : ArenaState T). Q ↔ IsFullAtLimit (capacity a) a.limit (arena_len a)) same.0 exact

  -- what neither call is at stays through both
  stays_through : {B F : Type 0} (numbers : B → Pointer) (s m t : ArenaState T) (p : Pointer) (put : Result B F) → ((q : Pointer) → q ≢ p → look_up m.slots q ≡ look_up s.slots q)
      → IfOk put (λ r. (q : Pointer) → q.0 ≢ (numbers r).0 → look_up t.slots q ≡ look_up m.slots q)
      → IfOk put (λ r. (q : Pointer) → q ≢ p → q.0 ≢ (numbers r).0 → look_up t.slots q ≡ look_up s.slots q)
  stays_through numbers s m t p (Ok r) first second = λ q other apart. second q apart ∙ first q other
  stays_through numbers s m t p (Err e) first second = tt

-- entries at other indexes stay through an insertion
rest_of : {B F T : Type 0} (numbers : B → Pointer) (m into t : ArenaState T) (value : T) (put : Result B F) → IfOk put (λ r. IsStrictlyInserted m into value (numbers r) t)
    → IfOk put (λ r. (q : Pointer) → q.0 ≢ (numbers r).0 → look_up t.slots q ≡ look_up m.slots q)
rest_of numbers m into t value (Ok r) done = λ q apart. done.others q (λ e. apart (ap (λ (x : Pointer). x.0) e))
rest_of numbers m into t value (Err e) done = tt

if_ok : {A E : Type 0} (Q : Type 0) (r : Result A E) → (IsOk r → Q) → OnOk r Q
if_ok Q (Ok x) by = by refl
if_ok Q (Err e) by = tt

pub returns-clause-others : goal.returns-clause-others
returns-clause-others g c =
    stays_through g.P.Ptr.numbers c.args.arena.now c.remove-taken.new.self c.insert-put.new.self (g.P.Ptr.numbers c.args.p) c.insert-put.result
    c.remove-taken.ensures.others (rest_of g.P.Ptr.numbers c.remove-taken.new.self _ c.insert-put.new.self c.args.value c.insert-put.result c.insert-put.ensures.done)

pub returns-clause-had_place : goal.returns-clause-had_place
returns-clause-had_place g c = λ had.
    let gens = g.P.Gen.PtrGen.generations in
    (c.insert-put.ensures.had_place
    (place_stays c.args.arena.now c.remove-taken.new.self c.remove-taken.result c.remove-taken.ensures.refused
    (if_ok _ c.remove-taken.result
    (place_after (raise gens) c.args.arena.now c.remove-taken.new.self (g.P.Ptr.numbers c.args.p) (is_exhausted gens c.args.arena.now)
    c.remove-taken.result c.remove-taken.ensures.answer c.len-len.ensures.fits (on_ok_weaker c.remove-taken.result (λ is. is.left) c.remove-taken.ensures.done))) had)).0

pub returns-clause-made_place : goal.returns-clause-made_place
returns-clause-made_place g c =
    let gens = g.P.Gen.PtrGen.generations in
    if_ok _ c.remove-taken.result (λ ok.
    (c.insert-put.ensures.had_place
    (place_after (raise gens) c.args.arena.now c.remove-taken.new.self (g.P.Ptr.numbers c.args.p) (is_exhausted gens c.args.arena.now)
    c.remove-taken.result c.remove-taken.ensures.answer c.len-len.ensures.fits (on_ok_weaker c.remove-taken.result (λ is. is.left) c.remove-taken.ensures.done) ok)).0)

pub returns-clause-refused : goal.returns-clause-refused
returns-clause-refused g c =
    let gens = g.P.Gen.PtrGen.generations in
    unchanged c.args.arena.now c.remove-taken.new.self c.insert-put.new.self c.remove-taken.result c.insert-put.result
    c.remove-taken.ensures.refused c.insert-put.ensures.refused
    (if_ok _ c.remove-taken.result (λ ok.
    (c.insert-put.ensures.had_place
    (place_after (raise gens) c.args.arena.now c.remove-taken.new.self (g.P.Ptr.numbers c.args.p) (is_exhausted gens c.args.arena.now)
    c.remove-taken.result c.remove-taken.ensures.answer c.len-len.ensures.fits (on_ok_weaker c.remove-taken.result (λ is. is.left) c.remove-taken.ensures.done) ok)).0))

pub returns-clause-kept : goal.returns-clause-kept
returns-clause-kept g c =
    kept_through g.P.Ptr.numbers c.args.arena.now c.remove-taken.new.self c.insert-put.new.self (g.P.Ptr.numbers c.args.p) c.remove-taken.result c.insert-put.result
    c.remove-taken.ensures.refused (rest_of g.P.Ptr.numbers c.remove-taken.new.self _ c.insert-put.new.self c.args.value c.insert-put.result c.insert-put.ensures.done)

pub returns-clause-beyond : goal.returns-clause-beyond
returns-clause-beyond g c =
    full_as_was _ c.args.arena.now c.remove-taken.new.self c.remove-taken.result c.remove-taken.ensures.refused c.insert-put.ensures.beyond

pub returns-clause-given_once : goal.returns-clause-given_once
returns-clause-given_once g c counting h fits =
    let out = to_remove (g.P.Ptr.numbers c.args.p) in
    let put = to_insert c.args.value in
    let first = calls_if_ok c.remove-taken.result (λ _. removal (g.P.Ptr.numbers c.args.p)) in
    let second = calls_if_ok c.insert-put.result (λ q. insertion (g.P.Ptr.numbers q)) in
    let gens = g.P.Gen.PtrGen.generations in
    c.strict_calls_are_fresh.ensures.given_once heap gens c.args.arena.now (out ∷ put ∷ []) (first ++ second) c.insert-put.new.self h counting fits
    (two_steps heap gens c.args.arena.now c.remove-taken.new.self c.insert-put.new.self out put first second c.remove-taken.ensures.call.step c.insert-put.ensures.call.step)

pub returns-clause-live : goal.returns-clause-live
returns-clause-live g c counting h fits =
    let out = to_remove (g.P.Ptr.numbers c.args.p) in
    let put = to_insert c.args.value in
    let first = calls_if_ok c.remove-taken.result (λ _. removal (g.P.Ptr.numbers c.args.p)) in
    let second = calls_if_ok c.insert-put.result (λ q. insertion (g.P.Ptr.numbers q)) in
    let gens = g.P.Gen.PtrGen.generations in
    c.strict_calls_are_fresh.ensures.live heap gens c.args.arena.now (out ∷ put ∷ []) (first ++ second) c.insert-put.new.self h counting fits
    (two_steps heap gens c.args.arena.now c.remove-taken.new.self c.insert-put.new.self out put first second c.remove-taken.ensures.call.step c.insert-put.ensures.call.step)

pub returns-clause-stays_gone : goal.returns-clause-stays_gone
returns-clause-stays_gone g c counting h fits =
    let out = to_remove (g.P.Ptr.numbers c.args.p) in
    let put = to_insert c.args.value in
    let first = calls_if_ok c.remove-taken.result (λ _. removal (g.P.Ptr.numbers c.args.p)) in
    let second = calls_if_ok c.insert-put.result (λ q. insertion (g.P.Ptr.numbers q)) in
    let gens = g.P.Gen.PtrGen.generations in
    c.strict_calls_are_fresh.ensures.stays_gone heap gens c.args.arena.now (out ∷ put ∷ []) (first ++ second) c.insert-put.new.self h counting fits
    (two_steps heap gens c.args.arena.now c.remove-taken.new.self c.insert-put.new.self out put first second c.remove-taken.ensures.call.step c.insert-put.ensures.call.step)

-- Chains as lists of pointers, after each call.
use Rattle.std.specs.Prelude.{List, [], ◌∷◌, ◌++◌, map, Option, Some, None, IsSome, Contains}
use Rattle.std.proofs.Common.{◌≡◌, ◌≢◌, ◌⊎◌, inl, inr, zero, suc, refl, sym, ap, ◌∙◌, subst, arith}
use Rattle.std.specs.Option.{option_map, option_and_then}
use Rattle.triple_arena_ptr.specs.Pointers.{Pointer}
use Rattle.triple_arena_chain.specs.Chains.{Node, value_at, after_at, before_at, IsLinked, IsInserted, IsRemoved, IsMoved, renamed, first_of, IsRun, values_at}
use Rattle.triple_arena_chain.specs.laws.LinkLaws.{same_pointer}
use Rattle.triple_arena_chain.specs.laws.NodeLaws.{valued}

pub in_head : (p : Pointer) (ps : List Pointer) → Contains (p ∷ ps) p
in_head p ps = (zero, omega arith, refl)

pub in_tail : (p q : Pointer) (ps : List Pointer) → Contains ps q → Contains (p ∷ ps) q
in_tail p q ps (k, within, is) = (suc k, omega (arith, within), is)

pub none_in : (p : Pointer) → Contains [] p → ⊥
none_in p (k, within, is) = absurd (omega arith)

-- what comes first in two lists
pub first_of_both : (xs : List Pointer) (y : Pointer) (ys : List Pointer) (rest : Option Pointer) → first_of (xs ++ y ∷ ys) rest ≡ first_of xs (Some y)
first_of_both [] y ys rest = refl
first_of_both (x ∷ xs) y ys rest = refl

pub first_before : (xs : List Pointer) (p : Pointer) (ys zs : List Pointer) (rest : Option Pointer) → first_of (xs ++ p ∷ ys) rest ≡ first_of (xs ++ p ∷ zs) rest
first_before [] p ys zs rest = refl
first_before (x ∷ xs) p ys zs rest = refl

module _ {T : Type 0} where
  -- one run goes on with another
  pub runs_on : (nodes : Pointer → Option (Node T)) (xs : List Pointer) (y : Pointer) (ys : List Pointer) (rest : Option Pointer)
      → IsRun nodes xs (Some y) → IsRun nodes (y ∷ ys) rest → IsRun nodes (xs ++ y ∷ ys) rest
  runs_on nodes [] y ys rest run more = more
  runs_on nodes (x ∷ []) y ys rest run more = (run.0, run.1, more)
  runs_on nodes (x ∷ z ∷ xs) y ys rest run more = (run.0, run.1, runs_on nodes (z ∷ xs) y ys rest run.2 more)

  -- and is two runs
  pub run_front : (nodes : Pointer → Option (Node T)) (xs : List Pointer) (y : Pointer) (ys : List Pointer) (rest : Option Pointer)
      → IsRun nodes (xs ++ y ∷ ys) rest → IsRun nodes xs (Some y)
  run_front nodes [] y ys rest run = tt
  run_front nodes (x ∷ []) y ys rest run = (run.0, run.1, tt)
  run_front nodes (x ∷ z ∷ xs) y ys rest run = (run.0, run.1, run_front nodes (z ∷ xs) y ys rest run.2)

  pub run_back : (nodes : Pointer → Option (Node T)) (xs : List Pointer) (y : Pointer) (ys : List Pointer) (rest : Option Pointer)
      → IsRun nodes (xs ++ y ∷ ys) rest → IsRun nodes (y ∷ ys) rest
  run_back nodes [] y ys rest run = run
  run_back nodes (x ∷ xs) y ys rest run = run_back nodes xs y ys rest run.2

  -- a run whose pointers lead on as before is a run
  pub run_stays : (old new : Pointer → Option (Node T)) (ps : List Pointer) (rest : Option Pointer) → IsRun old ps rest
      → ((p : Pointer) → Contains ps p → IsSome (new p) × (after_at new p ≡ after_at old p)) → IsRun new ps rest
  run_stays old new [] rest run same = tt
  run_stays old new (p ∷ ps) rest run same =
      let here = same p (in_head p ps) in
      (here.0, here.1 ∙ run.1, run_stays old new ps rest run.2 (λ q within. same q (in_tail p q ps within)))

  -- each of a run is there
  pub run_there : (nodes : Pointer → Option (Node T)) (ps : List Pointer) (rest : Option Pointer) → IsRun nodes ps rest → (q : Pointer) → Contains ps q → IsSome (nodes q)
  run_there nodes [] rest run q within = absurd (none_in q within)
  run_there nodes (p ∷ ps) rest run q (zero, within, is) = subst (λ r. IsSome (nodes r)) is run.0
  run_there nodes (p ∷ ps) rest run q (suc k, within, is) = run_there nodes ps rest run.2 q (k, omega (arith, within), is)

  -- a run whose pointers lead on as before is a run, of the same values
  pub stays : (old new : Pointer → Option (Node T)) (ps : List Pointer) (rest : Option Pointer) → IsRun old ps rest
      → ((p : Pointer) → Contains ps p → IsSome (old p) → (value_at new p ≡ value_at old p) × (after_at new p ≡ after_at old p))
      → IsRun new ps rest × (values_at new ps ≡ values_at old ps)
  stays old new [] rest run same = (tt, refl)
  stays old new (p ∷ ps) rest run same =
      let here = same p (in_head p ps) run.0 in
      let later = stays old new ps rest run.2 (λ q within. same q (in_tail p q ps within)) in (
        (valued (old p) (new p) run.0 here.0, here.1 ∙ run.1, later.0),
        ap (λ v. v ∷ values_at new ps) here.0 ∙ ap (λ vs. value_at old p ∷ vs) later.1,
      )

  pub not_free : (old : Pointer → Option (Node T)) (p q : Pointer) → IsSome (old p) → old q ≡ None → p ≢ q
  not_free old p q some none same = by_none (old p) some (ap old same ∙ none)
    where
      by_none : (o : Option (Node T)) → IsSome o → o ≡ None → ⊥
      by_none None some e = absurd (cc)
      by_none (Some node) some e = absurd (cc)

  pub inserted_elsewhere : (old : Pointer → Option (Node T)) (prev next : Option Pointer) (q : Pointer) (value : T) (new : Pointer → Option (Node T)) (ps : List Pointer) (rest : Option Pointer)
      → IsInserted old prev next q value new → IsRun old ps rest → ((p : Pointer) → Contains ps p → prev ≢ Some p) → IsRun new ps rest × (values_at new ps ≡ values_at old ps)
  inserted_elsewhere old prev next q value new ps rest done run away =
      stays old new ps rest run (λ p within there. let other = not_free old p q there done.free in (done.values p other, done.afters p other (away p within)))

  pub inserted_after : (old : Pointer → Option (Node T)) (p q : Pointer) (value : T) (new : Pointer → Option (Node T)) (xs ys : List Pointer) (rest : Option Pointer)
      → IsInserted old (Some p) (after_at old p) q value new → IsRun old (xs ++ p ∷ ys) rest
      → ((r : Pointer) → Contains xs r → p ≢ r) → ((r : Pointer) → Contains ys r → p ≢ r)
      → IsRun new (xs ++ p ∷ q ∷ ys) rest × (values_at new (xs ++ p ∷ q ∷ ys) ≡ values_at old xs ++ value_at old p ∷ Some value ∷ values_at old ys)
  inserted_after old p q value new [] ys rest done run before behind =
      let later = inserted_elsewhere old (Some p) (after_at old p) q value new ys rest done run.2 (λ r within e. behind r within (same_pointer p r e)) in
      let other = not_free old p q run.0 done.free in
      let there : IsSome (new q) = subst IsSome (sym done.found) refl in
      let next : after_at new q ≡ first_of ys rest = ap (option_and_then (λ (n : Node T). n.after)) done.found ∙ run.1 in
      let on = done.after_prev p refl in (
        (led new p q on, on, (there, next, later.0)),
        ap (λ v. v ∷ value_at new q ∷ values_at new ys) (done.values p other)
            ∙ ap (λ o. value_at old p ∷ option_map (λ (n : Node T). n.value) o ∷ values_at new ys) done.found
            ∙ ap (λ vs. value_at old p ∷ Some value ∷ vs) later.1,
      )
    where
      led : (nodes : Pointer → Option (Node T)) (a b : Pointer) → after_at nodes a ≡ Some b → IsSome (nodes a)
      led nodes a b e = by_node (nodes a) e
        where
          by_node : (o : Option (Node T)) → option_and_then (λ node. node.after) o ≡ Some b → IsSome o
          by_node None e = absurd (cc)
          by_node (Some node) e = refl
  inserted_after old p q value new (x ∷ xs) ys rest done run before behind =
      let one = inserted_elsewhere old (Some p) (after_at old p) q value new (x ∷ []) (first_of (xs ++ p ∷ ys) rest) done (run.0, run.1, tt) (λ r within e. before r (first_in x r xs within) (same_pointer p r e)) in
      let later = inserted_after old p q value new xs ys rest done run.2 (λ r within. before r (in_tail x r xs within)) behind in (
        (one.0.0, one.0.1 ∙ first_before xs p ys (q ∷ ys) rest, later.0),
        ap (λ v. v ∷ values_at new (xs ++ p ∷ q ∷ ys)) (done.values x (not_free old x q run.0 done.free)) ∙ ap (λ vs. value_at old x ∷ vs) later.1,
      )
    where
      first_in : (x r : Pointer) (xs : List Pointer) → Contains (x ∷ []) r → Contains (x ∷ xs) r
      first_in x r xs (zero, within, is) = (zero, omega arith, is)
      first_in x r xs (suc k, within, is) = absurd (omega (arith, within))

  end_leads : (found : Pointer → Option (Node T)) (p : Pointer) (xs : List Pointer) → IsRun found (xs ++ p ∷ []) None → after_at found p ≡ None
  end_leads found p [] run = run.1
  end_leads found p (x ∷ xs) run = end_leads found p xs run.2

  -- what leads on to nothing is met at the end of a run alone
  pub end_once : (found : Pointer → Option (Node T)) (p : Pointer) (xs : List Pointer) → IsRun found (xs ++ p ∷ []) None → (r : Pointer) → Contains xs r → p ≢ r
  end_once found p [] run r (k, within, is) same = omega (arith, within)
  end_once found p (x ∷ xs) run r (zero, within, is) same = leads_on xs (sym run.1 ∙ ap (after_at found) (is ∙ sym same) ∙ end_leads found p xs run.2)
    where
      leads_on : (ys : List Pointer) → first_of (ys ++ p ∷ []) None ≡ None → ⊥
      leads_on [] e = absurd (cc)
      leads_on (y ∷ ys) e = absurd (cc)
  end_once found p (x ∷ xs) run r (suc k, within, is) same = end_once found p xs run.2 r (k, omega (arith, within), is) same

  pub values_pushed : (found : Pointer → Option (Node T)) (p : Pointer) (xs : List Pointer) (v : Option T) → values_at found (xs ++ p ∷ []) ++ v ∷ [] ≡ values_at found xs ++ value_at found p ∷ v ∷ []
  values_pushed found p [] v = refl
  values_pushed found p (x ∷ xs) v = ap (λ vs. value_at found x ∷ vs) (values_pushed found p xs v)

  pub moved_run : (old : Pointer → Option (Node T)) (rename : Pointer → Pointer) (new : Pointer → Option (Node T)) (ps : List Pointer) (rest : Option Pointer)
      → IsMoved old rename new → IsRun old ps rest → IsRun new (map rename ps) (option_map rename rest) × (values_at new (map rename ps) ≡ values_at old ps)
  moved_run old rename new [] rest moves run = (tt, refl)
  moved_run old rename new (p ∷ ps) rest moves run =
      let here = moves.moved p run.0 in
      let later = moved_run old rename new ps rest moves run.2 in (
        (
          still (old p) (new (rename p)) here run.0,
          ap (option_and_then (λ (n : Node T). n.after)) here ∙ after_renamed (old p) ∙ ap (option_map rename) run.1 ∙ first_renamed ps,
          later.0,
        ),
        ap (λ v. v ∷ values_at new (map rename ps)) (ap (option_map (λ (n : Node T). n.value)) here ∙ value_renamed (old p)) ∙ ap (λ vs. value_at old p ∷ vs) later.1,
      )
    where
      still : (o n : Option (Node T)) → n ≡ option_map (renamed rename) o → IsSome o → IsSome n
      still None n e some = absurd (cc)
      still (Some node) n e some = subst IsSome (sym e) refl

      after_renamed : (o : Option (Node T)) → option_and_then (λ (n : Node T). n.after) (option_map (renamed rename) o) ≡ option_map rename (option_and_then (λ (n : Node T). n.after) o)
      after_renamed None = refl
      after_renamed (Some node) = refl

      value_renamed : (o : Option (Node T)) → option_map (λ (n : Node T). n.value) (option_map (renamed rename) o) ≡ option_map (λ (n : Node T). n.value) o
      value_renamed None = refl
      value_renamed (Some node) = refl

      first_renamed : (qs : List Pointer) → option_map rename (first_of qs rest) ≡ first_of (map rename qs) (option_map rename rest)
      first_renamed [] = refl
      first_renamed (q ∷ qs) = refl

  removed_elsewhere : (old : Pointer → Option (Node T)) (p : Pointer) (new : Pointer → Option (Node T)) (ps : List Pointer) (rest : Option Pointer)
      → IsRemoved old p new → IsRun old ps rest → ((r : Pointer) → Contains ps r → p ≢ r) → ((r : Pointer) → Contains ps r → before_at old p ≢ Some r)
      → IsRun new ps rest × (values_at new ps ≡ values_at old ps)
  removed_elsewhere old p new ps rest done run away apart =
      stays old new ps rest run (λ r within there. let other : r ≢ p = λ e. away r within (sym e) in (done.values r other, done.afters r other (apart r within)))

  -- what one of a run leads on to is of the run, or comes after it
  pub next_in : (nodes : Pointer → Option (Node T)) (ps : List Pointer) (rest : Option Pointer) (r p : Pointer) → IsRun nodes ps rest → Contains ps r → after_at nodes r ≡ Some p → Contains ps p ⊎ (rest ≡ Some p)
  next_in nodes [] rest r p run (k, within, is) leads = absurd (omega arith)
  next_in nodes (x ∷ ps) rest r p run (zero, within, is) leads = by_next ps (sym run.1 ∙ ap (after_at nodes) is ∙ leads)
    where
      by_next : (qs : List Pointer) → first_of qs rest ≡ Some p → Contains (x ∷ qs) p ⊎ (rest ≡ Some p)
      by_next [] e = inr e
      by_next (q ∷ qs) e = inl (in_tail x p (q ∷ qs) (zero, omega arith, same_pointer q p e))
  next_in nodes (x ∷ ps) rest r p run (suc k, within, is) leads =
      elim (next_in nodes ps rest r p run.2 (k, omega (arith, within), is) leads) [
        | inl there ↦ inl (in_tail x p ps there)
        | inr e ↦ inr e
      ]

  pub removed_run : (old : Pointer → Option (Node T)) (p : Pointer) (new : Pointer → Option (Node T)) (xs ys : List Pointer) (rest : Option Pointer)
      → IsLinked old → IsRemoved old p new → IsRun old (xs ++ p ∷ ys) rest
      → ((r : Pointer) → Contains xs r → p ≢ r) → ((r : Pointer) → Contains ys r → p ≢ r) → rest ≢ Some p
      → IsRun new (xs ++ ys) rest × (values_at new (xs ++ ys) ≡ values_at old xs ++ values_at old ys)
  removed_run old p new [] ys rest linked done run before behind apart_from =
      removed_elsewhere old p new ys rest done run.2 behind
      (λ r within e. elim (next_in old ys rest r p run.2 within ((linked r p).1 e)) [
        | inl there ↦ behind p there refl
        | inr last ↦ apart_from last
      ])
  removed_run old p new (x ∷ []) ys rest linked done run before behind apart_from =
      let later = removed_run old p new [] ys rest linked done run.2 (λ r within. absurd (none_in r within)) behind apart_from in
      let other : x ≢ p = λ e. before x (in_head x []) (sym e) in
      let on : after_at new x ≡ first_of ys rest = done.after_prev x other ((linked x p).0 run.1) ∙ run.2.1 in
      ((valued (old x) (new x) run.0 (done.values x other), on, later.0), ap (λ v. v ∷ values_at new ys) (done.values x other) ∙ ap (λ vs. value_at old x ∷ vs) later.1)
  removed_run old p new (x ∷ y ∷ xs) ys rest linked done run before behind apart_from =
      let later = removed_run old p new (y ∷ xs) ys rest linked done run.2 (λ r within. before r (in_tail x r (y ∷ xs) within)) behind apart_from in
      let other : x ≢ p = λ e. before x (in_head x (y ∷ xs)) (sym e) in
      let next : y ≢ p = λ e. before y (in_tail x y (y ∷ xs) (in_head y xs)) (sym e) in
      let apart : before_at old p ≢ Some x = λ e. next (same_pointer y p (sym run.1 ∙ (linked x p).1 e)) in
      ((valued (old x) (new x) run.0 (done.values x other), done.afters x other apart ∙ run.1, later.0), ap (λ v. v ∷ values_at new (y ∷ xs ++ ys)) (done.values x other) ∙ ap (λ vs. value_at old x ∷ vs) later.1)

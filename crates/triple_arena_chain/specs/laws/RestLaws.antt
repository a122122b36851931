-- What an advancer answers over chains that stay.
use Rattle.std.specs.Prelude.{List, [], ◌∷◌, ◌++◌, Contains}
use Rattle.std.proofs.Common.{◌≡◌, ◌≢◌, ◌⊎◌, ℕ, zero, suc, ◌+◌, ◌-◌, ◌≤◌, ◌==◌, ◌||◌, Bool, true, false, cond, length, inl, inr, Option, Some, None, IsSome, refl, sym, ap, ◌∙◌, subst, arith, length-append}
use Rattle.std.proofs.lemmas.Bool.{eqb-true, true≢false}
use Rattle.std.specs.Option.{option_eq}
use Rattle.triple_arena_ptr.specs.Pointers.{Pointer, is_same}
use Rattle.triple_arena.specs.laws.PointerListLaws.{same_is, same_itself}
use Rattle.triple_arena_chain.specs.Chains.{Node, after_at, before_at, IsLinked, IsRun, ChainStand, begun_at, passed, AreOnce, Answers, IsRest}
use Rattle.triple_arena_chain.specs.laws.LinkLaws.{same_pointer, leads_back_there}
use Rattle.triple_arena_chain.specs.laws.RunLaws.{in_head, in_tail, run_there}
use Rattle.triple_arena_chain.specs.laws.NodeLaws.{not_there}

-- the places around one of a list
pub split_at : (ys : List Pointer) (x : Pointer) → Contains ys x → (front : List Pointer) × (back : List Pointer) × (ys ≡ front ++ x ∷ back)
split_at [] x (k, within, is) = absurd (omega arith)
split_at (y ∷ ys) x (zero, within, is) = ([], ys, ap (λ z. z ∷ ys) is)
split_at (y ∷ ys) x (suc k, within, is) =
    let more = split_at ys x (k, omega (arith, within), is) in
    (y ∷ more.0, more.1, ap (λ zs. y ∷ zs) more.2)

pub in_rest : (front : List Pointer) (x : Pointer) (back : List Pointer) (y : Pointer) → Contains (front ++ x ∷ back) y → x ≢ y → Contains (front ++ back) y
in_rest [] x back y (zero, within, is) other = absurd (other is)
in_rest [] x back y (suc k, within, is) other = (k, omega (arith, within), is)
in_rest (a ∷ front) x back y (zero, within, is) other = (zero, omega arith, is)
in_rest (a ∷ front) x back y (suc k, within, is) other = in_tail a y (front ++ back) (in_rest front x back y (k, omega (arith, within), is) other)

-- of pointers each once there are no more than of those among which they are
pub no_more : (xs ys : List Pointer) → AreOnce xs → ((p : Pointer) → Contains xs p → Contains ys p) → length xs ≤ length ys
no_more [] ys once among = omega arith
no_more (x ∷ xs) ys once among =
    let place = split_at ys x (among x (in_head x xs)) in
    let fewer : length xs ≤ length (place.0 ++ place.1) =
    no_more xs (place.0 ++ place.1) once.1
    (λ p within. in_rest place.0 x place.1 p (subst (λ zs. Contains zs p) place.2 (among p (in_tail x p xs within))) (once.0 p within)) in
    let all : length ys ≡ length (place.0 ++ x ∷ place.1) = ap length place.2 in
    let left = length-append place.0 place.1 in
    let right = length-append place.0 (x ∷ place.1) in
    omega (arith, fewer, all, left, right)

module _ {T : Type 0} (nodes : Pointer → Option (Node T)) (linked : IsLinked nodes) where
  -- what stands in a run behind its head is led to by one of it
  led_in : (x : Pointer) (xs : List Pointer) (rest : Option Pointer) (q : Pointer) → IsRun nodes (x ∷ xs) rest → Contains xs q
      → (w : Pointer) × Contains (x ∷ xs) w × (after_at nodes w ≡ Some q)
  led_in x [] rest q run (k, within, is) = absurd (omega arith)
  led_in x (y ∷ ys) rest q run (zero, within, is) = (x, in_head x (y ∷ ys), run.1 ∙ ap Some is)
  led_in x (y ∷ ys) rest q run (suc k, within, is) =
      let more = led_in y ys rest q run.2 (k, omega (arith, within), is) in
      (more.0, in_tail x more.0 (y ∷ ys) more.1, more.2)

  -- a run that doesn't come back to its head has each pointer once
  pub run_once : (x : Pointer) (xs : List Pointer) (rest : Option Pointer) → IsRun nodes (x ∷ xs) rest → ((q : Pointer) → Contains xs q → x ≢ q) → AreOnce (x ∷ xs)
  run_once x [] rest run apart = (apart, tt)
  run_once x (y ∷ ys) rest run apart = (
    apart,
    run_once y ys rest run.2
        (λ q within same.
        let led = led_in y ys rest q run.2 within in
        let twice : x ≡ led.0 = same_pointer x led.0 (sym ((linked x y).0 run.1) ∙ ap (before_at nodes) same ∙ (linked led.0 q).0 led.2) in
        apart led.0 led.1 twice),
  )

  -- what the answers from a stand on are, where the first is this
  record Gone (s : ChainStand) (p : Pointer) (qs : List Pointer) : Type 0 where
    then : Option Pointer
    run : IsRun nodes (p ∷ qs) then
    never : (q : Pointer) → Contains qs q → s.first ≢ Some q
    end : (then ≡ None) ⊎ ((then ≡ s.first) ⊎ (length (p ∷ qs) ≡ s.left + 1))

  went_on : (b : Bool) (a : Option Pointer) (q : Pointer) → cond b None a ≡ Some q → (b ≡ false) × (a ≡ Some q)
  went_on true a q e = absurd (cc)
  went_on false a q e = (refl, e)

  neither : (a b : Bool) → (a || b) ≡ false → (a ≡ false) × (b ≡ false)
  neither true b e = absurd (true≢false e)
  neither false b e = (refl, e)

  one_of : (a b : Bool) → (a || b) ≡ true → (a ≡ true) ⊎ (b ≡ true)
  one_of true b e = inl refl
  one_of false b e = inr e

  same_first : (o : Option Pointer) (q : Pointer) → option_eq is_same o (Some q) ≡ true → o ≡ Some q
  same_first None q e = absurd (true≢false (sym e))
  same_first (Some p) q e = ap Some (same_is p q e)

  other_first : (o : Option Pointer) (q : Pointer) → option_eq is_same o (Some q) ≡ false → o ≢ Some q
  other_first o q e same = true≢false (sym (ap (λ p. option_eq is_same p (Some q)) same ∙ same_itself q) ∙ e)

  goes : (s : ChainStand) (p : Pointer) (qs : List Pointer) → Answers nodes s (p ∷ qs) → Gone s p qs
  goes s p [] answers =
      let step = answers.1 in
      record {
        then = after_at nodes p;
        run = (step.1, refl, tt);
        never = λ q within. absurd (omega (arith, within.1));
        end = by_next (after_at nodes p) refl;
      }
    where
      by_next : (o : Option Pointer) → after_at nodes p ≡ o → (after_at nodes p ≡ None) ⊎ ((after_at nodes p ≡ s.first) ⊎ (length (p ∷ []) ≡ s.left + 1))
      by_next None is = inl is
      by_next (Some y) is = by_test (s.left == 0 || option_eq is_same s.first (Some y)) refl
        where
          by_test : (b : Bool) → (s.left == 0 || option_eq is_same s.first (Some y)) ≡ b → (after_at nodes p ≡ None) ⊎ ((after_at nodes p ≡ s.first) ⊎ (length (p ∷ []) ≡ s.left + 1))
          by_test true e =
              elim (one_of (s.left == 0) (option_eq is_same s.first (Some y)) e) [
                | inl out ↦ let none : s.left ≡ 0 = eqb-true s.left 0 out in inr (inr (omega (arith, none)))
                | inr round ↦ inr (inl (is ∙ sym (same_first s.first y round)))
              ]
          by_test false e =
              let next : (passed s (after_at nodes p)).next ≡ Some y = ap (λ o. cond (s.left == 0 || option_eq is_same s.first o) None o) is ∙ ap (λ b. cond b None (Some y)) e in
              let gone : nodes y ≡ None = answers.2.0 y (ap (λ (t : ChainStand). t.next) answers.1.2 ∙ next) in
              absurd (not_there (nodes y) gone (leads_back_there nodes y p ((linked p y).0 is)))
  goes s p (q ∷ qs) answers =
      let step = answers.1 in
      let later = goes answers.0 q qs answers.2 in
      let on = went_on (s.left == 0 || option_eq is_same s.first (after_at nodes p)) (after_at nodes p) q (sym (ap (λ (t : ChainStand). t.next) step.2) ∙ answers.2.1.0) in
      let tests = neither (s.left == 0) (option_eq is_same s.first (after_at nodes p)) on.0 in
      let first : answers.0.first ≡ s.first = ap (λ (t : ChainStand). t.first) step.2 in
      let left : answers.0.left ≡ s.left - 1 = ap (λ (t : ChainStand). t.left) step.2 in
      let some_left : s.left ≢ 0 = λ e. true≢false (sym (ap (λ n. n == 0) e) ∙ tests.0) in
      record {
        then = later.then;
        run = (step.1, on.1, later.run);
        never = never later first (ap (option_eq is_same s.first) (sym on.1) ∙ tests.1);
        end = elim later.end [
          | inl none ↦ inl none
          | inr more ↦ elim more [
            | inl round ↦ inr (inl (round ∙ first))
            | inr out ↦ inr (inr (omega (arith, out, left, some_left)))
          ]
        ];
      }
    where
      never : Gone answers.0 q qs → answers.0.first ≡ s.first → option_eq is_same s.first (Some q) ≡ false → (r : Pointer) → Contains (q ∷ qs) r → s.first ≢ Some r
      never later first other r (zero, within, is) e = other_first s.first q other (e ∙ ap Some (sym is))
      never later first other r (suc k, within, is) e = later.never r (k, omega (arith, within), is) (first ∙ e)

  -- from one pointer on they are the rest of its chain, where at least as many may be answered as there are
  pub answers_rest : (p : Pointer) (left : ℕ) (ps : List Pointer) (all : List Pointer) → IsSome (nodes p) → Answers nodes (begun_at p left) ps
      → ((q : Pointer) → IsSome (nodes q) → Contains all q) → length all ≤ left → IsRest nodes p ps
  answers_rest p left [] all there answers among enough = absurd (not_there (nodes p) (answers.0 p refl) there)
  answers_rest p left (r ∷ rs) all there answers among enough =
      let gone = goes (begun_at p left) r rs answers in
      let same : p ≡ r = same_pointer p r answers.1.0 in
      let once : AreOnce (r ∷ rs) = run_once r rs gone.then gone.run (λ q within e. gone.never q within (ap Some (same ∙ e))) in
      let few : length (r ∷ rs) ≤ length all = no_more (r ∷ rs) all once (λ q within. among q (run_there nodes (r ∷ rs) gone.then gone.run q within)) in
      record {
        then = gone.then;
        run = gone.run;
        first = ap Some (sym same);
        once = once;
        whole = elim gone.end [
          | inl none ↦ inl none
          | inr more ↦ elim more [
            | inl round ↦ inr round
            | inr out ↦ absurd (omega (arith, out, few, enough))
          ]
        ];
      }

-- What look-ups find after a change at one index.
use Rattle.std.proofs.Common.{◌≡◌, ◌≢◌, ℕ, List, Option, Some, None, IsSome, Result, Ok, Err, IfOk, OnOk, cond, refl, sym, ap, subst, ◌∙◌}
use Rattle.std.specs.Option.{option_and_then, option_map}
use Rattle.triple_arena_ptr.specs.Pointers.{Pointer}
use Rattle.triple_arena_traits.specs.Entries.{entry_in, value_of_generation, look_up, ChangesAt, KeepsEntries}
use Rattle.triple_arena_traits.specs.laws.ItemLaws.{eq_true, eq_false}
use Rattle.triple_arena_traits.specs.laws.WellFormedLaws.{entry_of_value}

module _ {T : Type 0} (old new : List (Option (ℕ × T))) where
  -- pointers of other indexes find what they found
  pub others_found : (i : ℕ) (e : Option (ℕ × T)) → ChangesAt old i e new → (q : Pointer) → q.0 ≢ i → look_up new q ≡ look_up old q
  others_found i e change q away = ap (option_and_then (value_of_generation q.1)) (change.others q.0 away)

  -- the pointer of a new entry finds its value
  pub new_found : (p next : Pointer) (v : T) → p ≡ next → ChangesAt old next.0 (Some (next.1, v)) new → look_up new p ≡ Some v
  new_found p next v is change =
      ap (look_up new) is ∙ ap (option_and_then (value_of_generation next.1)) change.there ∙ ap (λ b. cond b (Some v) None) (eq_true next.1 next.1 refl)

  -- growth before a new entry makes no difference
  pub change_grown : (grown : List (Option (ℕ × T))) (next later : Pointer) (v : T) → later ≡ next → KeepsEntries old grown → ChangesAt grown later.0 (Some (later.1, v)) new → ChangesAt old next.0 (Some (next.1, v)) new
  change_grown grown next later v same kept change =
      let There : Pointer → Type 0 = λ p. entry_in new p.0 ≡ Some (p.1, v) in
      record {
        there = subst There same change.there;
        others = λ j other. change.others j (λ here. other (here ∙ ap (λ (p : Pointer). p.0) same)) ∙ kept j;
      }

  -- an entry that has a new generation is found under it
  pub renewed_found : (p : Pointer) (generation : ℕ) → IsSome (look_up old p) → ChangesAt old p.0 (option_map (λ e. (generation, e.1)) (entry_in old p.0)) new → look_up new (p.0, generation) ≡ look_up old p
  renewed_found p generation live change =
      let found = entry_of_value old p.0 p.1 live in
      ap (option_and_then (value_of_generation generation)) (change.there ∙ ap (option_map (λ (e : ℕ × T). (generation, e.1))) found.1)
      ∙ ap (λ b. cond b (Some found.0) None) (eq_true generation generation refl)
      ∙ sym found.2

  -- and under no other
  pub renewed_gone : (p : Pointer) (generation : ℕ) → IsSome (look_up old p) → ChangesAt old p.0 (option_map (λ e. (generation, e.1)) (entry_in old p.0)) new → generation ≢ p.1 → look_up new p ≡ None
  renewed_gone p generation live change other =
      let found = entry_of_value old p.0 p.1 live in
      ap (option_and_then (value_of_generation p.1)) (change.there ∙ ap (option_map (λ (e : ℕ × T). (generation, e.1))) found.1)
      ∙ ap (λ b. cond b (Some found.0) None) (eq_false generation p.1 other)

-- the same of a call that inserts a value where it succeeds, and gives the pointer
module _ {A X E T : Type 0} (slots : A → List (Option (ℕ × T))) (numbers : X → Pointer) (next : Pointer) (v : T) (old now new : A) (change : ChangesAt (slots old) next.0 (Some (next.1, v)) (slots new)) where
  pub found_on_success : (r : Result X E) → IfOk r (λ p. numbers p ≡ next) → OnOk r (now ≡ new) → IfOk r (λ p. look_up (slots now) (numbers p) ≡ Some v)
  found_on_success (Ok p) pointer is = rw is (new_found (slots old) (slots new) (numbers p) next v pointer change)
  found_on_success (Err e) pointer is = pointer

  pub others_on_success : (r : Result X E) → IfOk r (λ p. numbers p ≡ next) → OnOk r (now ≡ new) → IfOk r (λ p. (q : Pointer) → q.0 ≢ (numbers p).0 → look_up (slots now) q ≡ look_up (slots old) q)
  others_on_success (Ok p) pointer is =
      λ q away. rw is (others_found (slots old) (slots new) next.0 (Some (next.1, v)) change q (λ here. away (here ∙ sym (ap (λ (n : Pointer). n.0) pointer))))
  others_on_success (Err e) pointer is = pointer

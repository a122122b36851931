-- What is read after one entry leads on to another, and one leads back.
use Rattle.std.proofs.Common.{◌≡◌, ◌≢◌, Bool, true, false, cond, Option, Some, None, IsSome, refl, sym, ap, ◌∙◌, subst}
use Rattle.std.specs.Option.{option_map, option_and_then}
use Rattle.triple_arena_ptr.specs.Pointers.{Pointer, is_same}
use Rattle.triple_arena.specs.laws.PointerListLaws.{same_itself, same_is}
use Rattle.triple_arena_chain.specs.Chains.{Node, value_at, after_at, before_at, changed, with_after, with_before, IsTied, IsThere, IsInserted, IsRemoved, IsLinked}
use Rattle.triple_arena_chain.specs.laws.LinkLaws.{leads_on_there, leads_back_there}

module _ {T : Type 0} where
  abbrev value_in : Option (Node T) → Option T
  value_in o = option_map (λ node. node.value) o

  abbrev after_in : Option (Node T) → Option Pointer
  after_in o = option_and_then (λ node. node.after) o

  abbrev before_in : Option (Node T) → Option Pointer
  before_in o = option_and_then (λ node. node.before) o

  -- what a change leaves of a node that it keeps
  pub kept : {A : Type 0} (read : Option (Node T) → A) (change : Node T → Node T) → ((node : Node T) → read (Some (change node)) ≡ read (Some node)) → (at : Option Pointer) (q : Pointer) (o : Option (Node T)) → read (changed at change q o) ≡ read o
  kept read change keeps None q o = refl
  kept read change keeps (Some p) q o = by_same (is_same q p) o
    where
      by_same : (b : Bool) (o : Option (Node T)) → read (cond b (option_map change o) o) ≡ read o
      by_same true None = refl
      by_same true (Some node) = keeps node
      by_same false o = refl

  pub elsewhere : (change : Node T → Node T) (at : Option Pointer) (q : Pointer) (o : Option (Node T)) → at ≢ Some q → changed at change q o ≡ o
  elsewhere change None q o other = refl
  elsewhere change (Some p) q o other = by_same (is_same q p) refl
    where
      by_same : (b : Bool) → is_same q p ≡ b → cond b (option_map change o) o ≡ o
      by_same true e = absurd (other (ap Some (sym (same_is q p e))))
      by_same false e = refl

  pub there : (change : Node T → Node T) (at : Option Pointer) (q : Pointer) (o : Option (Node T)) → at ≡ Some q → changed at change q o ≡ option_map change o
  there change at q o here = ap (λ a. changed a change q o) here ∙ ap (λ b. cond b (option_map change o) o) (same_itself q)

  -- a node that is there, and what leads on from it
  after_set : (o : Option (Node T)) (a : Option Pointer) → IsSome o → after_in (option_map (with_after a) o) ≡ a
  after_set None a some = absurd (cc)
  after_set (Some node) a some = refl

  before_set : (o : Option (Node T)) (b : Option Pointer) → IsSome o → before_in (option_map (with_before b) o) ≡ b
  before_set None b some = absurd (cc)
  before_set (Some node) b some = refl

  module _ (old new : Pointer → Option (Node T)) (prev next after before : Option Pointer)
      (tied : (q : Pointer) → new q ≡ changed next (with_before before) q (changed prev (with_after after) q (old q))) where
    pub tied_values : (r : Pointer) → value_at new r ≡ value_at old r
    tied_values r =
        ap value_in (tied r)
        ∙ kept value_in (with_before before) (λ node. refl) next r (changed prev (with_after after) r (old r))
        ∙ kept value_in (with_after after) (λ node. refl) prev r (old r)

    pub tied_after : (p : Pointer) → prev ≡ Some p → IsSome (old p) → after_at new p ≡ after
    tied_after p here some =
        ap after_in (tied p)
        ∙ kept after_in (with_before before) (λ node. refl) next p (changed prev (with_after after) p (old p))
        ∙ ap after_in (there (with_after after) prev p (old p) here)
        ∙ after_set (old p) after some

    pub tied_afters : (r : Pointer) → prev ≢ Some r → after_at new r ≡ after_at old r
    tied_afters r other =
        ap after_in (tied r)
        ∙ kept after_in (with_before before) (λ node. refl) next r (changed prev (with_after after) r (old r))
        ∙ ap after_in (elsewhere (with_after after) prev r (old r) other)

    pub tied_before : (n : Pointer) → next ≡ Some n → IsSome (old n) → before_at new n ≡ before
    tied_before n here some =
        ap before_in (tied n)
        ∙ ap before_in (there (with_before before) next n (changed prev (with_after after) n (old n)) here)
        ∙ before_set (changed prev (with_after after) n (old n)) before (still prev some)
      where
        still : (at : Option Pointer) → IsSome (old n) → IsSome (changed at (with_after after) n (old n))
        still None some = some
        still (Some p) some = by_same (is_same n p) (old n) some
          where
            by_same : (b : Bool) (o : Option (Node T)) → IsSome o → IsSome (cond b (option_map (with_after after) o) o)
            by_same true None some = some
            by_same true (Some node) some = some
            by_same false o some = some

    pub tied_befores : (r : Pointer) → next ≢ Some r → before_at new r ≡ before_at old r
    tied_befores r other =
        ap before_in (tied r)
        ∙ ap before_in (elsewhere (with_before before) next r (changed prev (with_after after) r (old r)) other)
        ∙ kept before_in (with_after after) (λ node. refl) prev r (old r)

    pub is_tied : IsThere old prev → IsThere old next → IsTied old prev next after before new
    is_tied prev_there next_there = record {
      values = tied_values;
      after_prev = λ p here. tied_after p here (prev_there p here);
      afters = tied_afters;
      before_next = λ n here. tied_before n here (next_there n here);
      befores = tied_befores;
    }

  -- what is there is not what is free
  apart : (o : Pointer → Option (Node T)) (p q : Pointer) → IsSome (o p) → o q ≡ None → p ≢ q
  apart o p q some none same = by_none (o p) some (ap o same ∙ none)
    where
      by_none : (x : Option (Node T)) → IsSome x → x ≡ None → ⊥
      by_none None some e = absurd (cc)
      by_none (Some node) some e = absurd (cc)

  some_of : (o m : Option (Node T)) → m ≡ o → IsSome o → IsSome m
  some_of o m same some = subst IsSome (sym same) some

  -- an insertion, from what the arena leaves and what the neighbours lead to then
  pub is_inserted : (old mid new : Pointer → Option (Node T)) (prev next : Option Pointer) (q : Pointer) (value : T)
      → IsThere old prev → IsThere old next → old q ≡ None → mid q ≡ Some (record { value = value; before = prev; after = next })
      → ((r : Pointer) → r ≢ q → mid r ≡ old r)
      → ((r : Pointer) → new r ≡ changed next (with_before (Some q)) r (changed prev (with_after (Some q)) r (mid r)))
      → IsInserted old prev next q value new
  is_inserted old mid new prev next q value prev_there next_there free found others tied =
      let not_prev : prev ≢ Some q = λ e. apart old q q (prev_there q e) free refl in
      let not_next : next ≢ Some q = λ e. apart old q q (next_there q e) free refl in
      record {
        free = free;
        found =
            tied q
            ∙ elsewhere (with_before (Some q)) next q (changed prev (with_after (Some q)) q (mid q)) not_next
            ∙ elsewhere (with_after (Some q)) prev q (mid q) not_prev
            ∙ found;
        values = λ r other. tied_values mid new prev next (Some q) (Some q) tied r ∙ ap value_in (others r other);
        after_prev = λ p here. tied_after mid new prev next (Some q) (Some q) tied p here (some_of (old p) (mid p) (others p (apart old p q (prev_there p here) free)) (prev_there p here));
        afters = λ r other far. tied_afters mid new prev next (Some q) (Some q) tied r far ∙ ap after_in (others r other);
        before_next = λ n here. tied_before mid new prev next (Some q) (Some q) tied n here (some_of (old n) (mid n) (others n (apart old n q (next_there n here) free)) (next_there n here));
        befores = λ r other far. tied_befores mid new prev next (Some q) (Some q) tied r far ∙ ap before_in (others r other);
      }

  -- a removal
  pub is_removed : (old mid new : Pointer → Option (Node T)) (p : Pointer) → IsLinked old → mid p ≡ None
      → ((r : Pointer) → r ≢ p → mid r ≡ old r)
      → ((r : Pointer) → new r ≡ changed (after_at old p) (with_before (before_at old p)) r (changed (before_at old p) (with_after (after_at old p)) r (mid r)))
      → IsRemoved old p new
  is_removed old mid new p linked gone others tied =
      let prev = before_at old p in
      let next = after_at old p in
      record {
        gone = tied p ∙ nothing next (with_before prev) (changed prev (with_after next) p (mid p)) (nothing prev (with_after next) (mid p) gone);
        values = λ r other. tied_values mid new prev next next prev tied r ∙ ap value_in (others r other);
        after_prev = λ a other here. tied_after mid new prev next next prev tied a here (some_of (old a) (mid a) (others a other) (leads_on_there old a p ((linked a p).1 here)));
        afters = λ r other far. tied_afters mid new prev next next prev tied r far ∙ ap after_in (others r other);
        before_next = λ b other here. tied_before mid new prev next next prev tied b here (some_of (old b) (mid b) (others b other) (leads_back_there old b p ((linked p b).0 here)));
        befores = λ r other far. tied_befores mid new prev next next prev tied r far ∙ ap before_in (others r other);
      }
    where
      nothing : (at : Option Pointer) (change : Node T → Node T) (o : Option (Node T)) → o ≡ None → changed at change p o ≡ None
      nothing None change o none = none
      nothing (Some a) change o none = by_same (is_same p a)
        where
          by_same : (b : Bool) → cond b (option_map change o) o ≡ None
          by_same true = ap (option_map change) none
          by_same false = none

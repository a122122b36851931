-- How often a key gets another set by unions: its set is twice as large each time.
use Rattle.std.specs.Prelude.{List, [], ◌∷◌, ◌++◌, Contains}
use Rattle.std.proofs.Common.{◌≡◌, ◌≢◌, ◌⊎◌, ◌≤◌, ◌+◌, ◌*◌, ◌^◌, ℕ, inl, inr, Option, Some, None, IsSome, refl, sym, ◌∙◌, subst, arith, add-one, length-append}
use Rattle.std.proofs.lemmas.List.Elements.{Contains-append_left, Contains-append_right, Contains-append_cases}
use Rattle.std.proofs.Math.Nat.{mul-le-mul_right, pow-suc}
use Rattle.triple_arena_ptr.specs.Pointers.{Pointer}
use Rattle.triple_arena_chain.specs.Chains.{AreOnce}
use Rattle.triple_arena_chain.specs.laws.LinkLaws.{leads_cases}
use Rattle.triple_arena_chain.specs.laws.RestLaws.{no_more}
use Rattle.triple_arena_chain.specs.laws.OnceLaws.{once_both}
use Rattle.triple_arena_surject.specs.Surject.{SurjectState, set_at, AreTogether, AreOfBoth, HasKeys, IsUnited, IsUnion}
use Rattle.triple_arena_surject.specs.Unions.{AreUnions, last_of, IsRenamedOften}
use Rattle.triple_arena_surject.proofs.Options.{some_there, none_there}

twice_more : (a j : ℕ) → a * 2 ^ (j + 1) ≡ (a + a) * 2 ^ j
twice_more a j = rw (add-one, pow-suc) (omega arith)

module _ {A B K V : Type 0} where
  pub turned : (s : SurjectState A B K V) (p q : Pointer) → AreTogether s p q → AreTogether s q p
  turned s p q is = (subst IsSome is.1 is.0, sym is.1)

  pub through : (s : SurjectState A B K V) (p q r : Pointer) → AreTogether s p q → AreTogether s q r → AreTogether s p r
  through s p q r is also = (is.0, is.1 ∙ also.1)

  pub together_cases : (s : SurjectState A B K V) (p q : Pointer) → AreTogether s p q ⊎ (AreTogether s p q → ⊥)
  together_cases s p q = by_name (set_at s p) refl
    where
      by_name : (o : Option Pointer) → set_at s p ≡ o → AreTogether s p q ⊎ (AreTogether s p q → ⊥)
      by_name None is = inr (λ both. none_there (set_at s p) is both.0)
      by_name (Some c) is =
          elim (leads_cases (set_at s q) c) [
            | inl of ↦ inl (some_there (set_at s p) c is, is ∙ sym of)
            | inr other ↦ inr (λ both. other (sym both.1 ∙ is))
          ]

  -- a set is no larger than one that has each of its keys
  pub as_many : (s t : SurjectState A B K V) (p q : Pointer) (n m : ℕ) → HasKeys s p n → HasKeys t q m → ((r : Pointer) → AreTogether s p r → AreTogether t q r) → n ≤ m
  as_many s t p q n m one other among =
      let few = no_more one.all other.all one.are.once (λ r within. (other.are.among r).0 (among r ((one.are.among r).1 within))) in
      omega (arith, few, one.size, other.size)

  module _ (s : SurjectState A B K V) (kept gone : Pointer) (t : SurjectState A B K V) (done : IsUnited s kept gone t) (n m : ℕ) (ours : HasKeys s kept n) (theirs : HasKeys s gone m) where
    abbrev both : List Pointer
    both = ours.all ++ theirs.all

    both_once : AreOnce both
    both_once = once_both ours.all theirs.all ours.are.once theirs.are.once (λ p here there. done.apart (through s kept p gone ((ours.are.among p).1 here) (turned s gone p ((theirs.are.among p).1 there))))

    among_both : (r x : Pointer) → AreTogether s kept r ⊎ AreTogether s gone r → Contains both x → AreTogether t r x
    among_both r x of within = by_part of (Contains-append_cases ours.all theirs.all x within)
      where
        by_part : AreTogether s kept r ⊎ AreTogether s gone r → Contains ours.all x ⊎ Contains theirs.all x → AreTogether t r x
        by_part (inl is) (inl here) = (done.joined r x).1 (inl (through s r kept x (turned s kept r is) ((ours.are.among x).1 here)))
        by_part (inl is) (inr there) = (done.joined r x).1 (inr (inl (is, (theirs.are.among x).1 there)))
        by_part (inr is) (inl here) = (done.joined r x).1 (inr (inr (is, (ours.are.among x).1 here)))
        by_part (inr is) (inr there) = (done.joined r x).1 (inl (through s r gone x (turned s gone r is) ((theirs.are.among x).1 there)))

    within_both : (r x : Pointer) → AreTogether s kept r ⊎ AreTogether s gone r → AreTogether t r x → Contains both x
    within_both r x of is = by_part of ((done.joined r x).0 is)
      where
        left : AreTogether s kept x → Contains both x
        left at = Contains-append_left ours.all theirs.all x ((ours.are.among x).0 at)

        right : AreTogether s gone x → Contains both x
        right at = Contains-append_right ours.all theirs.all x ((theirs.are.among x).0 at)

        by_part : AreTogether s kept r ⊎ AreTogether s gone r → AreTogether s r x ⊎ AreOfBoth s kept gone r x → Contains both x
        by_part of (inr (inl at)) = right at.1
        by_part of (inr (inr at)) = left at.1
        by_part (inl at) (inl is) = left (through s kept r x at is)
        by_part (inr at) (inl is) = right (through s gone r x at is)

    of_both : (r : Pointer) → AreTogether s kept r ⊎ AreTogether s gone r → HasKeys t r (n + m)
    of_both r of =
        record {
          all = both;
          are = record { once = both_once; among = λ x. (λ is. within_both r x of is, λ within. among_both r x of within) };
          size = omega (arith, length-append ours.all theirs.all, ours.size, theirs.size);
        }

    -- each set is there still, or is part of a larger one
    sized : (r : Pointer) (a : ℕ) → HasKeys s r a → (b : ℕ) × HasKeys t r b
    sized r a has =
        elim (together_cases s kept r) [
          | inl of ↦ (n + m, of_both r (inl of))
          | inr away ↦ elim (together_cases s gone r) [
            | inl of ↦ (n + m, of_both r (inr of))
            | inr far ↦ (
              a,
              record {
                all = has.all;
                are = record {
                  once = has.are.once;
                  among = λ x. (λ is. (has.are.among x).0 (alone x away far ((done.joined r x).0 is)), λ within. (done.joined r x).1 (inl ((has.are.among x).1 within)));
                };
                size = has.size;
              },
            )
          ]
        ]
      where
        alone : (x : Pointer) → (AreTogether s kept r → ⊥) → (AreTogether s gone r → ⊥)
            → AreTogether s r x ⊎ AreOfBoth s kept gone r x → AreTogether s r x
        alone x away far (inl is) = is
        alone x away far (inr (inl at)) = absurd (away at.0)
        alone x away far (inr (inr at)) = absurd (far at.0)

    -- a key whose set has another name then is of a set twice as large
    pub twice : m ≤ n → (r : Pointer) (a b : ℕ) → set_at t r ≢ set_at s r → HasKeys s r a → HasKeys t r b → a + a ≤ b
    twice less r a b renamed has also =
        elim (together_cases s gone r) [
          | inr far ↦ absurd (renamed (done.names r far))
          | inl of ↦
              let few : a ≤ m = as_many s s r gone a m has theirs (λ x is. through s gone r x of is) in
              let all : n + m ≤ b = as_many t t r r (n + m) b (of_both r (inr of)) also (λ x is. is) in
              omega (arith, few, all, less)
        ]

    grown : m ≤ n → (r : Pointer) (a : ℕ) → HasKeys s r a → (b : ℕ) × HasKeys t r b × (a ≤ b) × (set_at t r ≢ set_at s r → a + a ≤ b)
    grown less r a has =
        let after = sized r a has in
        (after.0, after.1, as_many s t r r a after.0 has after.1 (λ x is. (done.joined r x).1 (inl is)), λ renamed. twice less r a after.0 renamed has after.1)

  union_twice : (s t : SurjectState A B K V) (p q : Pointer) (gives : Option V) → IsUnion s p q gives t → (r : Pointer) (a : ℕ) → HasKeys s r a
      → (b : ℕ) × HasKeys t r b × (a ≤ b) × (set_at t r ≢ set_at s r → a + a ≤ b)
  union_twice s t p q gives (inl is) r a has = grown s p q t is.2 is.0.0 is.0.1 is.0.2 is.0.3 is.0.4 r a has
  union_twice s t p q gives (inr is) r a has = grown s q p t is.2 is.0.0 is.0.1 is.0.2 is.0.3 (omega (arith, is.0.4)) r a has

  -- over unions the set of a key is doubled at least as often as it gets another name
  pub doubled : (s : SurjectState A B K V) (ts : List (SurjectState A B K V)) (r : Pointer) (k a b : ℕ) → AreUnions s ts → IsRenamedOften s ts r k → HasKeys s r a → HasKeys (last_of s ts) r b → a * 2 ^ k ≤ b
  doubled s [] r k a b made often has also =
      let same : a ≤ b = as_many s s r r a b has also (λ x is. is) in
      subst (λ n. a * 2 ^ n ≤ b) (sym often) (omega (arith, same))
  doubled s (t ∷ ts) r k a b made (inl is) has also =
      let one = union_twice s t made.0.0 made.0.1 made.0.2 made.0.3 r a has in
      let later : one.0 * 2 ^ k ≤ b = doubled t ts r k one.0 b made.1 is.1 one.1 also in
      let more : a * 2 ^ k ≤ one.0 * 2 ^ k = mul-le-mul_right (2 ^ k) one.2 in
      omega (arith, later, more)
  doubled s (t ∷ ts) r k a b made (inr is) has also =
      let one = union_twice s t made.0.0 made.0.1 made.0.2 made.0.3 r a has in
      let later : one.0 * 2 ^ is.0 ≤ b = doubled t ts r is.0 one.0 b made.1 is.3 one.1 also in
      let more : (a + a) * 2 ^ is.0 ≤ one.0 * 2 ^ is.0 = mul-le-mul_right (2 ^ is.0) (one.3 is.2) in
      let power = twice_more a is.0 in
      subst (λ n. a * 2 ^ n ≤ b) (sym is.1) (omega (arith, power, later, more))

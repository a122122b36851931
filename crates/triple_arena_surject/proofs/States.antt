-- What a state is read of, and what it says of a pointer by that.
use Rattle.std.specs.Prelude.{List, [], ◌∷◌}
use Rattle.std.proofs.Common.{◌≡◌, ◌↔◌, ◌⊎◌, inl, inr, ℕ, Result, Err, Option, Some, None, is_some, IsSome, refl, sym, ap, ◌∙◌, subst}
use Rattle.std.specs.Option.{option_map, option_and_then}
use Rattle.triple_arena_ptr.specs.Pointers.{Pointer}
use Rattle.triple_arena.specs.Entries.{look_up}
use Rattle.triple_arena.specs.laws.LookUpLaws.{found_mapped}
use Rattle.triple_arena_chain.specs.Chains.{Node, ChainState, nodes, value_at, IsLinked}
use Rattle.triple_arena_chain.specs.laws.RunLaws.{in_head, none_in}
use Rattle.triple_arena_surject.specs.declared.member.Member.{Member}
use Rattle.triple_arena_surject.specs.declared.member.Shared.{Shared}
use Rattle.triple_arena_surject.specs.Rings.{counts, label, IsRound, IsSound}
use Rattle.triple_arena_surject.specs.Surject.{SurjectState, found_at, key_at, set_at, named, val_at, AreTogether, AreKeys, HasKeys, EachHasOther, key_of, value_of, state_of}
use Rattle.triple_arena_surject.proofs.Options.{some_there, none_there, some_is, some_of_map, map_of_some}
use Rattle.triple_arena_surject.proofs.Rounds.{round_once, ring_from}

module _ {A B K V : Type 0} (s : SurjectState A B K V) where
  -- a pointer that finds something isn't told to find nothing
  pub never : {R E : Type 0} (p : Pointer) (r : Result R E) (e : E) → IsSome (found_at s p) → (r ≡ Err e → ⊥) → (r ≡ Err e) ↔ (found_at s p ≡ None)
  never p r e some other = (λ is. absurd (other is), λ none. absurd (none_there (found_at s p) none some))

  pub never_both : {R E : Type 0} (p q : Pointer) (r : Result R E) (e : E) → IsSome (found_at s p) → IsSome (found_at s q) → (r ≡ Err e → ⊥)
      → (r ≡ Err e) ↔ ((found_at s p ≡ None) ⊎ (found_at s q ≡ None))
  never_both p q r e some also other = (
    λ is. absurd (other is),
    λ none. elim none [
      | inl none_p ↦ absurd (none_there (found_at s p) none_p some)
      | inr none_q ↦ absurd (none_there (found_at s q) none_q also)
    ],
  )

  -- a pointer that finds nothing is of no set
  pub no_keys : (p : Pointer) → set_at s p ≡ None → AreKeys s p []
  no_keys p none = record { once = tt; among = λ q. (λ is. absurd (none_there (set_at s p) none is.0), λ within. absurd (none_in q within)) }

  -- a pointer that finds something is of its own set
  pub itself : (p : Pointer) → IsSome (found_at s p) → AreTogether s p p
  itself p some = (map_of_some (λ m. m.1) (found_at s p) some, refl)

-- the same value is the same key of the same set
pub read_same : {P K : Type 0} (numbers : P → Pointer) (o n : Option (Node (Member P K))) → option_map (λ (n : Node (Member P K)). n.value) n ≡ option_map (λ (n : Node (Member P K)). n.value) o
    → option_map (key_of numbers) n ≡ option_map (key_of numbers) o
read_same numbers None None e = refl
read_same numbers None (Some n) e = absurd (cc)
read_same numbers (Some o) None e = absurd (cc)
read_same {P = P} {K = K} numbers (Some o) (Some n) e = let same : n.value ≡ o.value = cc in ap (λ (m : Member P K). Some (m.key, numbers m.set)) same

module _ {A B P K V : Type 0} (numbers : P → Pointer) where
  -- what is found are the keys of these nodes, and what sets have, the values of these slots
  pub record IsRead (found : Pointer → Option (Node (Member P K))) (slots : List (Option (ℕ × Shared V))) (s : SurjectState A B K V) : Type 0 where
    pub keys : (p : Pointer) → found_at s p ≡ option_map (key_of numbers) (found p)
    pub vals : (c : Pointer) → named s c ≡ option_map value_of (look_up slots c)

  pub read : (sets : B) (chains : ChainState A (Member P K)) (slots : List (Option (ℕ × Shared V))) (capacity : ℕ) (limit : Option ℕ) (s : SurjectState A B K V) → state_of numbers sets chains slots capacity limit ≡ s
      → IsRead (nodes chains) slots s
  read sets chains slots capacity limit s is = subst (IsRead (nodes chains) slots) is (record { keys = found_mapped (key_of numbers) chains.slots; vals = found_mapped value_of slots })

-- the set of a key is there
pub shared_there : {P K V : Type 0} {numbers : P → Pointer} {found : Pointer → Option (Node (Member P K))} (slots : List (Option (ℕ × Shared V))) → IsSound numbers found (counts slots) → (p c : Pointer) → label numbers found p ≡ Some c
    → IsSome (look_up slots c)
shared_there {V = V} slots sound p c of = some_of_map (λ (shared : Shared V). shared.keys) (look_up slots c) (sound.counted p c of)

pub no_share : {P K V : Type 0} {numbers : P → Pointer} {found : Pointer → Option (Node (Member P K))} (slots : List (Option (ℕ × Shared V))) → IsSound numbers found (counts slots) → (p c : Pointer) → label numbers found p ≡ Some c
    → look_up slots c ≡ None → ⊥
no_share slots sound p c of none = none_there (look_up slots c) none (shared_there slots sound p c of)

module _ {A B P K V : Type 0} {numbers : P → Pointer} {found : Pointer → Option (Node (Member P K))} {slots : List (Option (ℕ × Shared V))} {s : SurjectState A B K V} (is : IsRead numbers found slots s) where
  pub there_is : (p : Pointer) → is_some (found p) ≡ is_some (found_at s p)
  there_is p = by_node (found p) ∙ sym (ap is_some (is.keys p))
    where
      by_node : (o : Option (Node (Member P K))) → is_some o ≡ is_some (option_map (key_of numbers) o)
      by_node None = refl
      by_node (Some node) = refl

  pub set_is : (p : Pointer) → set_at s p ≡ label numbers found p
  set_is p = ap (option_map (λ m. m.1)) (is.keys p) ∙ by_node (found p)
    where
      by_node : (o : Option (Node (Member P K))) → option_map (λ m. m.1) (option_map (key_of numbers) o) ≡ option_map (λ (m : Member P K). numbers m.set) (option_map (λ (n : Node (Member P K)). n.value) o)
      by_node None = refl
      by_node (Some node) = refl

  pub key_is : (p : Pointer) → key_at s p ≡ option_map (λ (m : Member P K). m.key) (value_at found p)
  key_is p = ap (option_map (λ m. m.0)) (is.keys p) ∙ by_node (found p)
    where
      by_node : (o : Option (Node (Member P K))) → option_map (λ m. m.0) (option_map (key_of numbers) o) ≡ option_map (λ (m : Member P K). m.key) (option_map (λ (n : Node (Member P K)). n.value) o)
      by_node None = refl
      by_node (Some node) = refl

  pub val_is : (p c : Pointer) → label numbers found p ≡ Some c → val_at s p ≡ option_map value_of (look_up slots c)
  val_is p c of = ap (option_and_then (named s)) (set_is p ∙ of) ∙ is.vals c

  pub found_there : (p c : Pointer) → label numbers found p ≡ Some c → IsSome (found_at s p)
  found_there p c of = some_of_map (λ m. m.1) (found_at s p) (some_there (set_at s p) c (set_is p ∙ of))

  -- what is told of the set of a pointer that finds something is told
  pub set_there : (p : Pointer) → IsSome (found_at s p) → (o : Option P) → option_map numbers o ≡ label numbers found p → IsSome o
  set_there p some o told = some_of_map numbers o (subst IsSome (set_is p ∙ sym told) (map_of_some (λ m. m.1) (found_at s p) some))

  -- pointers are together where their sets have one name
  pub together : (p q c : Pointer) → label numbers found p ≡ Some c → label numbers found q ≡ Some c → AreTogether s p q
  together p q c of also = (some_there (set_at s p) c (set_is p ∙ of), set_is p ∙ of ∙ sym (set_is q ∙ also))

  pub together_is : (p q c : Pointer) → label numbers found p ≡ Some c → AreTogether s p q → label numbers found q ≡ Some c
  together_is p q c of with = sym (set_is q) ∙ sym with.1 ∙ set_is p ∙ of

  -- the keys of a set are those of its ring
  pub are_keys : IsLinked found → (p c : Pointer) (n : ℕ) (rest : List Pointer) → IsRound numbers found c n p rest → AreKeys s p (p ∷ rest)
  are_keys linked p c n rest round =
      let of = (round.among p).1 (in_head p rest) in
      record {
        once = round_once numbers found linked c n p rest round;
        among = λ q. (λ with. (round.among q).0 (together_is p q c of with), λ within. together p q c of ((round.among q).1 within));
      }

  module _ (sound : IsSound numbers found (counts slots)) where
    pub onto : EachHasOther s
    onto = record {
      valued = λ p some.
          let name = some_is (set_at s p) (map_of_some (λ m. m.1) (found_at s p) some) in
          let of : label numbers found p ≡ Some name.0 = sym (set_is p) ∙ name.1 in
          subst IsSome (sym (val_is p name.0 of)) (map_of_some value_of (look_up slots name.0) (shared_there slots sound p name.0 of));
      keyed = λ c some.
          let shared = some_is (look_up slots c) (some_of_map value_of (look_up slots c) (subst IsSome (is.vals c) some)) in
          let ring = sound.rings c shared.0.keys (ap (option_map (λ (shared : Shared V). shared.keys)) shared.1) in
          (ring.0, set_is ring.0 ∙ (ring.2.among ring.0).1 (in_head ring.0 ring.1));
    }

    -- a set has as many keys as it counts
    pub has_keys : IsLinked found → (p c : Pointer) (shared : Shared V) → label numbers found p ≡ Some c → look_up slots c ≡ Some shared → HasKeys s p shared.keys
    has_keys linked p c shared of told =
        let from = ring_from numbers found linked c shared.keys (sound.rings c shared.keys (ap (option_map (λ (shared : Shared V). shared.keys)) told)) p of in
        record { all = p ∷ from.0; are = are_keys linked p c shared.keys from.0 from.1; size = from.1.size }

-- What always holds of the keys: those of a set stand in one ring of a chain, and the set's value counts them.
use Rattle.std.specs.Prelude.{◌≡◌, ◌≢◌, ◌↔◌, ℕ, zero, suc, ◌+◌, List, [], ◌∷◌, length, Option, None, Some, IsSome, Contains}
use Rattle.std.specs.Option.{option_map}
use Rattle.triple_arena_ptr.specs.Pointers.{Pointer}
use Rattle.triple_arena.specs.Entries.{look_up}
use Rattle.triple_arena_chain.specs.Chains.{Node, value_at, after_at, IsRun}
use Rattle.triple_arena_surject.specs.declared.member.Member.{Member}
use Rattle.triple_arena_surject.specs.declared.member.Shared.{Shared}

-- how many keys each set has, by its name
abbrev pub counts : {V : Type 0} → List (Option (ℕ × Shared V)) → Pointer → Option ℕ
counts slots c = option_map (λ shared. shared.keys) (look_up slots c)

-- at most so many pointers, from one on, each by what leads on from the one before it
abbrev pub along : {T : Type 0} → (Pointer → Option (Node T)) → ℕ → (next : Option Pointer) → List Pointer
along nodes zero next = []
along nodes (suc n) None = []
along nodes (suc n) (Some p) = p ∷ along nodes n (after_at nodes p)

module _ {P K : Type 0} (numbers : P → Pointer) where
  -- the name of the set of a pointer
  abbrev pub label : (Pointer → Option (Node (Member P K))) → Pointer → Option Pointer
  label nodes p = option_map (λ member. numbers member.set) (value_at nodes p)

  -- from this pointer on these stand in a ring, each once; they are the keys of that set, and so many
  pub record IsRound (nodes : Pointer → Option (Node (Member P K))) (c : Pointer) (n : ℕ) (p : Pointer) (rest : List Pointer) : Type 0 where
    pub run : IsRun nodes (p ∷ rest) (Some p)
    pub apart : (q : Pointer) → Contains rest q → p ≢ q
    pub among : (q : Pointer) → (label nodes q ≡ Some c) ↔ Contains (p ∷ rest) q
    pub size : length (p ∷ rest) ≡ n

  abbrev pub IsRing : (Pointer → Option (Node (Member P K))) → Pointer → ℕ → Type 0
  IsRing nodes c n = (p : Pointer) × (rest : List Pointer) × IsRound nodes c n p rest

  -- each key is of a set that is counted, and each set that is counted has its ring
  pub record IsSound (nodes : Pointer → Option (Node (Member P K))) (count : Pointer → Option ℕ) : Type 0 where
    pub counted : (p c : Pointer) → label nodes p ≡ Some c → IsSome (count c)
    pub rings : (c : Pointer) (n : ℕ) → count c ≡ Some n → IsRing nodes c n

-- a key of another set, a set with another count of keys, and one with another value
abbrev pub with_set : {P K : Type 0} → P → Member P K → Member P K
with_set set member = record member { set = set }

abbrev pub with_keys : {V : Type 0} → ℕ → Shared V → Shared V
with_keys keys shared = record shared { keys = keys }

abbrev pub with_value : {V : Type 0} → V → Shared V → Shared V
with_value value shared = record shared { value = value }

-- a set counts one key less; or it had one, and is gone, and this value comes out
abbrev pub CountsLess : {V : Type 0} → (before after : Option (Shared V)) (out : Option V) → Type 0
CountsLess before after None = (n : ℕ) × (option_map (λ shared. shared.keys) before ≡ Some (n + 2)) × (after ≡ option_map (with_keys (n + 1)) before)
CountsLess before after (Some value) = (before ≡ Some (record { value = value; keys = 1 })) × (after ≡ None)

module _ {T : Type 0} where
  -- a value stands under a pointer that found nothing before, alone in a ring; all else is as before
  pub record IsRingOfOne (old : Pointer → Option (Node T)) (q : Pointer) (value : T) (new : Pointer → Option (Node T)) : Type 0 where
    pub free : old q ≡ None
    pub found : value_at new q ≡ Some value
    pub after : after_at new q ≡ Some q
    pub values : (r : Pointer) → r ≢ q → value_at new r ≡ value_at old r
    pub afters : (r : Pointer) → r ≢ q → after_at new r ≡ after_at old r

  -- each of two pointers leads on to what the other led to; all else is as before
  pub record IsSpliced (old : Pointer → Option (Node T)) (p q : Pointer) (new : Pointer → Option (Node T)) : Type 0 where
    pub values : (r : Pointer) → value_at new r ≡ value_at old r
    pub first : after_at new p ≡ after_at old q
    pub second : after_at new q ≡ after_at old p
    pub others : (r : Pointer) → r ≢ p → r ≢ q → after_at new r ≡ after_at old r

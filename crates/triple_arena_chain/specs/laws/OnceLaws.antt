-- Of pointers, each once: how many there are, beside others and among others; and how many entries are left where some are gone.
use Rattle.std.specs.Prelude.{List, [], ◌∷◌, ◌++◌, map, Contains}
use Rattle.std.proofs.Common.{◌≡◌, ◌≢◌, ◌⊎◌, ◌≤◌, ◌+◌, ℕ, Option, None, IsSome, inl, inr, zero, suc, length, refl, sym, ap, ◌∙◌, subst, arith, length-append}
use Rattle.std.proofs.lemmas.List.{length-map}
use Rattle.std.proofs.lemmas.List.Elements.{Contains-append_left, Contains-append_right, Contains-append_cases}
use Rattle.triple_arena_ptr.specs.Pointers.{Pointer}
use Rattle.triple_arena.specs.Entries.{entry_count}
use Rattle.triple_arena.specs.FreeList.{IsRising}
use Rattle.triple_arena.specs.Walks.{keys, entries}
use Rattle.triple_arena.specs.laws.WalkLaws.{live_key, key_live, keys_rising, length-entries}
use Rattle.triple_arena_chain.specs.Chains.{ChainState, nodes, AreOnce}
use Rattle.triple_arena_chain.specs.laws.LinkLaws.{pointer_cases}
use Rattle.triple_arena_chain.specs.laws.NodeLaws.{not_there}
use Rattle.triple_arena_chain.specs.laws.RunLaws.{in_head, in_tail, none_in}
use Rattle.triple_arena_chain.specs.laws.RestLaws.{split_at, in_rest, no_more}

-- what is in two lists, one behind the other, is in them the other way round
pub in_turn : (xs ys : List Pointer) (q : Pointer) → Contains (xs ++ ys) q → Contains (ys ++ xs) q
in_turn xs ys q within =
    elim (Contains-append_cases xs ys q within) [
      | inl there ↦ Contains-append_right ys xs q there
      | inr there ↦ Contains-append_left ys xs q there
    ]

-- what stands once stands neither before itself nor behind
pub once_before : (xs : List Pointer) (p : Pointer) (ys : List Pointer) → AreOnce (xs ++ p ∷ ys) → (r : Pointer) → Contains xs r → p ≢ r
once_before [] p ys once r (k, within, is) e = absurd (omega arith)
once_before (x ∷ xs) p ys once r (zero, within, is) e = once.0 p (Contains-append_right xs (p ∷ ys) p (in_head p ys)) (is ∙ sym e)
once_before (x ∷ xs) p ys once r (suc k, within, is) e = once_before xs p ys once.1 r (k, omega (arith, within), is) e

pub once_behind : (xs : List Pointer) (p : Pointer) (ys : List Pointer) → AreOnce (xs ++ p ∷ ys) → (r : Pointer) → Contains ys r → p ≢ r
once_behind [] p ys once = once.0
once_behind (x ∷ xs) p ys once = once_behind xs p ys once.1

-- what is behind a head
tail_in : (y : Pointer) (ys : List Pointer) (p : Pointer) → y ≢ p → Contains (y ∷ ys) p → Contains ys p
tail_in y ys p other (zero, within, is) = absurd (other is)
tail_in y ys p other (suc k, within, is) = (k, omega (arith, within), is)

pub is_in : (ys : List Pointer) (p : Pointer) → Contains ys p ⊎ (Contains ys p → ⊥)
is_in [] p = inr (none_in p)
is_in (y ∷ ys) p =
    elim (pointer_cases y p) [
      | inl same ↦ inl (zero, omega arith, same)
      | inr other ↦ elim (is_in ys p) [
        | inl there ↦ inl (in_tail y p ys there)
        | inr none ↦ inr (λ within. none (tail_in y ys p other within))
      ]
    ]

pub in_map : (f : Pointer → Pointer) (xs : List Pointer) (p : Pointer) → Contains xs p → Contains (map f xs) (f p)
in_map f [] p within = absurd (none_in p within)
in_map f (x ∷ xs) p (zero, within, is) = (zero, omega arith, ap f is)
in_map f (x ∷ xs) p (suc k, within, is) = in_tail (f x) (f p) (map f xs) (in_map f xs p (k, omega (arith, within), is))

-- pointers whose indexes rise are each once
pub once_rising : (low : ℕ) (ps : List Pointer) → IsRising low (map (λ p. p.0) ps) → AreOnce ps
once_rising low [] rising = tt
once_rising low (p ∷ ps) rising = (λ q within e. above (p.0 + 1) ps rising.1 q within e, once_rising (p.0 + 1) ps rising.1)
  where
    least : (low : ℕ) (ps : List Pointer) → IsRising low (map (λ p. p.0) ps) → (q : Pointer) → Contains ps q → low ≤ q.0
    least low [] rising q within = absurd (none_in q within)
    least low (x ∷ xs) rising q (zero, within, is) = subst (λ (y : Pointer). low ≤ y.0) is rising.0
    least low (x ∷ xs) rising q (suc k, within, is) =
        let more = least (x.0 + 1) xs rising.1 q (k, omega (arith, within), is) in
        omega (arith, more, rising.0)

    above : (low : ℕ) (ps : List Pointer) → IsRising (p.0 + 1) (map (λ p. p.0) ps) → (q : Pointer) → Contains ps q → p ≡ q → ⊥
    above low ps rising q within e =
        let more = least (p.0 + 1) ps rising q within in
        let same : p.0 ≡ q.0 = ap (λ (x : Pointer). x.0) e in
        omega (arith, more, same)

-- pointers each once, and others each once, are each once together
pub once_both : (xs ys : List Pointer) → AreOnce xs → AreOnce ys → ((p : Pointer) → Contains xs p → Contains ys p → ⊥) → AreOnce (xs ++ ys)
once_both [] ys once also apart = also
once_both (x ∷ xs) ys once also apart = (
  λ q within e. elim (Contains-append_cases xs ys q within) [
    | inl there ↦ once.0 q there e
    | inr there ↦ apart x (zero, omega arith, refl) (subst (Contains ys) (sym e) there)
  ],
  once_both xs ys once.1 also (λ p (k, within, is) there. apart p (suc k, omega (arith, within), is) there),
)

-- what is in two parts, each of which it has, is as many as both are
pub parted : (all left gone : List Pointer) → AreOnce all → AreOnce left → AreOnce gone → ((p : Pointer) → Contains left p → Contains gone p → ⊥)
    → ((p : Pointer) → Contains all p → Contains left p ⊎ Contains gone p) → ((p : Pointer) → Contains left p ⊎ Contains gone p → Contains all p)
    → length left + length gone ≡ length all
parted all left gone once once_left once_gone apart parts whole =
    let few : length all ≤ length (left ++ gone) =
    no_more all (left ++ gone) once (λ p within. elim (parts p within) [
      | inl there ↦ Contains-append_left left gone p there
      | inr there ↦ Contains-append_right left gone p there
    ]) in
    let many : length (left ++ gone) ≤ length all =
    no_more (left ++ gone) all (once_both left gone once_left once_gone apart) (λ p within. whole p (Contains-append_cases left gone p within)) in
    omega (arith, few, many, length-append left gone)

-- there are as many keys in an arena as entries
pub many_keys : {T : Type 0} (slots : List (Option (ℕ × T))) → length (keys slots) ≡ entry_count slots
many_keys {T = T} slots = length-map (entries slots) (λ (e : Pointer × T). e.0) ∙ length-entries slots

-- what is left where some entries, each once, are gone
pub fewer : {A T : Type 0} (old new : ChainState A T) (gone : List Pointer) → entry_count old.slots ≡ old.len → entry_count new.slots ≡ new.len → AreOnce gone
    → ((q : Pointer) → Contains gone q → IsSome (nodes old q) × (nodes new q ≡ None)) → ((q : Pointer) → (Contains gone q → ⊥) → nodes new q ≡ nodes old q) → new.len + length gone ≡ old.len
fewer old new gone counted recounted once out same =
    omega (
      arith,
      counted,
      recounted,
      many_keys old.slots,
      many_keys new.slots,
      parted (keys old.slots) (keys new.slots) gone (once_rising 1 (keys old.slots) (keys_rising old.slots)) (once_rising 1 (keys new.slots) (keys_rising new.slots)) once
          (λ p left there. not_there (nodes new p) (out p there).1 (key_live new.slots p left)) parts whole,
    )
  where
    parts : (p : Pointer) → Contains (keys old.slots) p → Contains (keys new.slots) p ⊎ Contains gone p
    parts p within =
        elim (is_in gone p) [
          | inl there ↦ inr there
          | inr none ↦ inl (live_key new.slots p (subst IsSome (sym (same p none)) (key_live old.slots p within)))
        ]

    whole : (p : Pointer) → Contains (keys new.slots) p ⊎ Contains gone p → Contains (keys old.slots) p
    whole p (inr there) = live_key old.slots p (out p there).0
    whole p (inl left) =
        elim (is_in gone p) [
          | inl there ↦ live_key old.slots p (out p there).0
          | inr none ↦ live_key old.slots p (subst IsSome (same p none) (key_live new.slots p left))
        ]

-- as many names as pointers are of one pointer each
pub one_to_one : (f : Pointer → Pointer) (xs ys : List Pointer) → AreOnce ys → ((q : Pointer) → Contains ys q → (p : Pointer) × Contains xs p × (f p ≡ q)) → length xs ≤ length ys
    → (p q : Pointer) → Contains xs p → Contains xs q → f p ≡ f q → p ≡ q
one_to_one f xs ys once from enough p q within there same =
    elim (pointer_cases q p) [
      | inl e ↦ sym e
      | inr other ↦
          let place = split_at xs q there in
          let left : Contains (place.0 ++ place.1) p = in_rest place.0 q place.1 p (subst (λ zs. Contains zs p) place.2 within) other in
          let few : length ys ≤ length (map f (place.0 ++ place.1)) = no_more ys (map f (place.0 ++ place.1)) once (λ x at. named place left x (from x at)) in
          let all : length xs ≡ length (place.0 ++ q ∷ place.1) = ap length place.2 in
          absurd (omega (arith, few, all, enough, length-map (place.0 ++ place.1) f, length-append place.0 place.1, length-append place.0 (q ∷ place.1)))
    ]
  where
    named : (place : (front : List Pointer) × (back : List Pointer) × (xs ≡ front ++ q ∷ back)) → Contains (place.0 ++ place.1) p
        → (x : Pointer) → (z : Pointer) × Contains xs z × (f z ≡ x) → Contains (map f (place.0 ++ place.1)) x
    named place left x is =
        elim (pointer_cases q is.0) [
          | inl e ↦ subst (Contains (map f (place.0 ++ place.1))) (same ∙ ap f e ∙ is.2) (in_map f (place.0 ++ place.1) p left)
          | inr away ↦ subst (Contains (map f (place.0 ++ place.1))) is.2 (in_map f (place.0 ++ place.1) is.0 (in_rest place.0 q place.1 is.0 (subst (λ zs. Contains zs is.0) place.2 is.1) away))
        ]

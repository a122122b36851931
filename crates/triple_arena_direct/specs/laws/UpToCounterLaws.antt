-- Laws of generations that are up to the counter.
use Rattle.std.proofs.Common.{◌≡◌, ℕ, zero, suc, ◌≤◌, ◌<◌, nat_lt, ◌&&◌, ◌||◌, Bool, true, false, List, [], ◌∷◌, length, Contains, slice_index_or, refl, sym, ap, ◌∙◌, arith}
use Rattle.std.proofs.lemmas.Bool.Decides.{nat_tests}
use Rattle.std.specs.List.{list_any}
use Rattle.triple_arena_ptr.specs.Pointers.{Pointer}
use Rattle.triple_arena_traits.specs.ArenaState.{ArenaState}
use Rattle.triple_arena_traits.specs.Walks.{keys}
use Rattle.triple_arena_traits.specs.laws.WalkLaws.{live_key, key_live}
use Rattle.triple_arena_direct.specs.Gone.{IsUpToCounter, is_any_past}

not_past : (m n : ℕ) → m ≤ n → nat_lt n m ≡ false
not_past m n le = grind (arith, nat_tests, le)

up_to : (m n : ℕ) → nat_lt n m ≡ false → m ≤ n
up_to m n le = grind (arith, nat_tests, le)

or_parts : (a b : Bool) → (a || b) ≡ false → (a ≡ false) × (b ≡ false)
or_parts true b e = absurd (cc)
or_parts false b e = (refl, e)

-- none of some pointers is past a number, where each is up to it
none_past : (c : ℕ) (ps : List Pointer) → ((p : Pointer) → Contains ps p → p.1 ≤ c) → list_any (λ p. nat_lt c p.1) ps ≡ false
none_past c [] each = refl
none_past c (p ∷ ps) each =
    rw (not_past p.1 c (each p (zero, omega arith, refl))) (none_past c ps (λ q has. each q (suc has.0, omega (arith, has.1), has.2)))

-- and each is up to it, where none is past
each_up_to : (c : ℕ) (ps : List Pointer) → list_any (λ p. nat_lt c p.1) ps ≡ false → (k : ℕ) (q : Pointer) → k < length ps → slice_index_or ps k q ≡ q → q.1 ≤ c
each_up_to c [] none k q within is = absurd (omega (arith, within))
each_up_to c (p ∷ ps) none zero q within is =
    up_to q.1 c (ap (λ (x : Pointer). nat_lt c x.1) (sym is) ∙ (or_parts (nat_lt c p.1) _ none).0)
each_up_to c (p ∷ ps) none (suc k) q within is =
    each_up_to c ps (or_parts (nat_lt c p.1) _ none).1 k q (omega (arith, within)) is

module _ {T : Type 0} (s : ArenaState T) where
  -- an arena up to its counter has no entry past it
  pub up_to-none : IsUpToCounter s → is_any_past s.counter s.slots ≡ false
  up_to-none below = none_past s.counter (keys s.slots) (λ p has. below p (key_live s.slots p has))

  -- and one that has none is up to it
  none-up_to : is_any_past s.counter s.slots ≡ false → IsUpToCounter s
  none-up_to none p live = let key = live_key s.slots p live in each_up_to s.counter (keys s.slots) none key.0 p key.1 key.2

  -- also where that is known of generations that count
  pub counted_up_to : (counting : Bool) → (counting && is_any_past s.counter s.slots) ≡ false → counting ≡ true → IsUpToCounter s
  counted_up_to counting none counts = none-up_to (ap (λ b. b && is_any_past s.counter s.slots) (sym counts) ∙ none)

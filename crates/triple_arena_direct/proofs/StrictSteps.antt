-- Steps of a strict arena, as its calls take them.
use Rattle.std.proofs.Common.{◌≡◌, ◌≢◌, ℕ, ◌<◌, nat_lt, ◌∷◌, [], List, Option, Some, Result, Ok, Err, IfOk, OnOk, OnErr, refl, ap, ◌∙◌, inl, inr, arith}
use Rattle.std.specs.Option.{option_and_then}
use Rattle.std.specs.Borrow.{MutBor}
use Rattle.std.specs.Fn.{Once}
use Rattle.triple_arena_ptr.specs.Numbers.{Generations}
use Rattle.triple_arena_ptr.specs.Pointers.{Pointer}
use Rattle.triple_arena_stack.specs.StackKind.{StackKind}
use Rattle.triple_arena_stack.specs.Disjoint.{Worked}
use Rattle.triple_arena_traits.specs.Entries.{KeepsEntries, entry_in, look_up, value_of_generation}
use Rattle.triple_arena_traits.specs.ArenaState.{ArenaState, arena_len, capacity, with_value, IsWellFormed}
use Rattle.triple_arena_traits.specs.Insertion.{next_pointer, inserted}
use Rattle.triple_arena_traits.specs.SlotSteps.{IsTouched, touched, insertion_steps}
use Rattle.triple_arena_traits.specs.FreeList.{tidied}
use Rattle.triple_arena_traits.specs.Reallocation.{reallocated, with_limit}
use Rattle.triple_arena_traits.specs.DisjointEntries.{WorkedAtEntries}
use Rattle.triple_arena_traits.specs.Histories.{insertion, resizing}
use Rattle.triple_arena_traits.specs.laws.EntryLaws.{by_case, same-grown, slots-inserted, slots-tidied}
use Rattle.triple_arena_traits.specs.laws.LengthLaws.{len-tidied}
use Rattle.triple_arena_traits.specs.laws.ItemLaws.{eq_true}
use Rattle.triple_arena_traits.specs.laws.WellFormedLaws.{kept-inserted, place_free}
use Rattle.triple_arena_traits.specs.laws.LookUpLaws.{inserted_elsewhere}
use Rattle.triple_arena_traits.proofs.Inserted.{found_inserted}
use Rattle.triple_arena_direct.specs.Gone.{IsGoneForGood}
use Rattle.triple_arena_direct.specs.StrictCalls.{IsStrictStep, to_insert, to_write_each, to_reallocate, to_limit}
use Rattle.triple_arena_direct.specs.StrictDone.{KeepsLookUps}

-- an entry is found under its pointer
pub found_at : {T : Type 0} (slots : List (Option (ℕ × T))) (i generation : ℕ) (value : T) → entry_in slots i ≡ Some (generation, value) → look_up slots (i, generation) ≡ Some value
found_at slots i generation value there = rw (there, eq_true generation generation refl) refl

module _ {T : Type 0} (kind : StackKind) (generations : Generations) where
  module _ {F R : Type 0} (calls : Once F (MutBor T × (MutBor T × Unit {0})) (R × (MutBor T × (MutBor T × Unit {0})))) where
    -- two values were written, or none
    pub wrote_two : {E : Type 0} (s t : ArenaState T) (p q : Pointer) (r : Result R E) (f : F) (first second : Option T) → IfOk r (λ x. Worked calls f first second x (λ a b. t ≡ with_value (with_value s p.0 a) q.0 b)) → OnOk r ((a b : T) × IsStrictStep kind generations s (to_write_each (p ∷ q ∷ []) (a ∷ b ∷ [])) [] t)
    wrote_two s t p q (Ok x) f first second worked = (worked.first_left, worked.second_left, (refl, worked.left))
    wrote_two s t p q (Err e) f first second worked = tt

  -- and so at two indexes
  pub wrote_two_at : {F G R E : Type 0} (number : G → ℕ) (calls : Once F (G × (MutBor T × (G × (MutBor T × Unit {0})))) (R × (MutBor T × (MutBor T × Unit {0})))) (s t : ArenaState T) (i j : ℕ) (r : Result R E) (f : F) (first second : Option (ℕ × T)) → IfOk r (λ x. WorkedAtEntries number calls f first second x (λ a b. t ≡ with_value (with_value s i a) j b)) → OnOk r ((p q : Pointer) × (a b : T) × (p.0 ≡ i) × (q.0 ≡ j) × IsStrictStep kind generations s (to_write_each (p ∷ q ∷ []) (a ∷ b ∷ [])) [] t)
  wrote_two_at number calls s t i j (Ok x) f first second worked =
      ((i, number worked.first_under), (j, number worked.second_under), worked.first_left, worked.second_left, refl, refl, (refl, worked.left))
  wrote_two_at number calls s t i j (Err e) f first second worked = tt

  -- a limit that was set, or refused
  pub limited : {A E : Type 0} (s t : ArenaState T) (x : ℕ) (r : Result A E) → OnOk r (IsTouched (with_limit s x) t) → OnErr r (IsTouched (tidied s) t) → IsStrictStep kind generations s (to_limit x) (resizing ∷ []) t
  limited s t x (Ok a) done refused = (refl, inl done)
  limited s t x (Err e) done refused = (refl, inr refused)

  -- a reallocation that was done, or refused
  pub reallocating : {A E : Type 0} (s t : ArenaState T) (m : ℕ) (r : Result A E) → OnOk r (IsTouched (reallocated kind s m) t) → OnErr r (IsTouched (tidied s) t) → IsStrictStep kind generations s (to_reallocate m) (resizing ∷ []) t
  reallocating s t m (Ok a) done refused = (refl, inl done)
  reallocating s t m (Err e) done refused = (refl, inr refused)

  -- an insertion where there is a place
  pub reserved : (s t : ArenaState T) (p : Pointer) (value : T) → IsWellFormed s → arena_len s < capacity s → p ≡ next_pointer s → t ≡ touched (insertion_steps s) (inserted s value) → IsStrictStep kind generations s (to_insert value) (insertion p ∷ []) t
  reserved s t p value well place pointer is =
      (well, inr (ap (λ q. insertion q ∷ []) pointer, rw (same-grown kind s place, is) (refl, omega arith)))

module _ {T : Type 0} where
  -- after an insertion every other pointer finds what it found
  pub others_inserted : (s : ArenaState T) (value : T) → IsWellFormed s → (q : Pointer) → q ≢ next_pointer s → look_up (inserted s value).slots q ≡ look_up s.slots q
  others_inserted s value well =
      inserted_elsewhere s.slots (inserted s value).slots (next_pointer s) value (place_free s well) (found_inserted s (inserted s value) (next_pointer s) value well refl refl)
      (λ p away. ap (option_and_then (value_of_generation p.1)) ((slots-inserted s value well).others p.0 away))

  -- and what is gone for good stays so
  pub gone_inserted : (n : ℕ) (s : ArenaState T) (value : T) → IsWellFormed s → (q : Pointer) → IsGoneForGood s q → IsGoneForGood (touched n (inserted s value)) q
  gone_inserted n s value well q gone = (
    others_inserted s value well q (λ e. omega (arith, gone.1, ap (λ (p : Pointer). p.1) e)) ∙ gone.0,
    omega (arith, gone.1, (kept-inserted s value).0),
  )

-- a call that changes the room, or, where it is refused, tidies the free list alone, leaves what every pointer finds
pub kept_if_ok : {A E T : Type 0} (s t after : ArenaState T) (r : Result A E) → OnOk r (IsTouched after t) → OnErr r (IsTouched (tidied s) t) → KeepsEntries s.slots after.slots → arena_len after ≡ arena_len s → KeepsLookUps s t
kept_if_ok s t after (Ok a) done refused kept same =
    record {
      kept = λ q. ap (λ (u : ArenaState _). look_up u.slots q) done.0 ∙ ap (option_and_then (value_of_generation q.1)) (kept q.0);
      same_len = ap arena_len done.0 ∙ same;
    }
kept_if_ok s t after (Err e) done refused kept same =
    record {
      kept = λ q. ap (λ (u : ArenaState _). look_up u.slots q) refused.0 ∙ ap (option_and_then (value_of_generation q.1)) (slots-tidied s (tidied s) refl q.0);
      same_len = ap arena_len refused.0 ∙ len-tidied s (tidied s) refl;
    }

module _ {T : Type 0} (s : ArenaState T) (x : ℕ) where
  -- a limit leaves every entry
  pub kept_limited : KeepsEntries s.slots (with_limit s x).slots
  kept_limited i = by_case (λ (t : ArenaState T). entry_in t.slots i) (nat_lt x (capacity s)) (tidied s) s (entry_in s.slots i) (slots-tidied s (tidied s) refl i) refl

  pub len_limited : arena_len (with_limit s x) ≡ arena_len s
  len_limited = by_case arena_len (nat_lt x (capacity s)) (tidied s) s (arena_len s) (len-tidied s (tidied s) refl) refl

-- Answers of calls that end an entry.
use Rattle.std.proofs.Common.{◌≡◌, ℕ, ◌<◌, Bool, true, false, List, [], Option, Some, None, Result, Ok, Err, is_ok, OnOk, refl, sym, ap, subst, ◌∙◌, arith}
use Rattle.std.specs.Borrow.{Bor}
use Rattle.std.specs.Option.{option_map}
use Rattle.triple_arena_base.specs.declared.invalidation.InvalidationResult.{InvalidationResult}
use Rattle.triple_arena_base.specs.declared.invalidation.InvalidationResult.TheVariants.{InvalidPtr}
use Rattle.triple_arena_ptr.specs.Pointers.{Pointer}
use Rattle.triple_arena_traits.specs.Entries.{KeepsEntries}
use Rattle.triple_arena_traits.specs.ArenaState.{ArenaState, slot_count, with_value, IsWellFormed}
use Rattle.triple_arena_traits.specs.Ending.{told_of, map_told}
use Rattle.triple_arena_traits.specs.Histories.{Fits, Continues}
use Rattle.triple_arena_traits.specs.FreeList.{last_index}
use Rattle.triple_arena_traits.specs.Walks.{entries}
use Rattle.triple_arena_traits.specs.Copying.{Copies}
use Rattle.triple_arena_traits.proofs.CopyLemmas.{copy_same_end}
use Rattle.triple_arena_traits.specs.laws.HistoryLaws.{Continues-written}

-- an answer with a value that was found
pub told_found : {A : Type 0} (r : InvalidationResult A) (b w : Bool) (o : Option A) (v : A) → r ≡ told_of b (Some v) → b ≡ w → o ≡ Some v → r ≡ told_of w o
told_found r b w o v is wrapped found = is ∙ ap (λ c. told_of c (Some v)) wrapped ∙ ap (told_of w) (sym found)

told_map : {A B : Type 0} (f : A → B) (b : Bool) (v : A) → map_told f (told_of b (Some v)) ≡ told_of b (Some (f v))
told_map f true v = refl
told_map f false v = refl

pub told_mapped : {A B : Type 0} (f : A → B) (r : InvalidationResult A) (b w : Bool) (o : Option B) (v : A) → r ≡ told_of b (Some v) → b ≡ w → o ≡ Some (f v) → map_told f r ≡ told_of w o
told_mapped f r b w o v is wrapped found = told_found (map_told f r) b w o (f v) (ap (map_told f) is ∙ told_map f b v) wrapped found

pub none_told : {A B : Type 0} (w : Bool) (f : A → B) (o : Option A) → o ≡ None → ◌≡◌ {A = InvalidationResult B} InvalidPtr (told_of w (option_map f o))
none_told w f o none = ap (λ p. told_of w (option_map f p)) (sym none)

module _ {T : Type 0} where
  -- what is past the greatest index is past the slots
  pub past_slots : (s t : ArenaState T) (n : ℕ) → IsWellFormed t → t ≡ s → t.greatest < n → slot_count s < n
  past_slots s t n well is past = omega (arith, well.fits, ap slot_count is)

  pub Continues-two_written : (s t : ArenaState T) (i j : ℕ) (x y : T) → t ≡ with_value (with_value s i x) j y → Continues Fits s [] t
  Continues-two_written s t i j x y is h fits =
      subst (Fits h) (sym is) (Continues-written (with_value s i x) j y h (Continues-written s i x h fits))

-- a copy ends as its source where an answer of the same kind is no refusal
pub unrefused_end : {P U T E F M : Type 0} (numbers : P → Pointer) (step : M → P → Bor U → Result T E → M → Type 0) (f : M) (source : List (Option (ℕ × U))) (copy new : List (Option (ℕ × T))) (answer : Result (Unit {0}) E) (result : Result (Unit {0}) F) → is_ok result ≡ is_ok answer → Copies numbers step f (entries source) answer copy → KeepsEntries copy new → OnOk result (last_index new ≡ last_index source)
unrefused_end numbers step f source copy new answer (Err e) same copies keeps = tt
unrefused_end numbers step f source copy new (Ok x) (Ok y) same copies keeps = copy_same_end numbers step f source copy new copies keeps
unrefused_end numbers step f source copy new (Err e) (Ok y) same copies keeps = absurd (cc)

-- a copy that ends in slots with the same entries
pub copies_seen : {P U T E M : Type 0} (numbers : P → Pointer) (step : M → P → Bor U → Result T E → M → Type 0) (f : M) (source : List (Pointer × U)) (answer : Result (Unit {0}) E) (old new : List (Option (ℕ × T))) → new ≡ old → Copies numbers step f source answer old → Copies numbers step f source answer new
copies_seen numbers step f source answer old new is = subst (λ slots. Copies numbers step f source answer slots) (sym is)

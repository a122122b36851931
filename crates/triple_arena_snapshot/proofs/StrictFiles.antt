-- What the file of a strict arena has, by what the arena has.
use Rattle.std.proofs.Common.{◌≡◌, ℕ, ◌≤◌, ◌+◌, nat_lt, ◌&&◌, Bool, true, false, List, [], ◌∷◌, map, Option, Some, None, Result, Ok, Err, OnOk, length, refl, sym, ap, ◌∙◌, arith}
use Rattle.std.specs.Prelude.{IfOk}
use Rattle.std.specs.List.{list_any}
use Rattle.std.specs.Option.{option_map}
use Rattle.triple_arena_ptr.specs.Pointers.{Pointer}
use Rattle.triple_arena_traits.specs.Entries.{look_up}
use Rattle.triple_arena_traits.specs.ArenaState.{ArenaState, map_entry}
use Rattle.triple_arena_traits.specs.Walks.{entries_from, keys_of, keys}
use Rattle.triple_arena_traits.specs.laws.LookUpLaws.{found_mapped}
use Rattle.triple_arena_direct.specs.Gone.{IsUpToCounter, IsGoneForGood, is_any_past}
use Rattle.triple_arena_direct.specs.laws.UpToCounterLaws.{up_to-none}
use Rattle.triple_arena_snapshot.specs.StrictFiles.{checked}
use Rattle.triple_arena_snapshot.specs.declared.fault.Fault.TheVariants.{Counter}
use Rattle.triple_arena_snapshot.specs.Coding.{Decoded}
use Rattle.triple_arena_snapshot.specs.declared.fault.LoadError.{LoadError}
use Rattle.triple_arena_snapshot.specs.ArenaCodings.{arena_content}
use Rattle.triple_arena_snapshot.specs.Files.{LoadsFrom}

-- values of another type have the same pointers
mapped_from : {T K : Type 0} (f : T → K) (at : ℕ) (xs : List (Option (ℕ × T))) → keys_of (entries_from at (map (option_map (map_entry f)) xs)) ≡ keys_of (entries_from at xs)
mapped_from f at [] = refl
mapped_from f at (None ∷ xs) = mapped_from f (at + 1) xs
mapped_from f at (Some e ∷ xs) = ap (λ ks. (at, e.0) ∷ ks) (mapped_from f (at + 1) xs)

-- so that what is written of an arena has an entry past the counter where the arena has
past_content : {T K : Type 0} (f : T → K) (s : ArenaState T) → is_any_past s.counter (map (option_map (map_entry f)) s.slots) ≡ is_any_past s.counter s.slots
past_content f s = ap (list_any (λ (p : Pointer). nat_lt s.counter p.1)) (mapped_from f 1 s.slots)

-- what was loaded of what was saved has its content
pub loaded_has : {X K : Type 0} (content : X → K) (result : Result X LoadError) (k : K) (Holds : X → Type 0) → LoadsFrom content result (Ok k) → ((x : X) → content x ≡ k → Holds x) → IfOk result Holds
loaded_has content (Ok x) k Holds read each = each x (let same : content x ≡ k = cc in same)
loaded_has content (Err e) k Holds read each = tt

module _ {T K : Type 0} (content : T → K) (counting : Bool) where
  -- what is read of a strict arena's bytes, by what was read of the arena inside
  pub read_strictly : (s : ArenaState T) (rest bytes : List ℕ) (decoding : List ℕ → Decoded (List (Option (ℕ × K)) × (ℕ × List ℕ))) → (counting && is_any_past s.counter s.slots) ≡ false
      → decoding bytes ≡ Ok (arena_content content s, rest) → checked counting decoding bytes ≡ Ok (arena_content content s, rest)
  read_strictly s rest bytes decoding none read = rw read (rw (past_content content s, none) refl)

  -- an entry past the counter is the fault
  pub read_past : (s : ArenaState T) (rest bytes : List ℕ) (decoding : List ℕ → Decoded (List (Option (ℕ × K)) × (ℕ × List ℕ))) → (counting && is_any_past s.counter s.slots) ≡ true
      → decoding bytes ≡ Ok (arena_content content s, rest) → checked counting decoding bytes ≡ Err (Counter, length bytes)
  read_past s rest bytes decoding past read = rw read (rw (past_content content s, past) refl)

  -- what a strict arena has fits in its file
  pub fits_strictly : {A E : Type 0} (Fits : Type 0) (s : ArenaState T) (saved : Result A E) → (counting ≡ true → IsUpToCounter s) → OnOk saved Fits
      → OnOk saved (Fits × ((counting && is_any_past s.counter (map (option_map (map_entry content)) s.slots)) ≡ false))
  fits_strictly Fits s (Ok x) below fits = (fits, by counting refl)
    where
      by : (b : Bool) → counting ≡ b → (b && is_any_past s.counter (map (option_map (map_entry content)) s.slots)) ≡ false
      by true counts = past_content content s ∙ up_to-none s (below counts)
      by false counts = refl
  fits_strictly Fits s (Err e) below fits = tt

module _ {T K : Type 0} (content : T → K) (saved loaded : ArenaState T) (same : arena_content content saved ≡ arena_content content loaded) where
  none_mapped : (o : Option T) → option_map content o ≡ None → o ≡ None
  none_mapped None e = refl
  none_mapped (Some x) e = absurd (cc)

  -- what was gone for good is so in an arena of the same content
  pub gone_in_same : (q : Pointer) → IsGoneForGood saved q → IsGoneForGood loaded q
  gone_in_same q gone = (
    none_mapped (look_up loaded.slots q) (sym (found_mapped content loaded.slots q) ∙ ap (λ k. look_up k.0 q) (sym same) ∙ found_mapped content saved.slots q ∙ ap (option_map content) gone.0),
    omega (arith, gone.1, ap (λ k. k.1.0) same),
  )

-- The map of each pointer of an arena to itself.
use Rattle.std.proofs.Common.{◌≡◌, ℕ, ◌<◌, List, [], ◌∷◌, ◌++◌, length, map, Option, Some, None, is_some, cond, take, max, Result, Ok, zero, suc, refl, sym, ap, ◌∙◌, arith}
use Rattle.std.proofs.lemmas.List.{append-nil}
use Rattle.std.proofs.lemmas.List.Sums.{sum_by-cons}
use Rattle.std.specs.List.{FoldsTo}
use Rattle.std.specs.Borrow.{Bor}
use Rattle.std.specs.Option.{option_map}
use Rattle.triple_arena_base.specs.declared.errors.ReallocationError.{ReallocationError}
use Rattle.triple_arena_base.specs.declared.errors.ReallocationError.TheVariants.{BeyondMaxCapacity, AllocError}
use Rattle.triple_arena_ptr.specs.Pointers.{Pointer}
use Rattle.triple_arena_traits.specs.Entries.{look_up, entry_count}
use Rattle.triple_arena_traits.specs.FreeList.{put_before, trimmed, last_index}
use Rattle.triple_arena_traits.specs.FreeEnd.{shortened}
use Rattle.triple_arena_traits.specs.Walks.{entries, keys_of, values_of, keys, values}
use Rattle.triple_arena_traits.specs.Copying.{Mapping, MapTurn, Copies, mapped_from, mapped_to}
use Rattle.triple_arena_recasting.proofs.Renames.{renames}

module _ {P T E M : Type 0} (numbers : P → Pointer) (step : M → P → Bor T → Result P E → M → Type 0) where
  -- a copy by a closure that gives each pointer back has the pointers, each under itself
  pub own_copied : (f : M) (source : List (Option (ℕ × T))) (copy : List (Option (ℕ × P))) → ((g : M) (m : Mapping P T P) (h : M) → MapTurn numbers step g m h → m.to ≡ m.pointer) → Copies numbers step f (entries source) (Ok tt) copy
      → (keys copy ≡ keys source) × (map numbers (values copy) ≡ keys source)
  own_copied f source copy keeps copies =
      let whole : entries source ≡ mapped_from numbers copies.mapped = copies.split ∙ ap (λ rest. mapped_from numbers copies.mapped ++ rest) copies.ends ∙ append-nil (mapped_from numbers copies.mapped) in (
        ap keys_of copies.stands ∙ same_keys copies.mapped ∙ sym (ap keys_of whole),
        ap (λ es. map numbers (values_of es)) copies.stands ∙ same_values copies.mapped f copies.last copies.ran ∙ sym (ap keys_of whole),
      )
    where
      same_keys : (ms : List (Mapping P T P)) → keys_of (mapped_to numbers ms) ≡ keys_of (mapped_from numbers ms)
      same_keys [] = refl
      same_keys (m ∷ ms) = ap (λ ps. numbers m.pointer ∷ ps) (same_keys ms)

      same_values : (ms : List (Mapping P T P)) (g h : M) → FoldsTo (MapTurn numbers step) g ms h → map numbers (values_of (mapped_to numbers ms)) ≡ keys_of (mapped_from numbers ms)
      same_values [] g h ran = refl
      same_values (m ∷ ms) g h ran =
          ap (λ p. numbers p ∷ map numbers (values_of (mapped_to numbers ms))) (keeps g m ran.0 ran.1)
          ∙ ap (λ ps. numbers m.pointer ∷ ps) (same_values ms ran.0 h ran.2)

map_same : (ps : List Pointer) → map (λ p. p) ps ≡ ps
map_same [] = refl
map_same (p ∷ ps) = ap (λ qs. p ∷ qs) (map_same ps)

module _ {P T : Type 0} (numbers : P → Pointer) (apart : (p q : P) → numbers p ≡ numbers q → p ≡ q) where
  own_some : (p : P) (o : Option P) (live : Option T) → option_map numbers o ≡ option_map (λ _. numbers p) live → o ≡ option_map (λ _. p) live
  own_some p None None e = refl
  own_some p None (Some v) e = absurd (cc)
  own_some p (Some x) None e = absurd (cc)
  own_some p (Some x) (Some v) e = let same : numbers x ≡ numbers p = cc in ap Some (apart x p same)

  -- each live pointer is its own image, and no other has one
  pub own_image : (old : List (Option (ℕ × T))) (own : List (Option (ℕ × P))) → keys own ≡ keys old → map numbers (values own) ≡ keys old → (p : P) → look_up own (numbers p) ≡ option_map (λ _. p) (look_up old (numbers p))
  own_image old own ks vs p =
      own_some p (look_up own (numbers p)) (look_up old (numbers p))
      (renames numbers (λ q. q) old own ks (vs ∙ sym (map_same (keys old))) (numbers p))

-- where the greatest index of an entry is above 0, there is an entry
pub last_counts : {T : Type 0} (xs : List (Option (ℕ × T))) → 0 < last_index xs → 0 < entry_count xs
last_counts [] some = absurd (omega (arith, some))
last_counts {T = T} (Some e ∷ xs) some = omega (arith, sum_by-cons (λ (o : Option (ℕ × T)). cond (is_some o) 1 0) (Some e) xs)
last_counts {T = T} (None ∷ xs) some = by_rest (trimmed xs) some (last_counts xs)
  where
    by_rest : (ys : List (Option (ℕ × T))) → 0 < length (put_before None ys) → (0 < length ys → 0 < entry_count xs) → 0 < entry_count (None ∷ xs)
    by_rest [] some rest = absurd (omega (arith, some))
    by_rest (y ∷ ys) some rest =
        let later : 0 < entry_count xs = rest (omega arith) in
        omega (arith, later, sum_by-cons (λ (o : Option (ℕ × T)). cond (is_some o) 1 0) None xs)

-- a refusal that is not for a limit is for want of memory
pub wants_memory : (refusal : ReallocationError) → (refusal ≡ BeyondMaxCapacity → ⊥) → refusal ≡ AllocError
wants_memory BeyondMaxCapacity other = absurd (other refl)
wants_memory AllocError other = refl

none_taken : {A : Type 0} (n : ℕ) → take {A = A} n [] ≡ []
none_taken zero = refl
none_taken (suc n) = refl

-- of no slots none are left
pub none_shortened : {A : Type 0} (m : ℕ) → shortened {A = A} m [] ≡ []
none_shortened m = none_taken (max 0 m)

-- pointers of the same numbers are the same
pub same_pointer : {P I G : Type 0} (numbers : P → Pointer) (index : P → I) (generation : P → G) (inx : I → ℕ) (gen : G → ℕ)
    → ((p : P) → numbers p ≡ (inx (index p), gen (generation p)))
    → ((i j : I) → inx i ≡ inx j → i ≡ j) → ((a b : G) → gen a ≡ gen b → a ≡ b) → ((p q : P) → index p ≡ index q → generation p ≡ generation q → p ≡ q)
    → (p q : P) → numbers p ≡ numbers q → p ≡ q
same_pointer numbers index generation inx gen are inx_apart gen_apart apart p q e =
    let same = sym (are p) ∙ e ∙ are q in
    apart p q (inx_apart (index p) (index q) (ap (λ (k : Pointer). k.0) same)) (gen_apart (generation p) (generation q) (ap (λ (k : Pointer). k.1) same))

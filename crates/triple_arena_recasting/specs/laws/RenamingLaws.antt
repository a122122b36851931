-- What follows from a renaming: of values, of what is looked up, of holders that a map renames, and of arenas that hold.
use Rattle.std.proofs.Common.{◌≡◌, ℕ, zero, suc, ◌+◌, Bool, true, false, not, cond, List, [], ◌∷◌, ◌++◌, map, length, take, drop, slice_get, Option, Some, None, is_some, IsSome, Ok, refl, sym, ap, subst, ◌∙◌, true≢false, map-id, inl, inr, arith}
use Rattle.std.proofs.lemmas.List.{length-map}
use Rattle.std.proofs.lemmas.List.Elements.{Contains-append_left, Contains-append_right, Contains-append_cases}
use Rattle.std.proofs.lemmas.Option.{slice_get-map, same_Some}
use Rattle.std.specs.Prelude.{Contains}
use Rattle.std.specs.List.{AllZip}
use Rattle.std.specs.Option.{option_map}
use Rattle.triple_arena_base.specs.Held.{HoldsRefill, recast_from, recast_items, answer_from, recast_answer, held_all, refill_all}
use Rattle.triple_arena_base.specs.Readings.{FollowsNames}
use Rattle.triple_arena_base.specs.declared.errors.CompactError.{CompactError}
use Rattle.triple_arena_base.specs.declared.errors.CompactError.TheVariants.{Unresolved, Reallocation}
use Rattle.triple_arena_base.specs.laws.ReadingLaws.{names_split}
use Rattle.triple_arena_ptr.specs.Pointers.{Pointer}
use Rattle.triple_arena_traits.specs.Entries.{look_up, entry_count}
use Rattle.triple_arena_traits.specs.ArenaState.{ArenaState}
use Rattle.triple_arena_traits.specs.Walks.{entries_from, keys_of, values_of, keys, values}
use Rattle.triple_arena_traits.specs.HeldSlots.{held_slots, refill_slots}
use Rattle.triple_arena_traits.specs.laws.WalkLaws.{live_key, key_live}
use Rattle.triple_arena_traits.specs.laws.MoveLaws.{nth_found, found_nth}
use Rattle.triple_arena_traits.specs.laws.ReadLaws.{value_found}
use Rattle.triple_arena_direct_arena.specs.DirectState.{DirectState}
use Rattle.triple_arena_recasting.specs.Renaming.{MapsPointers, first_unresolved, Refuses, AllResolve, IsStray, RefusesStray, IsRenamed, AreRenamed, IsFoundRenamed}

-- the first of pointers in two parts that finds nothing
module _ {P T : Type 0} (numbers : P → Pointer) (slots : List (Option (ℕ × T))) where
  abbrev first : List P → Option P
  first ps = first_unresolved numbers slots ps

  -- is that of the second part, where there is none in the first
  pub first_behind : (ps qs : List P) → first ps ≡ None → first (ps ++ qs) ≡ first qs
  first_behind [] qs none = refl
  first_behind (p ∷ ps) qs none = by_live (look_up slots (numbers p)) none (first_behind ps qs)
    where
      by_live : (o : Option T) → cond (not (is_some o)) (Some p) (first ps) ≡ None → (first ps ≡ None → first (ps ++ qs) ≡ first qs) → cond (not (is_some o)) (Some p) (first (ps ++ qs)) ≡ first qs
      by_live None e rest = absurd (cc)
      by_live (Some v) e rest = rest e

  -- and else that of the first
  pub first_before : (ps qs : List P) (p : P) → first ps ≡ Some p → first (ps ++ qs) ≡ Some p
  first_before [] qs p some = absurd (cc)
  first_before (q ∷ ps) qs p some = by_live (look_up slots (numbers q)) some (first_before ps qs p)
    where
      by_live : (o : Option T) → cond (not (is_some o)) (Some q) (first ps) ≡ Some p → (first ps ≡ Some p → first (ps ++ qs) ≡ Some p) → cond (not (is_some o)) (Some q) (first (ps ++ qs)) ≡ Some p
      by_live None e rest = e
      by_live (Some v) e rest = rest e

  -- where there is none, there is none in either part
  pub front_resolved : (ps qs : List P) → first (ps ++ qs) ≡ None → (first ps ≡ None) × (first qs ≡ None)
  front_resolved [] qs none = (refl, none)
  front_resolved (p ∷ ps) qs none = by_live (look_up slots (numbers p)) none (front_resolved ps qs)
    where
      by_live : (o : Option T) → cond (not (is_some o)) (Some p) (first (ps ++ qs)) ≡ None
          → (first (ps ++ qs) ≡ None → (first ps ≡ None) × (first qs ≡ None))
          → (cond (not (is_some o)) (Some p) (first ps) ≡ None) × (first qs ≡ None)
      by_live None e rest = absurd (cc)
      by_live (Some v) e rest = rest e

  -- pointers of which each finds an entry have images, by the map of a compaction, and these are their new pointers
  module _ (rename : Pointer → Pointer) (images : List (Option (ℕ × P))) (maps : MapsPointers numbers rename slots images) where
    abbrev image : P → Option P
    image p = look_up images (numbers p)

    pub items_renamed : (ps : List P) → first ps ≡ None → (recast_answer image ps ≡ Ok tt) × (map numbers (recast_items image ps) ≡ map rename (map numbers ps))
    items_renamed [] none = (refl, refl)
    items_renamed (p ∷ ps) none = by_live (look_up slots (numbers p)) (image p) (maps (numbers p)) none (items_renamed ps)
      where
        by_live : (o : Option T) (i : Option P) → option_map numbers i ≡ option_map (λ _. rename (numbers p)) o → cond (not (is_some o)) (Some p) (first ps) ≡ None
            → (first ps ≡ None → (recast_answer image ps ≡ Ok tt) × (map numbers (recast_items image ps) ≡ map rename (map numbers ps)))
            → (answer_from i p (recast_answer image ps) ≡ Ok tt) × (map numbers (recast_from i p ps (recast_items image ps)) ≡ map rename (map numbers (p ∷ ps)))
        by_live None i is e others = absurd (cc)
        by_live (Some v) None is e others = absurd (cc)
        by_live (Some v) (Some q) is e others =
            let rest = others e in
            let here : numbers q ≡ rename (numbers p) = cc in
            (rest.0, ap (λ k. k ∷ map numbers (recast_items image ps)) here ∙ ap (λ ks. rename (numbers p) ∷ ks) rest.1)

    found_alike : {A B : Type 0} (f : A → Pointer) (k : Pointer) (o : Option A) (i : Option B) → option_map f o ≡ option_map (λ _. k) i → is_some o ≡ is_some i
    found_alike f k None None e = refl
    found_alike f k None (Some v) e = absurd (cc)
    found_alike f k (Some x) None e = absurd (cc)
    found_alike f k (Some x) (Some v) e = refl

    -- the map finds just the pointers that find an entry, so that the first that finds nothing is the same
    pub same_first : (ps : List P) → first_unresolved numbers images ps ≡ first ps
    same_first [] = refl
    same_first (p ∷ ps) =
        ap (λ b. cond (not b) (Some p) (first_unresolved numbers images ps)) (found_alike numbers (rename (numbers p)) (image p) (look_up slots (numbers p)) (maps (numbers p)))
        ∙ ap (cond (not (is_some (look_up slots (numbers p)))) (Some p)) (same_first ps)

-- of pointers of which the first that finds nothing is none each finds an entry
pub resolved_live : {P T : Type 0} (numbers : P → Pointer) (slots : List (Option (ℕ × T))) (ps : List P) (p : P) → first_unresolved numbers slots ps ≡ None → Contains ps p → IsSome (look_up slots (numbers p))
resolved_live numbers slots [] p none among = absurd (omega (arith, among.1))
resolved_live numbers slots (q ∷ ps) p none among = by_live (is_some (look_up slots (numbers q))) refl none (resolved_live numbers slots ps p) among
  where
    by_live : (b : Bool) → is_some (look_up slots (numbers q)) ≡ b → cond (not b) (Some q) (first_unresolved numbers slots ps) ≡ None
        → (first_unresolved numbers slots ps ≡ None → Contains ps p → IsSome (look_up slots (numbers p))) → Contains (q ∷ ps) p → IsSome (look_up slots (numbers p))
    by_live false dead e others among = absurd (cc)
    by_live true live e others (zero, within, is) = subst (λ r. IsSome (look_up slots (numbers r))) is live
    by_live true live e others (suc k, within, is) = others e (k, omega (arith, within), is)

-- the first of pointers that finds nothing is one of them, and finds nothing
stray_among : {P T : Type 0} (numbers : P → Pointer) (slots : List (Option (ℕ × T))) (ps : List P) (p : P) → first_unresolved numbers slots ps ≡ Some p → Contains ps p × (look_up slots (numbers p) ≡ None)
stray_among numbers slots [] p some = absurd (cc)
stray_among numbers slots (q ∷ ps) p some = by_live (look_up slots (numbers q)) refl some (stray_among numbers slots ps p)
  where
    by_live : (o : Option _) → look_up slots (numbers q) ≡ o → cond (not (is_some o)) (Some q) (first_unresolved numbers slots ps) ≡ Some p
        → (first_unresolved numbers slots ps ≡ Some p → Contains ps p × (look_up slots (numbers p) ≡ None)) → Contains (q ∷ ps) p × (look_up slots (numbers p) ≡ None)
    by_live None dead e others = let here : q ≡ p = cc in ((zero, omega arith, here), subst (λ r. look_up slots (numbers r) ≡ None) here dead)
    by_live (Some v) live e others = let later = others e in ((suc later.0.0, omega (arith, later.0.1), later.0.2), later.1)

-- what values that are found hold
module _ {P U : Type 0} (held : U → List P) where
  all_hold : (vs : List U) (k : ℕ) (v : U) (p : P) → slice_get vs k ≡ Some v → Contains (held v) p → Contains (held_all held vs) p
  all_hold [] k v p e holds = absurd (cc)
  all_hold (x ∷ vs) zero v p e holds =
      let here : x ≡ v = cc in
      Contains-append_left (held x) (held_all held vs) p (subst (λ y. Contains (held y) p) (sym here) holds)
  all_hold (x ∷ vs) (suc k) v p e holds = Contains-append_right (held x) (held_all held vs) p (all_hold vs k v p e holds)

  one_holds : (vs : List U) (p : P) → Contains (held_all held vs) p → (k : ℕ) × (v : U) × (slice_get vs k ≡ Some v) × Contains (held v) p
  one_holds [] p (k, within, is) = absurd (omega (arith, within))
  one_holds (x ∷ vs) p among =
      elim (Contains-append_cases (held x) (held_all held vs) p among) [
        | inl here ↦ (zero, x, refl, here)
        | inr there ↦ let later = one_holds vs p there in (suc later.0, later.1, later.2, later.3)
      ]

  module _ {T : Type 0} (numbers : P → Pointer) (slots : List (Option (ℕ × T))) (holders : List (Option (ℕ × U))) where
    -- where the first that finds nothing is none, each of it finds an entry
    pub held_resolve : first_unresolved numbers slots (held_all held (values holders)) ≡ None → AllResolve numbers slots held holders
    held_resolve none q v p found holds =
        let nth = nth_found holders q (rw found refl) in
        let this : nth.0 ≡ v = cc in
        resolved_live numbers slots (held_all held (values holders)) p none (all_hold (values holders) nth.1 v p (nth.4 ∙ ap Some this) holds)

    -- and else one of them holds it
    pub held_stray : (p : P) → first_unresolved numbers slots (held_all held (values holders)) ≡ Some p → IsStray numbers slots held holders p
    held_stray p some =
        let among = stray_among numbers slots (held_all held (values holders)) p some in
        let one = one_holds (values holders) p among.0 in
        let at = value_found holders one.0 one.1 one.2 in
        record { dead = among.1; holder = at.0; value = one.1; found = at.1; holds = one.3 }

    pub refuses_stray : (refusal : CompactError P) → Refuses (entry_count slots) (first_unresolved numbers slots (held_all held (values holders))) refusal → RefusesStray numbers slots held holders refusal
    refuses_stray (Unresolved p) some = held_stray p some
    refuses_stray (Reallocation refusal) memory = memory

-- there are as many new pointers as there were
pub many_renamed : {P : Type 0} (numbers : P → Pointer) (rename : Pointer → Pointer) (old new : List P) → map numbers new ≡ map rename (map numbers old) → length new ≡ length old
many_renamed numbers rename old new same =
    sym (length-map new numbers) ∙ ap length same ∙ length-map (map numbers old) rename ∙ length-map old numbers

module _ {P T : Type 0} (numbers : P → Pointer) (rename : Pointer → Pointer) (held : T → List P) (refill : T → List P → T) (law : HoldsRefill held refill) where
  -- a value that is filled with new pointers is renamed
  pub refilled_renamed : (old new : T) (ps : List P) → map numbers ps ≡ map rename (map numbers (held old)) → new ≡ refill old ps → IsRenamed numbers rename held refill old new
  refilled_renamed old new ps renamed is =
      let holds : held new ≡ ps = ap held is ∙ law old ps (many_renamed numbers rename (held old) ps renamed) in
      record { holds = ap (map numbers) holds ∙ renamed; filled = is ∙ ap (refill old) (sym holds) }

  -- so where the map of a compaction recasts it, and each of its pointers found an entry
  pub followed : {V : Type 0} (slots : List (Option (ℕ × V))) (images : List (Option (ℕ × P))) → MapsPointers numbers rename slots images
      → (old new : T) → first_unresolved numbers slots (held old) ≡ None → new ≡ refill old (recast_items (λ p. look_up images (numbers p)) (held old)) → IsRenamed numbers rename held refill old new
  followed slots images maps old new none is =
      refilled_renamed old new (recast_items (λ p. look_up images (numbers p)) (held old)) (items_renamed numbers slots rename images maps (held old) none).1 is

  -- values that are filled with new pointers are renamed one by one
  pub all_renamed : (vs : List T) (l : List P) → map numbers l ≡ map rename (map numbers (held_all held vs)) → AreRenamed numbers rename held refill vs (refill_all held refill vs l)
  all_renamed [] l same = tt
  all_renamed (v ∷ vs) l same =
      let both = names_split numbers rename (held v) (held_all held vs) l same in
      (refilled_renamed v (refill v (take (length (held v)) l)) (take (length (held v)) l) both.0 refl, all_renamed vs (drop (length (held v)) l) both.1)

  -- slots hold what the values of their entries hold
  pub held_values : (at : ℕ) (xs : List (Option (ℕ × T))) → held_slots held refill xs ≡ held_all held (values_of (entries_from at xs))
  held_values at [] = refl
  held_values at (None ∷ xs) = held_values (at + 1) xs
  held_values at (Some e ∷ xs) = ap (λ l. held e.1 ++ l) (held_values (at + 1) xs)

  -- and filled with other pointers they have the same entries, whose values are filled
  keys_refilled : (at : ℕ) (xs : List (Option (ℕ × T))) (l : List P) → keys_of (entries_from at (refill_slots held refill xs l)) ≡ keys_of (entries_from at xs)
  keys_refilled at [] l = refl
  keys_refilled at (None ∷ xs) l = keys_refilled (at + 1) xs l
  keys_refilled at (Some e ∷ xs) l = ap (λ ks. (at, e.0) ∷ ks) (keys_refilled (at + 1) xs (drop (length (held e.1)) l))

  values_refilled : (at : ℕ) (xs : List (Option (ℕ × T))) (l : List P) → values_of (entries_from at (refill_slots held refill xs l)) ≡ refill_all held refill (values_of (entries_from at xs)) l
  values_refilled at [] l = refl
  values_refilled at (None ∷ xs) l = values_refilled (at + 1) xs l
  values_refilled at (Some e ∷ xs) l = ap (λ vs. refill e.1 (take (length (held e.1)) l) ∷ vs) (values_refilled (at + 1) xs (drop (length (held e.1)) l))

  -- the slots of an arena that is a holder, and whose pointers were renamed: its entries stay, and their values are renamed
  -- one by one
  module _ (old new : List (Option (ℕ × T))) (is : IsRenamed numbers rename (held_slots held refill) (refill_slots held refill) old new) where
    pub keys_stay : keys new ≡ keys old
    keys_stay = ap keys is.filled ∙ keys_refilled 1 old (held_slots held refill new)

    pub values_follow : AreRenamed numbers rename held refill (values old) (values new)
    values_follow =
        subst (AreRenamed numbers rename held refill (values old)) (sym (ap values is.filled ∙ values_refilled 1 old (held_slots held refill new)))
        (all_renamed (values old) (held_slots held refill new) (is.holds ∙ ap (λ ps. map rename (map numbers ps)) (held_values 1 old)))

-- a value at a place among others, and that which it became
nth_become : {T : Type 0} (Becomes : T → T → Type 0) (olds news : List T) → AllZip Becomes olds news → (k : ℕ) (v : T) → slice_get olds k ≡ Some v
    → (w : T) × (slice_get news k ≡ Some w) × Becomes v w
nth_become Becomes [] news all k v e = absurd (cc)
nth_become Becomes (x ∷ olds) [] all k v e = absurd all
nth_become Becomes (x ∷ olds) (y ∷ news) all zero v e =
    let here : x ≡ v = cc in
    (y, refl, subst (λ z. Becomes z y) here all.0)
nth_become Becomes (x ∷ olds) (y ∷ news) all (suc k) v e = nth_become Becomes olds news all.1 k v e

-- where entries go to new pointers, in their order, what each pointer found has become what its new pointer finds
pub found_moved : {T : Type 0} (Becomes : T → T → Type 0) (move : Pointer → Pointer) (old new : List (Option (ℕ × T))) → keys new ≡ map move (keys old) → AllZip Becomes (values old) (values new)
    → (p : Pointer) → IsSome (look_up old p) → (v w : T) × (look_up old p ≡ Some v) × (look_up new (move p) ≡ Some w) × Becomes v w
found_moved Becomes move old new ks all p live =
    let nth = nth_found old p live in
    let w = nth_become Becomes (values old) (values new) all nth.1 nth.0 nth.4 in
    let there = ap (λ xs. slice_get xs nth.1) ks ∙ slice_get-map move (keys old) nth.1 ∙ ap (option_map move) nth.3 in
    (nth.0, w.0, nth.2, found_nth new nth.1 (move p) w.0 there w.1, w.2)

module _ {P T : Type 0} (numbers : P → Pointer) (rename : Pointer → Pointer) (held : T → List P) (refill : T → List P → T) where
  some_renamed : (before after : Option T) (v w : T) → before ≡ Some v → after ≡ Some w → IsRenamed numbers rename held refill v w → IsFoundRenamed numbers rename held refill before after
  some_renamed before after v w was is renamed =
      rw (was, is) (record { holds = ap Some renamed.holds; pointers = held w; pointers_held = refl; filled = ap Some renamed.filled })

  -- so of values whose pointers were renamed
  pub found_renamed : (move : Pointer → Pointer) (old new : List (Option (ℕ × T))) → keys new ≡ map move (keys old) → AreRenamed numbers rename held refill (values old) (values new)
      → (p : Pointer) → IsSome (look_up old p) → IsFoundRenamed numbers rename held refill (look_up old p) (look_up new (move p))
  found_renamed move old new ks all p live =
      let found = found_moved (IsRenamed numbers rename held refill) move old new ks all p live in
      some_renamed (look_up old p) (look_up new (move p)) found.0 found.1 found.2 found.3 found.4

  -- where the entries stay, each pointer finds what it found, so renamed
  pub found_there : (old new : List (Option (ℕ × T))) → keys new ≡ keys old → AreRenamed numbers rename held refill (values old) (values new)
      → (q : Pointer) → IsFoundRenamed numbers rename held refill (look_up old q) (look_up new q)
  found_there old new ks all q = by_old (look_up old q) refl
    where
      by_new : look_up old q ≡ None → (o : Option T) → look_up new q ≡ o → look_up new q ≡ None
      by_new none None e = e
      by_new none (Some w) e =
          let live : IsSome (look_up old q) = key_live old q (subst (λ ps. Contains ps q) ks (live_key new q (rw e refl))) in
          absurd (true≢false (sym (rw none at live)))

      by_old : (o : Option T) → look_up old q ≡ o → IsFoundRenamed numbers rename held refill (look_up old q) (look_up new q)
      by_old None e = rw (e, by_new e (look_up new q) refl) (record { holds = refl; pointers = []; pointers_held = refl; filled = refl })
      by_old (Some v) e = found_renamed (λ p. p) old new (ks ∙ sym (map-id (keys old))) all q (rw e refl)

-- what is read of what is found, where reading follows names
module _ {P T R : Type 0} (numbers : P → Pointer) (held : T → List P) (refill : T → List P → T) (read : T → R) (renamed : (Pointer → Pointer) → R → R) (follows : FollowsNames numbers held refill read renamed) where
  -- is renamed, where what is found is
  pub found_read : (rename : Pointer → Pointer) (before after : Option T) → IsFoundRenamed numbers rename held refill before after
      → option_map read after ≡ option_map (renamed rename) (option_map read before)
  found_read rename None after is = ap (option_map read) is.filled
  found_read rename (Some v) after is =
      let holds : held (refill v is.pointers) ≡ is.pointers = same_Some _ _ (ap (option_map held) (sym is.filled) ∙ is.pointers_held) in
      let names : map numbers (held (refill v is.pointers)) ≡ map rename (map numbers (held v)) = same_Some _ _ (ap (option_map (λ w. map numbers (held w))) (sym is.filled) ∙ is.holds) in
      ap (option_map read) is.filled ∙ ap Some (follows rename v is.pointers (ap (map numbers) (sym holds) ∙ names))

-- an arena that is a holder, and whose pointers were renamed
module _ {P T : Type 0} (numbers : P → Pointer) (rename : Pointer → Pointer) (held : T → List P) (refill : T → List P → T) where
  -- has slots of which that is so, and no more of it changes
  pub arena_follows : (old new : ArenaState T) → IsRenamed numbers rename (λ s. held_slots held refill s.slots) (λ s l. record s { slots = refill_slots held refill s.slots l }) old new
      → IsRenamed numbers rename (held_slots held refill) (refill_slots held refill) old.slots new.slots × (new ≡ record old { slots = new.slots })
  arena_follows old new is =
      let slots = ap (λ s. s.slots) is.filled in
      (record { holds = is.holds; filled = slots }, is.filled ∙ ap (λ xs. record old { slots = xs }) (sym slots))

  -- and so of a direct arena
  pub direct_follows : (old new : DirectState T) → IsRenamed numbers rename (λ s. held_slots held refill s.slots) (λ s l. record s { slots = refill_slots held refill s.slots l }) old new
      → IsRenamed numbers rename (held_slots held refill) (refill_slots held refill) old.slots new.slots × (new ≡ record old { slots = new.slots })
  direct_follows old new is =
      let slots = ap (λ s. s.slots) is.filled in
      (record { holds = is.holds; filled = slots }, is.filled ∙ ap (λ xs. record old { slots = xs }) (sym slots))

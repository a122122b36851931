-- A cache after each call, by what is told of its ring and of its map of places.
use Rattle.std.specs.Prelude.{List, [], ◌∷◌, ◌++◌, Contains}
use Rattle.std.proofs.Common.{◌≡◌, ◌≢◌, ◌⊎◌, ◌↔◌, ℕ, zero, suc, ◌+◌, ◌-◌, ◌≤◌, ◌<◌, nat_eq, Bool, true, false, cond, length, take, inl, inr, Option, Some, None, IsSome, Result, Ok, Err, IsOk, refl, sym, ap, ◌∙◌, subst, arith, length-append}
use Rattle.std.specs.Prelude.{OnOk, IfOk, IfSome, MatchOption}
use Rattle.std.specs.Result.{IfErr}
use Rattle.std.proofs.Math.Seq.{take-append_seam}
use Rattle.std.proofs.lemmas.List.{append-nil}
use Rattle.std.proofs.lemmas.Bool.{eq-eqb}
use Rattle.std.specs.Map.{lookup, remove_entry}
use Rattle.std.specs.Option.{option_and_then, option_map}
use Rattle.triple_arena_chain.specs.Pointers.{Pointer}
use Rattle.triple_arena_chain.specs.declared.place.ChainError.{ChainError}
use Rattle.triple_arena_chain.specs.declared.place.ChainError.TheVariants.{NoEntry, Taken, NoRoom, NoMemory}
use Rattle.triple_arena_stack.specs.Capacity.{IsFullAtLimit, IsAtLimit}
use Rattle.triple_arena_chain.specs.Chains.{IsRefusedRoom, Node, value_at, after_at, before_at, IsLinked, IsInserted, IsRemoved, IsJoined, IsRun, AreOnce, KeepsApart}
use Rattle.triple_arena_chain_uses.specs.Cache.{use_at, uses_from, IsOrder}
use Rattle.triple_arena_chain.specs.laws.LinkLaws.{same_pointer}
use Rattle.triple_arena_chain.specs.laws.RunLaws.{in_head}
use Rattle.triple_arena_chain.specs.laws.NodeLaws.{valued}
use Rattle.triple_arena_chain_uses.proofs.Ordering.{HaveOthers, once_before, all_once, read, read_one, read-append, length-read, removed_here, have_uses, not_bare, entries_read, value_looked_up, none_looked_up}
use Rattle.triple_arena_chain_uses.proofs.Turning.{without, placing, same_places, valued_there, taken, added}

-- what holds of a result that is told to be Ok
pub on_ok : {A E : Type 0} (F : Type 0) (r : Result A E) (x : A) → r ≡ Ok x → OnOk r F → F
on_ok F r x is holds = subst (λ o. OnOk o F) is holds

pub if_ok : {A E : Type 0} (F : A → Type 0) (r : Result A E) (x : A) → r ≡ Ok x → IfOk r F → F x
if_ok F r x is holds = subst (λ o. IfOk o F) is holds

pub if_some : {A : Type 0} (F : A → Type 0) (r : Option A) (x : A) → r ≡ Some x → IfSome r F → F x
if_some F r x is holds = subst (λ o. IfSome o F) is holds

pub surely_ok : {A : Type 0} (Q : Type 0) (r : Result A ChainError) → IfErr r (λ refusal. refusal ≡ NoEntry) → ((r ≡ Err NoEntry) ↔ Q) → (Q → ⊥) → IsOk r
surely_ok Q (Ok x) refusal when never = refl
surely_ok Q (Err e) refusal when never = absurd (never (when.0 (ap Err refusal)))

-- places of a map after a key is put
pub placed_in : {P : Type 0} (numbers : P → Pointer) (k r : ℕ) (q : P) (old new : Option P) → new ≡ cond (nat_eq k r) (Some q) old
    → option_map numbers new ≡ cond (nat_eq k r) (Some (numbers q)) (option_map numbers old)
placed_in numbers k r q old new is = ap (option_map numbers) is ∙ by_test (nat_eq k r)
  where
    by_test : (b : Bool) → option_map numbers (cond b (Some q) old) ≡ cond b (Some (numbers q)) (option_map numbers old)
    by_test true = refl
    by_test false = refl

-- and after one goes and another, or the same, is put
pub replaced_in : {P : Type 0} (numbers : P → Pointer) (k l r : ℕ) (q : P) (old new : Option P) → new ≡ cond (nat_eq l r) (Some q) (cond (nat_eq k r) None old)
    → option_map numbers new ≡ cond (nat_eq l r) (Some (numbers q)) (cond (nat_eq k r) None (option_map numbers old))
replaced_in numbers k l r q old new is = placed_in numbers l r q (cond (nat_eq k r) None old) new is ∙ ap (cond (nat_eq l r) (Some (numbers q))) (by_test (nat_eq k r))
  where
    by_test : (b : Bool) → option_map numbers (cond b None old) ≡ cond b None (option_map numbers old)
    by_test true = refl
    by_test false = refl

-- a full cache has a key that goes next
pub full_oldest : {T : Type 0} (Told : ℕ → Type 0) (entries : List (ℕ × T)) (most : ℕ) (r : Option ℕ) → MatchOption r (entries ≡ []) Told → length entries ≡ most → 0 < most → IsSome r
full_oldest Told entries most None none full some = absurd (omega (arith, ap length none, full, some))
full_oldest Told entries most (Some key) told full some = refl

-- a key put again has its one place
pub put_again : {P : Type 0} (k r : ℕ) (q : P) (old new : Option P) → new ≡ cond (nat_eq k r) (Some q) old → new ≡ cond (nat_eq k r) (Some q) (cond (nat_eq k r) None old)
put_again k r q old new is = is ∙ by_test (nat_eq k r)
  where
    by_test : (b : Bool) → cond b (Some q) old ≡ cond b (Some q) (cond b None old)
    by_test true = refl
    by_test false = refl

-- a pair that is this one
pub pair_is_this : {T : Type 0} (k : ℕ) (v : T) (pair : ℕ × T) → Some (k, v) ≡ Some pair → (k, v) ≡ pair
pair_is_this k v pair e = cc

pub some_of_map : {A B : Type 0} (f : A → B) (o : Option A) → IsSome (option_map f o) → IsSome o
some_of_map f None some = some
some_of_map f (Some x) some = refl

pub none_some : {A : Type 0} (o : Option A) → o ≡ None → IsSome o → ⊥
none_some None none some = absurd (cc)
none_some (Some x) none some = absurd (cc)

pub removed_one : {X : Type 0} (test : ℕ → Bool) (es : List (ℕ × X)) → IsSome (lookup test es) → length (remove_entry test es) + 1 ≡ length es
removed_one {X = X} test [] some = absurd (none_some {A = X} None refl some)
removed_one test (e ∷ es) some = by_test (test e.0) refl some (removed_one test es)
  where
    by_test : (b : Bool) → test e.0 ≡ b → IsSome (cond b (Some e.1) (lookup test es)) → (IsSome (lookup test es) → length (remove_entry test es) + 1 ≡ length es)
        → length (cond (test e.0) es (e ∷ remove_entry test es)) + 1 ≡ length (e ∷ es)
    by_test true is some more = ap (λ b. length (cond b es (e ∷ remove_entry test es)) + 1) is ∙ omega arith
    by_test false is some more = ap (λ b. length (cond b es (e ∷ remove_entry test es)) + 1) is ∙ omega (arith, more some)

-- a refusal that can't be is none
pub if_not_refused : {A : Type 0} (r : Result A ChainError) (Says : ChainError → Type 0) → IfErr r Says → ((refusal : ChainError) → Says refusal → ⊥) → IsOk r
if_not_refused (Ok x) Says refusal never = refl
if_not_refused (Err e) Says refusal never = absurd (never e refusal)

-- lists of keys and values
pub take_all : {X : Type 0} (xs : List X) (m : ℕ) → length xs < m → take (m - 1) xs ≡ xs
take_all {X = X} [] m less = by_suc (m - 1)
  where
    by_suc : (n : ℕ) → take {A = X} n [] ≡ []
    by_suc zero = refl
    by_suc (suc n) = refl
take_all (x ∷ xs) zero less = absurd (omega (arith, less))
take_all (x ∷ xs) (suc zero) less = absurd (omega (arith, less))
take_all (x ∷ xs) (suc (suc m)) less = ap (λ n. take n (x ∷ xs)) (suc_is m) ∙ ap (λ ys. x ∷ ys) (ap (λ n. take n xs) (suc_is' m) ∙ take_all xs (suc m) (omega (arith, less)))
  where
    suc_is : (m : ℕ) → suc (suc m) - 1 ≡ suc m
    suc_is m = omega arith

    suc_is' : (m : ℕ) → m ≡ suc m - 1
    suc_is' m = omega arith

pub none_removed : {X : Type 0} (test : ℕ → Bool) (es : List (ℕ × X)) → lookup test es ≡ None → remove_entry test es ≡ es
none_removed test [] none = refl
none_removed test (e ∷ es) none = by_test (test e.0) refl none (none_removed test es)
  where
    by_test : (b : Bool) → test e.0 ≡ b → cond b (Some e.1) (lookup test es) ≡ None → (lookup test es ≡ None → remove_entry test es ≡ es) → cond (test e.0) es (e ∷ remove_entry test es) ≡ e ∷ es
    by_test true is none more = absurd (cc)
    by_test false is none more = ap (λ b. cond b es (e ∷ remove_entry test es)) is ∙ ap (λ xs. e ∷ xs) (more none)

module _ {T : Type 0} (nodes : Pointer → Option (Node (Option (ℕ × T)))) (len : ℕ) (bare : Pointer) (place : ℕ → Option Pointer) (most : ℕ) (order : List Pointer)
    (is : IsOrder nodes len bare place most order) where
  pub bare_there : IsSome (nodes bare)
  bare_there = valued_there nodes bare None is.keyless

  pub length_entries : length (uses_from len nodes (after_at nodes bare)) ≡ length order
  length_entries = ap length (entries_read nodes len bare place most order is) ∙ length-read nodes order (have_uses nodes len bare place most order is)

  pub counted_entries : length (uses_from len nodes (after_at nodes bare)) + 1 ≡ len
  counted_entries = omega (arith, length_entries, is.all)

  pub entries_within : length (uses_from len nodes (after_at nodes bare)) ≤ most
  entries_within = omega (arith, length_entries, is.within)

  pub peeked : (k : ℕ) (p : Pointer) → place k ≡ Some p → (r : Option T) → r ≡ option_map (λ (pair : ℕ × T). pair.1) (use_at nodes p) → r ≡ lookup (nat_eq k) (uses_from len nodes (after_at nodes bare))
  peeked k p at r r_is =
      let found = is.found k p at in
      r_is
      ∙ ap (λ v. option_map (λ (pair : ℕ × T). pair.1) (option_and_then (λ u. u) v)) found.2
      ∙ sym (value_looked_up nodes len bare place most order is k p at found.1 found.2)

  pub none_peeked : (k : ℕ) → place k ≡ None → lookup (nat_eq k) (uses_from len nodes (after_at nodes bare)) ≡ None
  none_peeked = none_looked_up nodes len bare place most order is

  pub place_there : (k : ℕ) (p : Pointer) → place k ≡ Some p → nodes p ≡ None → ⊥
  place_there k p at none = by_node (nodes p) none (is.found k p at).2
    where
      by_node : {v : Option (ℕ × T)} (o : Option (Node (Option (ℕ × T)))) → o ≡ None → option_map (λ (n : Node (Option (ℕ × T))). n.value) o ≡ Some v → ⊥
      by_node None none is = absurd (cc)
      by_node (Some node) none is = absurd (cc)

  pub pair_of_key : (k : ℕ) (p : Pointer) (at : place k ≡ Some p) (pair : Option (ℕ × T)) → value_at nodes p ≡ Some pair → pair ≡ Some (k, (is.found k p at).1)
  pair_of_key k p at pair is_pair = same (sym is_pair ∙ (is.found k p at).2)
    where
      same : {a b : Option (ℕ × T)} → Some a ≡ Some b → a ≡ b
      same e = cc

  pub fresh_place : (k : ℕ) → lookup (nat_eq k) (uses_from len nodes (after_at nodes bare)) ≡ None → place k ≡ None
  fresh_place k none = by_place (place k) refl
    where
      by_place : (o : Option Pointer) → place k ≡ o → o ≡ None
      by_place None at = refl
      by_place (Some p) at =
          let found = is.found k p at in
          absurd (some_none (sym (value_looked_up nodes len bare place most order is k p at found.1 found.2) ∙ none))
        where
          some_none : {v : T} → Some v ≡ None → ⊥
          some_none e = absurd (cc)

  pub has_place : (k : ℕ) → IsSome (lookup (nat_eq k) (uses_from len nodes (after_at nodes bare))) → IsSome (place k)
  has_place k some = by_place (place k) refl
    where
      by_place : (o : Option Pointer) → place k ≡ o → IsSome o
      by_place None at = absurd (none_some (lookup (nat_eq k) (uses_from len nodes (after_at nodes bare))) (none_peeked k at) some)
      by_place (Some p) at = refl

  -- where an entry goes, there is room for one, and the keyless one is there still
  pub bare_stays : (k : ℕ) (p : Pointer) → place k ≡ Some p → (mid : Pointer → Option (Node (Option (ℕ × T)))) → IsRemoved nodes p mid → IsSome (mid bare)
  bare_stays k p at mid removed = valued (nodes bare) (mid bare) bare_there (removed.values bare (not_bare nodes len bare place most order is p (is.found k p at).0))

  -- a key goes, and one comes to stand first: the same one, or one that had no place
  module _ (k : ℕ) (p : Pointer) (at : place k ≡ Some p) (mid : Pointer → Option (Node (Option (ℕ × T)))) (fewer : ℕ) (removed : IsRemoved nodes p mid) (one : fewer + 1 ≡ len)
      (l : ℕ) (v : T) (fresh : (l ≡ k) ⊎ (place l ≡ None)) (q : Pointer) (new : Pointer → Option (Node (Option (ℕ × T)))) (more : ℕ)
      (inserted : IsInserted mid (Some bare) (after_at mid bare) q (Some (l, v)) new) (again : more ≡ fewer + 1)
      (other : ℕ → Option Pointer) (others : (r : ℕ) → other r ≡ cond (nat_eq l r) (Some q) (cond (nat_eq k r) None (place r))) where
    left : (left : List Pointer) × IsOrder mid fewer bare (without k place) most left × (length left + 1 ≡ length order) × (read mid left ≡ remove_entry (nat_eq k) (read nodes order))
    left = taken nodes len bare place most order is k p at mid fewer removed one

    unplaced : without k place l ≡ None
    unplaced = elim fresh [
      | inl same ↦ ap (λ b. cond b None (place l)) (eq-eqb k l (sym same))
      | inr none ↦ by_test (nat_eq k l) (place l) none
    ]
      where
        by_test : (b : Bool) (o : Option Pointer) → o ≡ None → cond b None o ≡ None
        by_test true o none = refl
        by_test false o none = none

    turned_order : IsOrder new more bare (placing l q (without k place)) most (q ∷ left.0) × (read new (q ∷ left.0) ≡ (l, v) ∷ read mid left.0)
    turned_order = added mid fewer bare (without k place) most left.0 left.1 l v unplaced q new more inserted again (omega (arith, left.2, is.within))

    pub turned : (order : List Pointer) × IsOrder new more bare other most order
    turned = (q ∷ left.0, same_places new more bare (placing l q (without k place)) other most (q ∷ left.0) turned_order.0 others)

    pub turned_entries : uses_from more new (after_at new bare) ≡ (l, v) ∷ remove_entry (nat_eq k) (uses_from len nodes (after_at nodes bare))
    turned_entries =
        entries_read new more bare (placing l q (without k place)) most (q ∷ left.0) turned_order.0
        ∙ turned_order.1
        ∙ ap (λ es. (l, v) ∷ es) (left.3 ∙ ap (remove_entry (nat_eq k)) (sym (entries_read nodes len bare place most order is)))

  -- a key comes where there is room
  module _ (l : ℕ) (v : T) (fresh : place l ≡ None) (q : Pointer) (new : Pointer → Option (Node (Option (ℕ × T)))) (more : ℕ)
      (inserted : IsInserted nodes (Some bare) (after_at nodes bare) q (Some (l, v)) new) (again : more ≡ len + 1) (room : length (uses_from len nodes (after_at nodes bare)) < most)
      (other : ℕ → Option Pointer) (others : (r : ℕ) → other r ≡ cond (nat_eq l r) (Some q) (place r)) where
    grown_order : IsOrder new more bare (placing l q place) most (q ∷ order) × (read new (q ∷ order) ≡ (l, v) ∷ read nodes order)
    grown_order = added nodes len bare place most order is l v fresh q new more inserted again (omega (arith, room, length_entries))

    pub grown : (order : List Pointer) × IsOrder new more bare other most order
    grown = (q ∷ order, same_places new more bare (placing l q place) other most (q ∷ order) grown_order.0 others)

    pub grown_entries : uses_from more new (after_at new bare) ≡ (l, v) ∷ uses_from len nodes (after_at nodes bare)
    grown_entries =
        entries_read new more bare (placing l q place) most (q ∷ order) grown_order.0
        ∙ grown_order.1
        ∙ ap (λ es. (l, v) ∷ es) (sym (entries_read nodes len bare place most order is))

  -- what stands before the keyless one is that one, where there are no others, or the last of them
  ends : (x : Pointer) (ps : List Pointer) → IsRun nodes (x ∷ ps) (Some bare) → (zs : List Pointer) × (o : Pointer) × (x ∷ ps ≡ zs ++ o ∷ []) × (after_at nodes o ≡ Some bare)
  ends x [] run = ([], x, refl, run.1)
  ends x (y ∷ ys) run = let more = ends y ys run.2 in (x ∷ more.0, more.1, ap (λ ps. x ∷ ps) more.2, more.3)

  -- the order up to its last
  pub record Last (p : Pointer) : Type 0 where
    pub front : List Pointer
    pub order_is : order ≡ front ++ p ∷ []
    pub key : ℕ
    pub value : T
    pub value_is : value_at nodes p ≡ Some (Some (key, value))
    pub place_is : place key ≡ Some p

  pub first_or_last : (p : Pointer) → before_at nodes bare ≡ Some p → ((p ≡ bare) × (order ≡ [])) ⊎ Last p
  first_or_last p before = by_end (ends bare order is.run)
    where
      by_end : (zs : List Pointer) × (o : Pointer) × (bare ∷ order ≡ zs ++ o ∷ []) × (after_at nodes o ≡ Some bare) → ((p ≡ bare) × (order ≡ [])) ⊎ Last p
      by_end ([], o, e, led) =
          let here : bare ≡ o = cc in
          let none : order ≡ [] = cc in
          inl (same_pointer p bare (sym before ∙ (is.linked o bare).0 led ∙ ap Some (sym here)), none)
      by_end (z ∷ zs, o, e, led) =
          let rest : order ≡ zs ++ o ∷ [] = cc in
          let same : p ≡ o = same_pointer p o (sym before ∙ (is.linked o bare).0 led) in
          let mine : order ≡ zs ++ p ∷ [] = rest ∙ ap (λ x. zs ++ x ∷ []) (sym same) in
          let placed = is.placed p (subst (λ ps. Contains ps p) (sym mine) (at_end zs)) in
          inr (record { front = zs; order_is = mine; key = placed.0.0; value = placed.0.1; value_is = placed.1; place_is = placed.2 })
        where
          at_end : (xs : List Pointer) → Contains (xs ++ p ∷ []) p
          at_end [] = in_head p []
          at_end (x ∷ xs) = let more = at_end xs in (suc more.0, omega (arith, more.1), more.2)

  pub has_before : IsSome (before_at nodes bare)
  has_before = let last = ends bare order is.run in subst IsSome (sym ((is.linked last.1 bare).0 last.3)) refl

  front_uses : (p : Pointer) (last : Last p) → (r : Pointer) → Contains last.front r → (pair : ℕ × T) × (value_at nodes r ≡ Some (Some pair))
  front_uses p last r within = have_uses nodes len bare place most order is r (subst (λ ps. Contains ps r) (sym last.order_is) (in_longer last.front within))
    where
      in_longer : (xs : List Pointer) → Contains xs r → Contains (xs ++ p ∷ []) r
      in_longer [] (n, within, is) = absurd (omega arith)
      in_longer (x ∷ xs) (zero, within, is) = (zero, omega arith, is)
      in_longer (x ∷ xs) (suc n, within, is) = let more = in_longer xs (n, omega (arith, within), is) in (suc more.0, omega (arith, more.1), more.2)

  pub last_entries : (p : Pointer) (last : Last p) → uses_from len nodes (after_at nodes bare) ≡ read nodes last.front ++ (last.key, last.value) ∷ []
  last_entries p last =
      entries_read nodes len bare place most order is
      ∙ ap (read nodes) last.order_is
      ∙ read-append nodes last.front (p ∷ []) (front_uses p last)
      ∙ ap (λ es. read nodes last.front ++ es) (read_one nodes p [] (last.key, last.value) last.value_is)

  -- the key that is told of what stands before the keyless one is the last
  pub oldest_told : (p : Pointer) → before_at nodes bare ≡ Some p → (r : Option ℕ) → r ≡ option_map (λ (pair : ℕ × T). pair.0) (use_at nodes p)
      → MatchOption r (uses_from len nodes (after_at nodes bare) ≡ []) (λ key. (newer : List (ℕ × T)) × (value : T) × (uses_from len nodes (after_at nodes bare) ≡ newer ++ (key, value) ∷ []))
  oldest_told p before r r_is = by_side (first_or_last p before)
    where
      by_side : ((p ≡ bare) × (order ≡ [])) ⊎ Last p
          → MatchOption r (uses_from len nodes (after_at nodes bare) ≡ []) (λ key. (newer : List (ℕ × T)) × (value : T) × (uses_from len nodes (after_at nodes bare) ≡ newer ++ (key, value) ∷ []))
      by_side (inl none) =
          let nothing : r ≡ None = r_is ∙ ap (λ q. option_map (λ (pair : ℕ × T). pair.0) (use_at nodes q)) none.0 ∙ ap (λ v. option_map (λ (pair : ℕ × T). pair.0) (option_and_then (λ u. u) v)) is.keyless in
          subst (λ o. MatchOption o (uses_from len nodes (after_at nodes bare) ≡ []) (λ key. (newer : List (ℕ × T)) × (value : T) × (uses_from len nodes (after_at nodes bare) ≡ newer ++ (key, value) ∷ []))) (sym nothing)
          (entries_read nodes len bare place most order is ∙ ap (read nodes) none.1)
      by_side (inr last) =
          let one : r ≡ Some last.key = r_is ∙ ap (λ v. option_map (λ (pair : ℕ × T). pair.0) (option_and_then (λ u. u) v)) last.value_is in
          subst (λ o. MatchOption o (uses_from len nodes (after_at nodes bare) ≡ []) (λ key. (newer : List (ℕ × T)) × (value : T) × (uses_from len nodes (after_at nodes bare) ≡ newer ++ (key, value) ∷ []))) (sym one)
          (read nodes last.front, last.value, last_entries p last)

  -- without the last they are the first ones
  without_last : (p : Pointer) (last : Last p)
      → remove_entry (nat_eq last.key) (uses_from len nodes (after_at nodes bare)) ≡ take (length (uses_from len nodes (after_at nodes bare)) - 1) (uses_from len nodes (after_at nodes bare))
  without_last p last =
      let entries = last_entries p last in
      let count : length (read nodes last.front) ≡ length (uses_from len nodes (after_at nodes bare)) - 1 =
      omega (arith, ap length entries, length-append (read nodes last.front) ((last.key, last.value) ∷ [])) in
      ap (remove_entry (nat_eq last.key)) (entries_read nodes len bare place most order is ∙ ap (read nodes) last.order_is)
      ∙ removed_here nodes last.key last.value last.front p [] others last.value_is
      ∙ ap (read nodes) (append-nil last.front)
      ∙ sym (ap (take (length (uses_from len nodes (after_at nodes bare)) - 1)) entries ∙ ap (λ n. take n (read nodes last.front ++ (last.key, last.value) ∷ [])) (sym count) ∙ take-append_seam (read nodes last.front) ((last.key, last.value) ∷ []))
    where
      apart : (r : Pointer) → Contains last.front r → p ≢ r
      apart = once_before last.front p [] (subst AreOnce last.order_is (all_once nodes len bare place most order is).1)

      in_longer : (xs : List Pointer) (r : Pointer) → Contains xs r → Contains (xs ++ p ∷ []) r
      in_longer [] r (n, within, is) = absurd (omega arith)
      in_longer (x ∷ xs) r (zero, within, is) = (zero, omega arith, is)
      in_longer (x ∷ xs) r (suc n, within, is) = let more = in_longer xs r (n, omega (arith, within), is) in (suc more.0, omega (arith, more.1), more.2)

      others : HaveOthers nodes last.key last.front
      others r within =
          let placed = is.placed r (subst (λ ps. Contains ps r) (sym last.order_is) (in_longer last.front r within)) in
          (placed.0, placed.1, λ e. apart r within (same_pointer p r (sym last.place_is ∙ ap place e ∙ placed.2)))

  abbrev Goes : Option ℕ → Type 0
  Goes r =
      IfSome r (λ key. IsSome (lookup (nat_eq key) (uses_from len nodes (after_at nodes bare)))
      × (remove_entry (nat_eq key) (uses_from len nodes (after_at nodes bare)) ≡ take (length (uses_from len nodes (after_at nodes bare)) - 1) (uses_from len nodes (after_at nodes bare))))

  -- it has a value, and without it the others are left
  pub oldest_goes : (p : Pointer) → before_at nodes bare ≡ Some p → (r : Option ℕ) → r ≡ option_map (λ (pair : ℕ × T). pair.0) (use_at nodes p)
      → IfSome r (λ key. IsSome (lookup (nat_eq key) (uses_from len nodes (after_at nodes bare)))
      × (remove_entry (nat_eq key) (uses_from len nodes (after_at nodes bare)) ≡ take (length (uses_from len nodes (after_at nodes bare)) - 1) (uses_from len nodes (after_at nodes bare))))
  oldest_goes p before r r_is = by_side (first_or_last p before)
    where
      by_side : ((p ≡ bare) × (order ≡ [])) ⊎ Last p → Goes r
      by_side (inl none) =
          let nothing : r ≡ None = r_is ∙ ap (λ q. option_map (λ (pair : ℕ × T). pair.0) (use_at nodes q)) none.0 ∙ ap (λ v. option_map (λ (pair : ℕ × T). pair.0) (option_and_then (λ u. u) v)) is.keyless in
          subst Goes (sym nothing) tt
      by_side (inr last) =
          let one : r ≡ Some last.key = r_is ∙ ap (λ v. option_map (λ (pair : ℕ × T). pair.0) (option_and_then (λ u. u) v)) last.value_is in
          let found = is.found last.key p last.place_is in
          let look = value_looked_up nodes len bare place most order is last.key p last.place_is found.1 found.2 in
          subst Goes (sym one) (subst IsSome (sym look) refl, without_last p last)

-- a cache that was just made: the keyless entry alone in its ring
module _ {T : Type 0} (nodes : Pointer → Option (Node (Option (ℕ × T)))) (bare : Pointer) where
  pub no_ends : (old : Pointer → Option (Node (Option (ℕ × T)))) (value : Option (ℕ × T)) → IsInserted old None None bare value nodes → (refusal : ChainError) → KeepsApart nodes bare bare refusal → ⊥
  no_ends old value done NoEntry (inl none) = there done.found none
    where
      there : {n : Node (Option (ℕ × T))} {o : Option (Node (Option (ℕ × T)))} → o ≡ Some n → o ≡ None → ⊥
      there e f = absurd (cc)
  no_ends old value done NoEntry (inr none) = there done.found none
    where
      there : {n : Node (Option (ℕ × T))} {o : Option (Node (Option (ℕ × T)))} → o ≡ Some n → o ≡ None → ⊥
      there e f = absurd (cc)
  no_ends old value done Taken (last_there, first_there, inl some) = none_some (after_at nodes bare) (ap (option_and_then (λ (n : Node (Option (ℕ × T))). n.after)) done.found) some
    where
      none_some : (o : Option Pointer) → o ≡ None → IsSome o → ⊥
      none_some None e some = absurd (cc)
      none_some (Some p) e some = absurd (cc)
  no_ends old value done Taken (last_there, first_there, inr some) = none_some (before_at nodes bare) (ap (option_and_then (λ (n : Node (Option (ℕ × T))). n.before)) done.found) some
    where
      none_some : (o : Option Pointer) → o ≡ None → IsSome o → ⊥
      none_some None e some = absurd (cc)
      none_some (Some p) e some = absurd (cc)
  no_ends old value done NoRoom apart = apart
  no_ends old value done NoMemory apart = apart

  pub new_order : (old : Pointer → Option (Node (Option (ℕ × T)))) → IsInserted old None None bare None nodes → (new : Pointer → Option (Node (Option (ℕ × T)))) → IsJoined nodes bare bare new
      → IsLinked new → (len : ℕ) → len ≡ 1 → (place : ℕ → Option Pointer) → ((k : ℕ) → place k ≡ None) → (most : ℕ) → 0 < most → IsOrder new len bare place most []
  new_order old done new joined linked len one place none most some =
      record {
        linked = linked;
        run = (valued_there new bare None keyless, joined.after_prev bare refl, tt);
        keyless = keyless;
        all = omega (arith, one);
        placed = λ p within. absurd (omega (arith, within.1));
        found = λ k p at. absurd (none_some (sym (none k) ∙ at));
        within = omega arith;
        some = some;
      }
    where
      keyless : value_at new bare ≡ Some None
      keyless = joined.values bare ∙ ap (option_map (λ (n : Node (Option (ℕ × T))). n.value)) done.found

      none_some : {q : Pointer} → None ≡ Some q → ⊥
      none_some e = absurd (cc)

-- where there is no limit, memory was refused
pub memory_refused : {A : Type 0} (capacity : ℕ) (limit : Option ℕ) (len : ℕ) (r : Result A ChainError) → limit ≡ None → IfErr r IsRefusedRoom → ((r ≡ Err NoRoom) ↔ IsFullAtLimit capacity limit len)
    → IfErr r (λ refusal. refusal ≡ NoMemory)
memory_refused capacity limit len (Ok x) none refused when = tt
memory_refused capacity limit len (Err NoEntry) none refused when = absurd refused
memory_refused capacity limit len (Err Taken) none refused when = absurd refused
memory_refused capacity limit len (Err NoRoom) none refused when = absurd (subst (λ most. IsAtLimit most capacity) none (when.0 refl).1)
memory_refused capacity limit len (Err NoMemory) none refused when = refl

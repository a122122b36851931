-- What a compression leaves of the entries, by their pointers.
use Rattle.std.proofs.Common.{◌≡◌, ℕ, zero, suc, ◌+◌, ◌<◌, List, [], ◌∷◌, ◌++◌, length, map, set, take, slice_get, Option, Some, None, cond, is_some, IsSome, slice_index_or, refl, sym, ap, subst, ◌∙◌, inl, inr, arith, append_assoc, true≢false}
use Rattle.std.proofs.lemmas.Bool.{cases_lt}
use Rattle.std.proofs.lemmas.Option.{some_pair_parts}
use Rattle.std.proofs.lemmas.List.{length_push, length-map}
use Rattle.std.proofs.lemmas.List.Sums.{sum_by_push, sum_by-cons}
use Rattle.std.specs.List.{range_with_len}
use Rattle.triple_arena_ptr.specs.Pointers.{Pointer}
use Rattle.std.specs.Option.{option_map}
use Rattle.triple_arena_traits.specs.Items.{with_item}
use Rattle.triple_arena_traits.specs.laws.ItemLaws.{joined}
use Rattle.triple_arena_traits.specs.Entries.{entry_in, look_up, entry_count, with_value_in}
use Rattle.triple_arena_traits.specs.ArenaState.{ArenaState, with_value}
use Rattle.triple_arena_traits.specs.Walks.{entries_from, keys_of, values_of, entries, keys, values}
use Rattle.triple_arena_traits.specs.laws.WalkLaws.{length-entries, found, live_key}
use Rattle.triple_arena_traits.specs.Compression.{closed_up, compressed, rank, rank_among, rank_in, placed}

pub length-keys : {T : Type 0} (slots : List (Option (ℕ × T))) → length (keys slots) ≡ entry_count slots
length-keys slots = length-map (entries slots) (λ e. e.0) ∙ length-entries slots

pub length-values : {T : Type 0} (slots : List (Option (ℕ × T))) → length (values slots) ≡ entry_count slots
length-values slots = length-map (entries slots) (λ e. e.1) ∙ length-entries slots

map_map : {A B C : Type 0} (f : A → B) (g : B → C) (xs : List A) → map g (map f xs) ≡ map (λ x. g (f x)) xs
map_map f g [] = refl
map_map f g (x ∷ xs) = ap (λ l. g (f x) ∷ l) (map_map f g xs)

module _ {T : Type 0} where
  abbrev one : Option (ℕ × T) → ℕ
  one o = cond (is_some o) 1 0

  take_front : (front back : List (Option (ℕ × T))) → take (length front) (front ++ back) ≡ front
  take_front [] [] = refl
  take_front [] (x ∷ back) = refl
  take_front (y ∷ front) back = ap (λ l. y ∷ l) (take_front front back)

  -- the entry behind these slots is one more than they have
  rank_behind : (front back all : List (Option (ℕ × T))) (e : ℕ × T) (i n : ℕ) → all ≡ front ++ Some e ∷ back → i ≡ length front + 1 → n ≡ entry_count front + 1 → rank_among all i ≡ n
  rank_behind front back all e i n is place count =
      let pushed : length (front ++ Some e ∷ []) ≡ i = length_push front (Some e) ∙ sym place in
      let split : all ≡ (front ++ Some e ∷ []) ++ back = is ∙ sym (append_assoc front (Some e ∷ []) back) in
      ap (λ xs. entry_count (take i xs)) split ∙ ap (λ k. entry_count (take k ((front ++ Some e ∷ []) ++ back))) (sym pushed)
      ∙ ap entry_count (take_front (front ++ Some e ∷ []) back) ∙ sum_by_push one front (Some e) ∙ sym count

  ranks_from : (front xs all : List (Option (ℕ × T))) (at n m : ℕ) → all ≡ front ++ xs → at ≡ length front + 1 → n ≡ entry_count front + 1 → m ≡ entry_count xs → map (λ p. rank_among all p.0) (keys_of (entries_from at xs)) ≡ range_with_len n m
  ranks_from front [] all at n zero is place count many = refl
  ranks_from front [] all at n (suc m) is place count many = absurd (omega (arith, many))
  ranks_from front (None ∷ xs) all at n m is place count many =
      ranks_from (front ++ None ∷ []) xs all (at + 1) n m (is ∙ sym (append_assoc front (None ∷ []) xs))
      (omega (arith, place, length_push front None)) (omega (arith, count, sum_by_push one front None)) (omega (arith, many, sum_by-cons one None xs))
  ranks_from front (Some e ∷ xs) all at n zero is place count many = absurd (omega (arith, many, sum_by-cons one (Some e) xs))
  ranks_from front (Some e ∷ xs) all at n (suc m) is place count many =
      ap (λ k. k ∷ map (λ p. rank_among all p.0) (keys_of (entries_from (at + 1) xs))) (rank_behind front xs all e at n is place count)
      ∙ ap (λ l. n ∷ l) (ranks_from (front ++ Some e ∷ []) xs all (at + 1) (n + 1) m (is ∙ sym (append_assoc front (Some e ∷ []) xs))
      (omega (arith, place, length_push front (Some e))) (omega (arith, count, sum_by_push one front (Some e))) (omega (arith, many, sum_by-cons one (Some e) xs)))

  -- the ranks of the pointers, in index order, are the numbers from 1 on
  pub ranks : (generation : Option ℕ) (slots : List (Option (ℕ × T))) → map (λ p. p.0) (map (rank_in generation slots) (keys slots)) ≡ range_with_len 1 (entry_count slots)
  ranks generation slots =
      map_map (rank_in generation slots) (λ p. p.0) (keys slots) ∙ ranks_from [] slots slots 1 1 (entry_count slots) refl refl refl refl

  -- entries that were placed under pointers of indexes from 1 on have these pointers, and their values
  entries_placed : (at : ℕ) (ps : List Pointer) (vs : List T) (n : ℕ) → map (λ p. p.0) ps ≡ range_with_len at n → length ps ≡ n → length vs ≡ n → (keys_of (entries_from at (placed ps vs)) ≡ ps) × (values_of (entries_from at (placed ps vs)) ≡ vs)
  entries_placed at [] [] n count many each = (refl, refl)
  entries_placed at [] (v ∷ vs) n count many each = absurd (omega (arith, many, each))
  entries_placed at (p ∷ ps) [] n count many each = absurd (omega (arith, many, each))
  entries_placed at (p ∷ ps) (v ∷ vs) zero count many each = absurd (omega (arith, many))
  entries_placed at (p ∷ ps) (v ∷ vs) (suc n) count many each =
      let here : p.0 ≡ at = cc in
      let rest : map (λ (q : Pointer). q.0) ps ≡ range_with_len (at + 1) n = cc in
      let later = entries_placed (at + 1) ps vs n rest (omega (arith, many)) (omega (arith, each)) in (
        ap (λ i. (i, p.1) ∷ keys_of (entries_from (at + 1) (placed ps vs))) (sym here) ∙ ap (λ l. p ∷ l) later.0,
        ap (λ l. v ∷ l) later.1,
      )

  pub keys-placed : (generation : Option ℕ) (slots : List (Option (ℕ × T))) (vs : List T) → length vs ≡ entry_count slots → keys (placed (map (rank_in generation slots) (keys slots)) vs) ≡ map (rank_in generation slots) (keys slots)
  keys-placed generation slots vs many =
      (entries_placed 1 (map (rank_in generation slots) (keys slots)) vs (entry_count slots) (ranks generation slots) (length-map (keys slots) (rank_in generation slots) ∙ length-keys slots) many).0

  pub values-placed : (generation : Option ℕ) (slots : List (Option (ℕ × T))) (vs : List T) → length vs ≡ entry_count slots → values (placed (map (rank_in generation slots) (keys slots)) vs) ≡ vs
  values-placed generation slots vs many =
      (entries_placed 1 (map (rank_in generation slots) (keys slots)) vs (entry_count slots) (ranks generation slots) (length-map (keys slots) (rank_in generation slots) ∙ length-keys slots) many).1

  -- under one generation they are closed up
  placed_under : (counter : ℕ) (slots : List (Option (ℕ × T))) (ps : List Pointer) (vs : List T) → length vs ≡ length ps → placed (map (rank_in (Some counter) slots) ps) vs ≡ closed_up counter vs
  placed_under counter slots [] [] many = refl
  placed_under counter slots [] (v ∷ vs) many = absurd (omega (arith, many))
  placed_under counter slots (p ∷ ps) [] many = absurd (omega (arith, many))
  placed_under counter slots (p ∷ ps) (v ∷ vs) many = ap (λ l. Some (counter, v) ∷ l) (placed_under counter slots ps vs (omega (arith, many)))

  pub placed-closed_up : (counter : ℕ) (slots : List (Option (ℕ × T))) (vs : List T) → length vs ≡ entry_count slots → placed (map (rank_in (Some counter) slots) (keys slots)) vs ≡ closed_up counter vs
  placed-closed_up counter slots vs many = placed_under counter slots (keys slots) vs (many ∙ sym (length-keys slots))

  pub keys-compressed : (s new : ArenaState T) (counter : ℕ) (vs : List T) → new ≡ compressed s counter vs → length vs ≡ entry_count s.slots → keys new.slots ≡ map (rank s counter) (keys s.slots)
  keys-compressed s new counter vs is many =
      ap (λ t. keys t.slots) is ∙ ap keys (sym (placed-closed_up counter s.slots vs many)) ∙ keys-placed (Some counter) s.slots vs many

  pub values-compressed : (s new : ArenaState T) (counter : ℕ) (vs : List T) → new ≡ compressed s counter vs → length vs ≡ entry_count s.slots → values new.slots ≡ vs
  values-compressed s new counter vs is many =
      ap (λ t. values t.slots) is ∙ ap values (sym (placed-closed_up counter s.slots vs many)) ∙ values-placed (Some counter) s.slots vs many

  set_value : (counter : ℕ) (vs : List T) (k : ℕ) (v : T)
      → set (closed_up counter vs) k (option_map (λ (e : ℕ × T). (e.0, v)) (joined (slice_get (closed_up counter vs) k))) ≡ closed_up counter (set vs k v)
  set_value counter [] k v = refl
  set_value counter (w ∷ vs) zero v = refl
  set_value counter (w ∷ vs) (suc k) v = ap (λ l. Some (counter, w) ∷ l) (set_value counter vs k v)

  write_in : (counter : ℕ) (vs : List T) (i : ℕ) (v : T) → with_value_in (closed_up counter vs) i v ≡ closed_up counter (with_item vs i v)
  write_in counter vs zero v = refl
  write_in counter vs (suc k) v = set_value counter vs k v

  pub compressed-with_value : (s new : ArenaState T) (counter : ℕ) (vs : List T) (i : ℕ) (v : T) → new ≡ compressed s counter vs → with_value new i v ≡ compressed s counter (with_item vs i v)
  compressed-with_value s new counter vs i v is =
      ap (λ t. with_value t i v) is ∙ ap (λ slots. record s { slots = slots; counter = counter; free = [] }) (write_in counter vs i v)

  set_same : (xs : List (Option (ℕ × T))) (k : ℕ) (e : ℕ × T) → joined (slice_get xs k) ≡ Some e → set xs k (Some e) ≡ xs
  set_same [] k e h = refl
  set_same (x ∷ xs) zero e h = ap (λ y. y ∷ xs) (sym h)
  set_same (x ∷ xs) (suc k) e h = ap (λ l. x ∷ l) (set_same xs k e h)

  -- the value that stands there, written again, changes nothing
  pub value_same : (xs : List (Option (ℕ × T))) (i : ℕ) (e : ℕ × T) → entry_in xs i ≡ Some e → with_value_in xs i e.1 ≡ xs
  value_same xs zero e h = refl
  value_same xs (suc k) e h = ap (λ o. set xs k (option_map (λ (x : ℕ × T). (x.0, e.1)) o)) h ∙ set_same xs k e h

  pub with_value-same : (s : ArenaState T) (i : ℕ) (e : ℕ × T) → entry_in s.slots i ≡ Some e → with_value s i e.1 ≡ s
  with_value-same s i e h = ap (λ slots. record s { slots = slots }) (value_same s.slots i e h)

  -- an entry has a greater number than those below it
  pub rank_below : (xs : List (Option (ℕ × T))) (i j : ℕ) → i < j → IsSome (entry_in xs j) → rank_among xs i < rank_among xs j
  rank_below xs i zero below live = absurd (omega (arith, below))
  rank_below [] i (suc j) below live = absurd (true≢false (sym live))
  rank_below (None ∷ xs) zero (suc zero) below live = absurd (true≢false (sym live))
  rank_below (Some e ∷ xs) zero (suc zero) below live = omega (arith, sum_by-cons one (Some e) [])
  rank_below (x ∷ xs) zero (suc (suc k)) below live =
      let later = rank_below xs zero (suc k) (omega arith) live in
      omega (arith, later, sum_by-cons one x (take (suc k) xs))
  rank_below (x ∷ xs) (suc i) (suc zero) below live = absurd (omega (arith, below))
  rank_below (x ∷ xs) (suc i) (suc (suc k)) below live =
      let later = rank_below xs i (suc k) (omega (arith, below)) live in
      omega (arith, later, sum_by-cons one x (take i xs), sum_by-cons one x (take (suc k) xs))

  -- no two entries have one number
  pub rank_apart : (slots : List (Option (ℕ × T))) (p q : Pointer) → IsSome (look_up slots p) → IsSome (look_up slots q) → rank_among slots p.0 ≡ rank_among slots q.0 → p ≡ q
  rank_apart slots p q live live' same =
      let f = found slots p live in
      let f' = found slots q live' in
      elim (cases_lt p.0 q.0) [
        | inl below ↦ absurd (omega (arith, same, rank_below slots p.0 q.0 below (rw f'.entry refl)))
        | inr above ↦ elim (cases_lt q.0 p.0) [
          | inl below ↦ absurd (omega (arith, same, rank_below slots q.0 p.0 below (rw f.entry refl)))
          | inr least ↦
              let index : p.0 ≡ q.0 = omega (arith, above, least) in
              let entry : ◌≡◌ {A = Option (ℕ × T)} (Some (p.1, f.value)) (Some (q.1, f'.value)) = sym f.entry ∙ ap (entry_in slots) index ∙ f'.entry in
              let generation : p.1 ≡ q.1 = (some_pair_parts p.1 q.1 f.value f'.value entry).0 in
              ap (λ n. (n, p.1)) index ∙ ap (λ n. (q.0, n)) generation
        ]
      ]

at_place : {A : Type 0} (f g : A → Pointer) (xs : List A) (k : ℕ) (x : A) → map (λ p. p.0) (map f xs) ≡ map (λ p. p.0) (map g xs) → k < length xs → slice_index_or xs k x ≡ x → (f x).0 ≡ (g x).0
at_place f g [] k x same within is = absurd (omega (arith, within))
at_place f g (y ∷ xs) zero x same within is =
    let first : (f y).0 ≡ (g y).0 = cc in
    subst (λ z. (f z).0 ≡ (g z).0) is first
at_place f g (y ∷ xs) (suc k) x same within is =
    let rest : map (λ p. p.0) (map f xs) ≡ map (λ p. p.0) (map g xs) = cc in
    at_place f g xs k x rest (omega (arith, within)) is

module _ {T : Type 0} (slots : List (Option (ℕ × T))) (moved : Pointer → Pointer) (ranked : map (λ p. p.0) (map moved (keys slots)) ≡ range_with_len 1 (entry_count slots)) where
  -- what moves the entries to the numbers from 1 on, in index order, moves each to its own
  pub moved_to_rank : (p : Pointer) → IsSome (look_up slots p) → (moved p).0 ≡ rank_among slots p.0
  moved_to_rank p live =
      let key = live_key slots p live in
      at_place moved (rank_in None slots) (keys slots) key.0 p (ranked ∙ sym (ranks None slots)) key.1 key.2

  -- so it keeps their order
  pub moved_below : (p q : Pointer) → IsSome (look_up slots p) → IsSome (look_up slots q) → p.0 < q.0 → (moved p).0 < (moved q).0
  moved_below p q live live' below =
      let f = found slots q live' in
      let less = rank_below slots p.0 q.0 below (rw f.entry refl) in
      omega (arith, less, moved_to_rank p live, moved_to_rank q live')

  -- and no two come to one index
  pub moved_apart : (p q : Pointer) → IsSome (look_up slots p) → IsSome (look_up slots q) → (moved p).0 ≡ (moved q).0 → p ≡ q
  moved_apart p q live live' same =
      rank_apart slots p q live live' (sym (moved_to_rank p live) ∙ same ∙ moved_to_rank q live')

module _ {T : Type 0} where
  pub count-closed_up : (counter : ℕ) (vs : List T) → entry_count (closed_up counter vs) ≡ length vs
  count-closed_up counter [] = refl
  count-closed_up counter (v ∷ vs) =
      let one : Option (ℕ × T) → ℕ = λ o. cond (is_some o) 1 0 in
      omega (arith, count-closed_up counter vs, sum_by-cons one (Some (counter, v)) (closed_up counter vs))

-- What a map of an arena's values, or of a table's pointers, leaves as it is.
use Rattle.std.proofs.Common.{◌≡◌, ℕ, ◌+◌, ◌-◌, ◌==◌, zero, suc, Bool, true, false, cond, List, [], ◌∷◌, map, take, length, Option, Some, None, is_some, refl, sym, ap, subst, ◌∙◌, ◌≤◌}
use Rattle.std.specs.Option.{option_map, option_and_then}
use Rattle.std.proofs.lemmas.List.{map-append, length-map, take-map, map-set}
use Rattle.std.proofs.lemmas.List.Sums.{sum_by-cons}
use Rattle.std.proofs.lemmas.Option.{slice_get-map}
use Rattle.triple_arena_stack.specs.StackKind.{StackKind, reallocated_room}
use Rattle.triple_arena_stack.specs.Capacity.{next_capacity}
use Rattle.triple_arena_ptr.specs.Pointers.{Pointer}
use Rattle.triple_arena_traits.specs.Items.{item, with_item}
use Rattle.triple_arena_traits.specs.Entries.{value_of_generation, entry_count, entry_in, look_up}
use Rattle.triple_arena_traits.specs.ArenaState.{ArenaState, arena_len, capacity, entry, slot_count, with_value, is_free, IsWellFormed, map_entry, map_values}
use Rattle.triple_arena_traits.specs.Insertion.{place_among, inserted_among, inserted, next_pointer}
use Rattle.triple_arena_traits.specs.FreeList.{put_before, trimmed, gaps, tidied}
use Rattle.triple_arena_traits.specs.Reallocation.{with_room_for, grown, reallocated}
use Rattle.triple_arena_traits.specs.Ending.{removed, invalidated}
use Rattle.triple_arena_traits.specs.Walks.{entries_from, values_of}
use Rattle.triple_arena_traits.specs.Compression.{closed_up, compressed, rank}

module _ {A B : Type 0} (f : A → B) where
  pub item-map : (xs : List A) (i : ℕ) → item (map f xs) i ≡ option_map f (item xs i)
  item-map xs zero = refl
  item-map xs (suc k) = slice_get-map f xs k

  map-with_item : (xs : List A) (i : ℕ) (x : A) → map f (with_item xs i x) ≡ with_item (map f xs) i (f x)
  map-with_item xs zero x = refl
  map-with_item xs (suc k) x = map-set f xs k x

module _ {T U : Type 0} (f : T → U) where
  under-mapped : (h : ℕ) (e : ℕ × T) → value_of_generation h (e.0, f e.1) ≡ option_map f (value_of_generation h e)
  under-mapped h e = by_test (e.0 == h)
    where
      by_test : (b : Bool) → cond b (Some (f e.1)) None ≡ option_map f (cond b (Some e.1) None)
      by_test true = refl
      by_test false = refl

  entry-mapped : (o : Option (Option (ℕ × T))) → option_and_then (λ slot. slot) (option_map (option_map (map_entry f)) o) ≡ option_map (map_entry f) (option_and_then (λ slot. slot) o)
  entry-mapped None = refl
  entry-mapped (Some slot) = refl

  value-mapped : (h : ℕ) (o : Option (ℕ × T)) → option_and_then (value_of_generation h) (option_map (map_entry f) o) ≡ option_map f (option_and_then (value_of_generation h) o)
  value-mapped h None = refl
  value-mapped h (Some e) = under-mapped h e

  pub look_up-mapped : (s : ArenaState T) (p : Pointer) → look_up (map_values f s).slots p ≡ option_map f (look_up s.slots p)
  look_up-mapped s p =
      ap (λ o. option_and_then (value_of_generation p.1) (option_and_then (λ slot. slot) o)) (item-map (option_map (map_entry f)) s.slots p.0)
      ∙ ap (option_and_then (value_of_generation p.1)) (entry-mapped (item s.slots p.0))
      ∙ value-mapped p.1 (entry s p.0)

  some-mapped : (o : Option (ℕ × T)) → is_some (option_map (map_entry f) o) ≡ is_some o
  some-mapped None = refl
  some-mapped (Some e) = refl

  count-mapped : (xs : List (Option (ℕ × T))) → entry_count (map (option_map (map_entry f)) xs) ≡ entry_count xs
  count-mapped [] = refl
  count-mapped (x ∷ xs) =
      sum_by-cons (λ o. cond (is_some o) 1 0) (option_map (map_entry f) x) (map (option_map (map_entry f)) xs)
      ∙ ap (λ b. cond b 1 0 + entry_count (map (option_map (map_entry f)) xs)) (some-mapped x)
      ∙ ap (λ n. cond (is_some x) 1 0 + n) (count-mapped xs)
      ∙ sym (sum_by-cons (λ o. cond (is_some o) 1 0) x xs)

  pub len-mapped : (s : ArenaState T) → arena_len (map_values f s) ≡ arena_len s
  len-mapped s = count-mapped s.slots

  free-mapped : (o : Option (Option (ℕ × T))) → is_free (option_map (option_map (map_entry f)) o) ≡ is_free o
  free-mapped None = refl
  free-mapped (Some None) = refl
  free-mapped (Some (Some e)) = refl

  pub IsWellFormed-mapped : (s : ArenaState T) → IsWellFormed s → IsWellFormed (map_values f s)
  IsWellFormed-mapped s well =
      let size = length-map s.slots (option_map (map_entry f)) in
      record {
        free_once = λ i. well.free_once i ∙ ap (λ b. cond b 1 0) (sym (ap is_free (item-map (option_map (map_entry f)) s.slots i) ∙ free-mapped (item s.slots i)));
        total = ap (λ n. n + length s.free) (len-mapped s) ∙ well.total ∙ sym size;
        fits = subst (λ n. n ≤ capacity s) (sym size) well.fits;
      }

  pub next_pointer-mapped : (s : ArenaState T) → next_pointer (map_values f s) ≡ next_pointer s
  next_pointer-mapped s = ap (λ n. (place_among s.free n, s.counter)) (length-map s.slots (option_map (map_entry f)))

  inserted_among-mapped : (free : List ℕ) (s : ArenaState T) (v : T) → map_values f (inserted_among free s v) ≡ inserted_among free (map_values f s) (f v)
  inserted_among-mapped [] s v = ap (λ xs. record (map_values f s) { slots = xs }) (map-append (option_map (map_entry f)) s.slots (Some (s.counter, v) ∷ []))
  inserted_among-mapped (i ∷ rest) s v = ap (λ xs. record (map_values f s) { slots = xs; free = rest }) (map-with_item (option_map (map_entry f)) s.slots i (Some (s.counter, v)))

  pub inserted-mapped : (s : ArenaState T) (v : T) → map_values f (inserted s v) ≡ inserted (map_values f s) (f v)
  inserted-mapped s v = inserted_among-mapped s.free s v

  pub grown-mapped : (kind : StackKind) (s : ArenaState T) → map_values f (grown kind s) ≡ grown kind (map_values f s)
  grown-mapped kind s = rw (len-mapped s, length-map s.slots (option_map (map_entry f))) (by_test (arena_len s == capacity s))
    where
      by_test : (b : Bool) → map_values f (cond b (with_room_for kind s (next_capacity (capacity s) s.limit s.greatest)) s) ≡ cond b (record (map_values f s) { room = reallocated_room kind s.room (slot_count s) (next_capacity (capacity s) s.limit s.greatest) }) (map_values f s)
      by_test true = refl
      by_test false = refl

  pub removed-mapped : (raise : ℕ → ℕ) (s : ArenaState T) (i : ℕ) → map_values f (removed raise s i) ≡ removed raise (map_values f s) i
  removed-mapped raise s i = rw (length-map s.slots (option_map (map_entry f))) (by_test (i == length s.slots))
    where
      by_test : (b : Bool) → map_values f (cond b (record s { slots = take (length s.slots - 1) s.slots; counter = raise s.counter }) (record s { slots = with_item s.slots i None; counter = raise s.counter; free = i ∷ s.free }))
          ≡ cond b (record (map_values f s) { slots = take (length s.slots - 1) (map_values f s).slots; counter = raise s.counter }) (record (map_values f s) { slots = with_item (map_values f s).slots i None; counter = raise s.counter; free = i ∷ s.free })
      by_test true = ap (λ xs. record (map_values f s) { slots = xs; counter = raise s.counter }) (sym (take-map (option_map (map_entry f)) (length s.slots - 1) s.slots))
      by_test false = ap (λ xs. record (map_values f s) { slots = xs; counter = raise s.counter; free = i ∷ s.free }) (map-with_item (option_map (map_entry f)) s.slots i None)

  -- a change of the entry at an index
  entry-changed : (g : ℕ × T → ℕ × T) (h : ℕ × U → ℕ × U) → ((e : ℕ × T) → map_entry f (g e) ≡ h (map_entry f e)) → (xs : List (Option (ℕ × T))) (i : ℕ) → map (option_map (map_entry f)) (with_item xs i (option_map g (entry_in xs i))) ≡ with_item (map (option_map (map_entry f)) xs) i (option_map h (entry_in (map (option_map (map_entry f)) xs) i))
  entry-changed g h agree xs i =
      map-with_item (option_map (map_entry f)) xs i (option_map g (entry_in xs i))
      ∙ ap (with_item (map (option_map (map_entry f)) xs) i) (by_entry (entry_in xs i) ∙ ap (option_map h) (sym (entry-mapped (item xs i)) ∙ ap (option_and_then (λ slot. slot)) (sym (item-map (option_map (map_entry f)) xs i))))
    where
      by_entry : (o : Option (ℕ × T)) → option_map (map_entry f) (option_map g o) ≡ option_map h (option_map (map_entry f) o)
      by_entry None = refl
      by_entry (Some e) = ap Some (agree e)

  pub with_value-mapped : (s : ArenaState T) (i : ℕ) (value : T) → map_values f (with_value s i value) ≡ with_value (map_values f s) i (f value)
  with_value-mapped s i value = ap (λ xs. record (map_values f s) { slots = xs }) (entry-changed (λ e. (e.0, value)) (λ e. (e.0, f value)) (λ e. refl) s.slots i)

  pub invalidated-mapped : (raise : ℕ → ℕ) (s : ArenaState T) (i : ℕ) → map_values f (invalidated raise s i) ≡ invalidated raise (map_values f s) i
  invalidated-mapped raise s i = ap (λ xs. record (map_values f s) { slots = xs; counter = raise s.counter }) (entry-changed (λ e. (raise s.counter, e.1)) (λ e. (raise s.counter, e.1)) (λ e. refl) s.slots i)

  pub values-mapped : (at : ℕ) (xs : List (Option (ℕ × T))) → values_of (entries_from at (map (option_map (map_entry f)) xs)) ≡ map f (values_of (entries_from at xs))
  values-mapped at [] = refl
  values-mapped at (None ∷ xs) = values-mapped (at + 1) xs
  values-mapped at (Some e ∷ xs) = ap (λ l. f e.1 ∷ l) (values-mapped (at + 1) xs)

  pub rank-mapped : (s : ArenaState T) (counter : ℕ) (p : Pointer) → rank (map_values f s) counter p ≡ rank s counter p
  rank-mapped s counter p = ap (λ n. (n, counter)) (ap entry_count (take-map (option_map (map_entry f)) p.0 s.slots) ∙ count-mapped (take p.0 s.slots))

  closed_up-mapped : (counter : ℕ) (vs : List T) → map (option_map (map_entry f)) (closed_up counter vs) ≡ closed_up counter (map f vs)
  closed_up-mapped counter [] = refl
  closed_up-mapped counter (v ∷ vs) = ap (λ l. Some (counter, f v) ∷ l) (closed_up-mapped counter vs)

  pub compressed-mapped : (s : ArenaState T) (counter : ℕ) (vs : List T) → map_values f (compressed s counter vs) ≡ compressed (map_values f s) counter (map f vs)
  compressed-mapped s counter vs = ap (λ xs. record (map_values f s) { slots = xs; counter = counter; free = [] }) (closed_up-mapped counter vs)

  before-mapped : (x : Option (ℕ × T)) (rest : List (Option (ℕ × T))) → put_before (option_map (map_entry f) x) (map (option_map (map_entry f)) rest) ≡ map (option_map (map_entry f)) (put_before x rest)
  before-mapped (Some e) rest = refl
  before-mapped None [] = refl
  before-mapped None (x ∷ rest) = refl

  trimmed-mapped : (xs : List (Option (ℕ × T))) → map (option_map (map_entry f)) (trimmed xs) ≡ trimmed (map (option_map (map_entry f)) xs)
  trimmed-mapped [] = refl
  trimmed-mapped (x ∷ xs) = sym (before-mapped x (trimmed xs)) ∙ ap (put_before (option_map (map_entry f) x)) (trimmed-mapped xs)

  gaps-mapped : (at : ℕ) (xs : List (Option (ℕ × T))) → gaps at xs ≡ gaps at (map (option_map (map_entry f)) xs)
  gaps-mapped at [] = refl
  gaps-mapped at (None ∷ xs) = ap (λ l. at ∷ l) (gaps-mapped (at + 1) xs)
  gaps-mapped at (Some e ∷ xs) = gaps-mapped (at + 1) xs

  pub tidied-mapped : (s : ArenaState T) → map_values f (tidied s) ≡ tidied (map_values f s)
  tidied-mapped s = rw (← trimmed-mapped s.slots, ← gaps-mapped 1 (trimmed s.slots)) refl

  pub reallocated-mapped : (kind : StackKind) (s : ArenaState T) (m : ℕ) → map_values f (reallocated kind s m) ≡ reallocated kind (map_values f s) m
  reallocated-mapped kind s m =
      ap (λ n. record (map_values f (tidied s)) { room = reallocated_room kind s.room n m }) (sym (length-map (trimmed s.slots) (option_map (map_entry f))))
      ∙ ap (λ t. with_room_for kind t m) (tidied-mapped s)

-- What the entries are, where values alone change.
use Rattle.std.proofs.Common.{◌≡◌, ℕ, zero, suc, ◌+◌, ◌==◌, Bool, true, false, List, [], ◌∷◌, length, drop, Option, Some, None, is_some, cond, slice_get, refl, sym, ap, ◌∙◌}
use Rattle.std.specs.List.{fold}
use Rattle.std.specs.Option.{option_map, option_and_then}
use Rattle.triple_arena_traits.specs.Items.{item}
use Rattle.triple_arena_traits.specs.Entries.{entry_count, value_of_generation}
use Rattle.triple_arena_traits.specs.Values.{with_value_of, with_values_in, generations_in, with_values_of, KeepsPointers}
use Rattle.triple_arena_traits.specs.laws.ItemLaws.{joined}
use Rattle.triple_arena_traits.specs.ArenaState.{ArenaState, is_free, IsWellFormed}
use Rattle.triple_arena_traits.specs.HeldSlots.{held_entry, refill_slots}

module _ {T : Type 0} where
  pub length-kept : (es ws : List (Option (ℕ × T))) → length (with_values_in es ws) ≡ length es
  length-kept [] ws = refl
  length-kept (e ∷ es) [] = refl
  length-kept (e ∷ es) (w ∷ ws) = ap suc (length-kept es ws)

  counts : (a : ℕ) (es ws : List (Option (ℕ × T))) → fold (λ (n : ℕ) (o : Option (ℕ × T)). n + cond (is_some o) 1 0) a (with_values_in es ws) ≡ fold (λ (n : ℕ) (o : Option (ℕ × T)). n + cond (is_some o) 1 0) a es
  counts a [] ws = refl
  counts a (e ∷ es) [] = refl
  counts a (None ∷ es) (w ∷ ws) = counts (a + 0) es ws
  counts a (Some e ∷ es) (None ∷ ws) = counts (a + 1) es ws
  counts a (Some e ∷ es) (Some w ∷ ws) = counts (a + 1) es ws

  pub count-kept : (es ws : List (Option (ℕ × T))) → entry_count (with_values_in es ws) ≡ entry_count es
  count-kept es ws = counts 0 es ws

  -- what a test tells of each slot that no value changes, it tells of the slots
  pub at-kept : {A : Type 0} (f : Option (Option (ℕ × T)) → A) → ((e w : Option (ℕ × T)) → f (Some (with_value_of e w)) ≡ f (Some e)) → (es ws : List (Option (ℕ × T))) (i : ℕ) → f (item (with_values_in es ws) i) ≡ f (item es i)
  at-kept f same es ws zero = refl
  at-kept f same [] ws (suc k) = refl
  at-kept f same (e ∷ es) [] (suc k) = refl
  at-kept f same (e ∷ es) (w ∷ ws) (suc zero) = same e w
  at-kept f same (e ∷ es) (w ∷ ws) (suc (suc k)) = at-kept f same es ws (suc k)

  generation-kept : (e w : Option (ℕ × T)) → option_map (λ (x : ℕ × T). x.0) (with_value_of e w) ≡ option_map (λ (x : ℕ × T). x.0) e
  generation-kept None w = refl
  generation-kept (Some e) None = refl
  generation-kept (Some e) (Some w) = refl

  pub generations-kept : (es ws : List (Option (ℕ × T))) → generations_in (with_values_in es ws) ≡ generations_in es
  generations-kept [] ws = refl
  generations-kept (e ∷ es) [] = refl
  generations-kept (e ∷ es) (w ∷ ws) = rw (generation-kept e w, generations-kept es ws) refl

  pub under-kept : (generation : ℕ) (e w : Option (ℕ × T)) → is_some (option_and_then (value_of_generation generation) (with_value_of e w)) ≡ is_some (option_and_then (value_of_generation generation) e)
  under-kept generation None w = refl
  under-kept generation (Some e) None = refl
  under-kept generation (Some e) (Some w) = by_test (e.0 == generation)
    where
      by_test : (b : Bool) → is_some (cond b (Some w.1) None) ≡ is_some (cond b (Some e.1) None)
      by_test true = refl
      by_test false = refl

  free-kept : (e w : Option (ℕ × T)) → is_free (Some (with_value_of e w)) ≡ is_free (Some e)
  free-kept None w = refl
  free-kept (Some e) None = refl
  free-kept (Some e) (Some w) = refl

  pub IsWellFormed-kept : (s w : ArenaState T) → IsWellFormed s → IsWellFormed (with_values_of s w)
  IsWellFormed-kept s w well =
      record {
        free_once = λ i. well.free_once i ∙ ap (λ b. cond b 1 0) (sym (at-kept is_free free-kept s.slots w.slots i));
        total = rw (count-kept s.slots w.slots, length-kept s.slots w.slots) well.total;
        fits = rw (length-kept s.slots w.slots) well.fits;
      }

  -- a walk that writes values keeps the pointers
  pub keeps_pointers : (s : ArenaState T) → KeepsPointers s
  keeps_pointers s w =
      record {
        pointers = λ q. at-kept (λ o. is_some (option_and_then (value_of_generation q.1) (joined o))) (under-kept q.1) s.slots w.slots q.0;
        generations = generations-kept s.slots w.slots;
        len = count-kept s.slots w.slots;
        counter = refl;
        free = refl;
        room = refl;
        limit = refl;
        greatest = refl;
      }

  module _ {I : Type 0} (held : T → List I) (refill : T → List I → T) where
    length-refilled : (xs : List (Option (ℕ × T))) (items : List I) → length (refill_slots held refill xs items) ≡ length xs
    length-refilled [] items = refl
    length-refilled (x ∷ xs) items = ap suc (length-refilled xs (drop (length (held_entry held refill x)) items))

    counts-refilled : (a : ℕ) (xs : List (Option (ℕ × T))) (items : List I) → fold (λ (n : ℕ) (o : Option (ℕ × T)). n + cond (is_some o) 1 0) a (refill_slots held refill xs items) ≡ fold (λ (n : ℕ) (o : Option (ℕ × T)). n + cond (is_some o) 1 0) a xs
    counts-refilled a [] items = refl
    counts-refilled a (None ∷ xs) items = counts-refilled (a + 0) xs (drop (length (held_entry held refill None)) items)
    counts-refilled a (Some e ∷ xs) items = counts-refilled (a + 1) xs (drop (length (held_entry held refill (Some e))) items)

    free-refilled_at : (xs : List (Option (ℕ × T))) (items : List I) (k : ℕ) → is_free (slice_get (refill_slots held refill xs items) k) ≡ is_free (slice_get xs k)
    free-refilled_at [] items k = refl
    free-refilled_at (None ∷ xs) items zero = refl
    free-refilled_at (Some e ∷ xs) items zero = refl
    free-refilled_at (x ∷ xs) items (suc k) = free-refilled_at xs (drop (length (held_entry held refill x)) items) k

    free-refilled : (xs : List (Option (ℕ × T))) (items : List I) (i : ℕ) → is_free (item (refill_slots held refill xs items) i) ≡ is_free (item xs i)
    free-refilled xs items zero = refl
    free-refilled xs items (suc k) = free-refilled_at xs items k

    pub IsWellFormed-refilled : (s : ArenaState T) (items : List I) → IsWellFormed s → IsWellFormed (record s { slots = refill_slots held refill s.slots items })
    IsWellFormed-refilled s items well =
        record {
          free_once = λ i. well.free_once i ∙ ap (λ b. cond b 1 0) (sym (free-refilled s.slots items i));
          total = rw (counts-refilled 0 s.slots items, length-refilled s.slots items) well.total;
          fits = rw (length-refilled s.slots items) well.fits;
        }

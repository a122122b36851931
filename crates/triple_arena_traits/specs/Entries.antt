-- Entries by index: for each index from 1 on, the generation and the value of the entry that stands there, or nothing.
use Rattle.std.specs.Prelude.{◌≡◌, ◌≢◌, ℕ, ◌<◌, ◌==◌, cond, List, count_by, Option, Some, None, is_some, IsSome}
use Rattle.std.specs.Option.{option_and_then, option_map}
use Rattle.triple_arena_ptr.specs.Pointers.{Pointer}
use Rattle.triple_arena_traits.specs.Items.{item, with_item}

module _ {T : Type 0} where
  -- the entry at an index, if there is one
  abbrev pub entry_in : List (Option (ℕ × T)) → ℕ → Option (ℕ × T)
  entry_in slots i = option_and_then (λ slot. slot) (item slots i)

  -- the value of an entry of that generation
  abbrev pub value_of_generation : ℕ → ℕ × T → Option T
  value_of_generation generation e = cond (e.0 == generation) (Some e.1) None

  -- the value under a pointer: that of the entry at its index, if the generation is the pointer's
  abbrev pub look_up : List (Option (ℕ × T)) → Pointer → Option T
  look_up slots p = option_and_then (value_of_generation p.1) (entry_in slots p.0)

  -- the number of entries
  abbrev pub entry_count : List (Option (ℕ × T)) → ℕ
  entry_count slots = count_by is_some slots

  -- the same with another value in the entry at an index, if there is one
  abbrev pub with_value_in : List (Option (ℕ × T)) → ℕ → T → List (Option (ℕ × T))
  with_value_in slots i value = with_item slots i (option_map (λ e. (e.0, value)) (entry_in slots i))

  -- the same with another generation of the entry at an index, if there is one
  abbrev pub with_generation_in : List (Option (ℕ × T)) → ℕ → ℕ → List (Option (ℕ × T))
  with_generation_in slots i generation = with_item slots i (option_map (λ e. (generation, e.1)) (entry_in slots i))

  -- the entry at an index is this one, or there is none, and at every other index it is as before
  pub record ChangesAt (old : List (Option (ℕ × T))) (i : ℕ) (e : Option (ℕ × T)) (new : List (Option (ℕ × T))) : Type 0 where
    pub there : entry_in new i ≡ e
    pub others : (j : ℕ) → j ≢ i → entry_in new j ≡ entry_in old j

  -- at every index the entry is as before
  abbrev pub KeepsEntries : List (Option (ℕ × T)) → List (Option (ℕ × T)) → Type 0
  KeepsEntries old new = (i : ℕ) → entry_in new i ≡ entry_in old i

  -- the pointer is that of the entry of least index
  pub record IsFirst (slots : List (Option (ℕ × T))) (p : Pointer) : Type 0 where
    pub live : IsSome (look_up slots p)
    pub none_below : (i : ℕ) → i < p.0 → entry_in slots i ≡ None

  -- the pointer is that of the entry of greatest index
  pub record IsLast (slots : List (Option (ℕ × T))) (p : Pointer) : Type 0 where
    pub live : IsSome (look_up slots p)
    pub none_above : (i : ℕ) → p.0 < i → entry_in slots i ≡ None

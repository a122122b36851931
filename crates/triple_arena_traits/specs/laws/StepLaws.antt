-- Each step of a well-formed arena leaves it well formed.
use Rattle.std.proofs.Common.{◌≡◌, ℕ, zero, suc, ◌≤◌, Bool, true, false, List, [], ◌∷◌, length, Option, Some, None, IsSome, cond, min, nat_lt, refl, sym, arith}
use Rattle.std.proofs.lemmas.List.{length-map}
use Rattle.std.specs.Option.{option_map}
use Rattle.triple_arena_stack.specs.StackKind.{StackKind}
use Rattle.triple_arena_stack.specs.Capacity.{stack_capacity}
use Rattle.triple_arena_traits.specs.Items.{item, with_item}
use Rattle.triple_arena_traits.specs.laws.ItemLaws.{joined, with_item-past, with_item_same}
use Rattle.triple_arena_traits.specs.Entries.{with_generation_in}
use Rattle.triple_arena_traits.specs.ArenaState.{ArenaState, slot_count, capacity, entry, with_value, is_free, IsWellFormed}
use Rattle.triple_arena_traits.specs.Ending.{removed, invalidated, cleared}
use Rattle.triple_arena_traits.specs.FreeList.{trimmed, tidied, laid_out}
use Rattle.triple_arena_traits.specs.Reallocation.{EndsBy, reallocated, with_limit}
use Rattle.triple_arena_traits.specs.laws.EntryLaws.{within_room}
use Rattle.triple_arena_traits.specs.laws.LengthLaws.{live_slot}
use Rattle.triple_arena_traits.specs.laws.WellFormedLaws.{IsWellFormed-with_entry, IsWellFormed-counter, IsWellFormed-removed, IsWellFormed-empty}
use Rattle.triple_arena_traits.specs.laws.FreeListLaws.{gaps_free, gaps_total, trimmed_length}
use Rattle.triple_arena_traits.specs.Compression.{closed_up, compressed}
use Rattle.triple_arena_traits.specs.laws.CompressionLaws.{count-closed_up}
use Rattle.triple_arena_traits.specs.laws.LimitLaws.{ready_ends}

module _ {T : Type 0} where
  -- slots that fit in the capacity, with the gaps between them as the free list
  pub IsWellFormed-laid_out : (s : ArenaState T) (slots : List (Option (ℕ × T))) (counter : ℕ) → length slots ≤ capacity s → IsWellFormed (laid_out s slots counter)
  IsWellFormed-laid_out s slots counter fits = record { free_once = gaps_free slots; total = gaps_total 1 slots; fits = fits }

  pub IsWellFormed-tidied : (s : ArenaState T) → IsWellFormed s → IsWellFormed (tidied s)
  IsWellFormed-tidied s well = IsWellFormed-laid_out s (trimmed s.slots) s.counter (omega (arith, trimmed_length s.slots, well.fits))

  none_free : (counter : ℕ) (vs : List T) (i : ℕ) → cond {A = ℕ} (is_free (item (closed_up counter vs) i)) 1 0 ≡ 0
  none_free counter vs zero = refl
  none_free counter [] (suc k) = refl
  none_free counter (v ∷ vs) (suc zero) = refl
  none_free counter (v ∷ vs) (suc (suc k)) = none_free counter vs (suc k)

  pub IsWellFormed-compressed : (s : ArenaState T) (counter : ℕ) (vs : List T) → length vs ≤ capacity s → IsWellFormed (compressed s counter vs)
  IsWellFormed-compressed s counter vs fits =
      let size : length (closed_up counter vs) ≡ length vs = length-map {B = Option (ℕ × T)} vs (λ v. Some (counter, v)) in
      record {
        free_once = λ i. sym (none_free counter vs i);
        total = omega (arith, count-closed_up counter vs, size);
        fits = omega (arith, size);
      }

  -- an entry that is changed, if there is one
  changed_stays : (change : ℕ × T → ℕ × T) (s : ArenaState T) (i : ℕ) → IsWellFormed s → IsWellFormed (record s { slots = with_item s.slots i (option_map change (entry s i)) })
  changed_stays change s i well = by_item (item s.slots i) refl
    where
      by_item : (o : Option (Option (ℕ × T))) → item s.slots i ≡ o → IsWellFormed (record s { slots = with_item s.slots i (option_map change (joined o)) })
      by_item None e = rw (with_item-past s.slots i None e) well
      by_item (Some None) e = rw (with_item_same s.slots i None e) well
      by_item (Some (Some x)) e = IsWellFormed-with_entry s i x (change x) well e

  pub with_value_stays : (s : ArenaState T) (i : ℕ) (value : T) → IsWellFormed s → IsWellFormed (with_value s i value)
  with_value_stays s i value well = changed_stays (λ e. (e.0, value)) s i well

  pub invalidated_stays : (raise : ℕ → ℕ) (s : ArenaState T) (i : ℕ) → IsWellFormed s → IsWellFormed (invalidated raise s i)
  invalidated_stays raise s i well =
      IsWellFormed-counter (record s { slots = with_generation_in s.slots i (raise s.counter) }) (raise s.counter) (changed_stays (λ e. (raise s.counter, e.1)) s i well)

  pub removed_stays : (raise : ℕ → ℕ) (s : ArenaState T) (i : ℕ) → IsWellFormed s → IsSome (entry s i) → IsWellFormed (removed raise s i)
  removed_stays raise s i well live =
      let found = live_slot s.slots i live in
      IsWellFormed-removed raise s i found.0 well found.1

  pub cleared_stays : (raise : ℕ → ℕ) (s : ArenaState T) → IsWellFormed (cleared raise s)
  cleared_stays raise s =
      let empty = IsWellFormed-empty s.room s.limit s.greatest (cleared raise s).counter in
      record { free_once = empty.free_once; total = empty.total; fits = empty.fits }

  pub reallocated_stays : (kind : StackKind) (s : ArenaState T) (m : ℕ) → IsWellFormed s → IsWellFormed (reallocated kind s m)
  reallocated_stays kind s m well =
      let order = IsWellFormed-tidied s well in
      record {
        free_once = order.free_once;
        total = order.total;
        fits = within_room kind s.room (slot_count (tidied s)) m s.greatest s.limit order.fits;
      }

  pub with_limit_stays : (s : ArenaState T) (x : ℕ) → IsWellFormed s → EndsBy s x → IsWellFormed (with_limit s x)
  with_limit_stays s x well ends =
      by_order (nat_lt x (capacity s)) ((ready_ends s x well.fits).1 ends)
    where
      limited : (t : ArenaState T) → IsWellFormed t → slot_count t ≤ x → IsWellFormed (record t { limit = Some x })
      limited t kept below =
          record { free_once = kept.free_once; total = kept.total; fits = by_limit t.limit kept.fits }
        where
          by_limit : (o : Option ℕ) → slot_count t ≤ min (stack_capacity t.room o) t.greatest → slot_count t ≤ min (min t.room x) t.greatest
          by_limit None fits = omega arith
          by_limit (Some most) fits = omega arith

      by_order : (b : Bool) → slot_count (cond b (tidied s) s) ≤ x → IsWellFormed (record (cond b (tidied s) s) { limit = Some x })
      by_order true below = limited (tidied s) (IsWellFormed-tidied s well) below
      by_order false below = limited s well below

-- How the free slots at the end go, and leave the free list.
use Rattle.std.proofs.Common.{◌≡◌, ◌≢◌, ℕ, ◌+◌, ◌-◌, ◌<◌, ◌≤◌, Bool, true, false, List, [], ◌∷◌, ◌++◌, map, length, take, Option, Some, None, count_by, cond, is_some, refl, sym, ap, subst, ◌∙◌, inl, inr, not, arith}
use Rattle.std.proofs.lemmas.Bool.{cases_lt}
use Rattle.std.proofs.lemmas.List.{length-map, length-take-le}
use Rattle.std.proofs.lemmas.List.Sums.{sum_by_push}
use Rattle.triple_arena_traits.specs.Items.{item}
use Rattle.triple_arena_traits.specs.ArenaState.{ArenaState, slot_count, is_free, IsWellFormed}
use Rattle.triple_arena_traits.specs.FreeList.{trimmed, up_to, without_free_end}
use Rattle.triple_arena_slots.specs.Slot.{entry_of, next_free, previous_free}
use Rattle.triple_arena_slots.specs.Layout.{IsLinked, Leaves, Shows, without_last, entry_at}
use Rattle.triple_arena_slots.specs.Link.{Link}
use Rattle.triple_arena_slots.specs.declared.slot.ArenaSlot.{ArenaSlot}
use Rattle.triple_arena_slots.specs.declared.slot.ArenaSlot.TheVariants.{Free}
use Rattle.triple_arena_traits.specs.laws.ItemLaws.{item_within, item_past, item-take, split_last, item-map_some}
use Rattle.triple_arena_traits.specs.laws.FreeListLaws.{trimmed_popped, trimmed_length}
use Rattle.triple_arena_traits.proofs.FreeEnd.{without_none}
use Rattle.triple_arena_traits.proofs.UpTo.{up_to-cons, up_to-past, up_to_all, count-up_to, count-past, length_more}
use Rattle.triple_arena_slots.proofs.TwoWay.{times, up_to-split}
use Rattle.triple_arena_traits.specs.laws.LengthLaws.{live_slot}
use Rattle.triple_arena_slots.proofs.Links.{free_at, left_linked}
use Rattle.triple_arena_slots.proofs.Tidying.{vacant_within}

-- one that left the end is one less, whatever is written to the others' links
pub popped_length : {A B : Type 0} (f : A → B) (new mid old : List A) → map f new ≡ map f mid → mid ≡ take (length old - 1) old → 0 < length old → length new + 1 ≡ length old
popped_length f new mid old same popped some =
    omega (arith, ap length same, length-map new f, length-map mid f, ap length popped, length-take-le (length old - 1) old (omega arith), some)

-- of the indexes up to a number those up to a lower one are left
up_to-less : (n m : ℕ) (xs : List ℕ) → n ≤ m → up_to n (up_to m xs) ≡ up_to n xs
up_to-less n m [] h = refl
up_to-less n m (x ∷ xs) h =
    elim (cases_lt m x) [
      | inl past ↦ rw (up_to-past m x xs past, up_to-past n x xs (omega arith)) (up_to-less n m xs h)
      | inr within ↦ rw (up_to-cons m x xs within) (elim (cases_lt n x) [
        | inl beyond ↦ rw (up_to-past n x (up_to m xs) beyond, up_to-past n x xs beyond) (up_to-less n m xs h)
        | inr below ↦ rw (up_to-cons n x (up_to m xs) below, up_to-cons n x xs below) (ap (λ l. x ∷ l) (up_to-less n m xs h))
      ])
    ]

module _ {T : Type 0} where
  -- without a last slot that is free an arena stays well formed
  IsWellFormed-without_last : (s : ArenaState T) → IsWellFormed s → item s.slots (slot_count s) ≡ Some None → IsWellFormed (without_last s)
  IsWellFormed-without_last s well vacant =
      let n = slot_count s in
      let within = item_within s.slots n None vacant in
      let rest : List (Option (ℕ × T)) = take (n - 1) s.slots in
      let split : s.slots ≡ rest ++ None ∷ [] = split_last s.slots None vacant in
      let shorter = length-take-le (n - 1) s.slots (omega arith) in
      let live = ap (count_by is_some) split ∙ sum_by_push (λ o. cond (is_some o) 1 0) rest None in
      let once : times n s.free ≡ 1 = rw vacant at (well.free_once n) in
      let all : up_to n s.free ≡ s.free = up_to_all n s.free (λ i h. rw (item_past s.slots i h) at (well.free_once i)) in
      let m : n - 1 + 1 ≡ n = omega (arith, within) in
      let fewer = length_more (n - 1) 1 s.free (λ i h l.
      let here : n ≡ i = omega (arith, h, l, m) in
      subst (λ k. times k s.free ≡ 1) here once) in
      record {
        free_once = λ j. elim (cases_lt (n - 1) j) [
          | inl past ↦ rw (item_past rest j (omega (arith, shorter, past))) (count-past (n - 1) j s.free past)
          | inr below ↦ rw (item-take (n - 1) s.slots j below) (count-up_to (n - 1) j s.free below ∙ well.free_once j)
        ];
        total = omega (arith, well.total, live, shorter, rw (m, all) at fewer);
        fits = omega (arith, well.fits, shorter);
      }

  -- and its free end is the same
  pub ends_same : (s : ArenaState T) → item s.slots (slot_count s) ≡ Some None → without_free_end (without_last s) ≡ without_free_end s
  ends_same s vacant =
      let same = trimmed_popped s.slots (ap is_free vacant) in
      let less = trimmed_length (take (slot_count s - 1) s.slots) in
      let kept = length-take-le (slot_count s - 1) s.slots (omega arith) in
      let free : up_to (length (trimmed (take (slot_count s - 1) s.slots))) (up_to (slot_count s - 1) s.free) ≡ up_to (length (trimmed (take (slot_count s - 1) s.slots))) s.free = up_to-less (length (trimmed (take (slot_count s - 1) s.slots))) (slot_count s - 1) s.free (omega (arith, less, kept)) in
      rw free (rw same refl)

-- every other item stays where the last is popped
pub item-popped : {A : Type 0} (xs : List A) (i : ℕ) → i ≡ length xs → (j : ℕ) → j ≢ i → item (take (length xs - 1) xs) j ≡ item xs j
item-popped xs i last j other =
    elim (cases_lt (length xs) j) [
      | inl past ↦ item_past (take (length xs - 1) xs) j (omega (arith, past, length-take-le (length xs - 1) xs (omega arith))) ∙ sym (item_past xs j past)
      | inr within ↦ item-take (length xs - 1) xs j (omega (arith, within, other, last))
    ]

module _ {P T I G : Type 0} (number : G → ℕ) where
  -- of a slot that is there, whether it is free
  pub free_or_live : (es : List (ArenaSlot P T I G)) (i : ℕ) → 0 < i → i ≤ length es → not (is_some (entry_at number es i)) ≡ is_free (item (map (entry_of number) es) i)
  free_or_live es i positive within = by_test (is_some (entry_at number es i)) refl
    where
      by_test : (b : Bool) → is_some (entry_at number es i) ≡ b → not b ≡ is_free (item (map (entry_of number) es) i)
      by_test true live = sym (ap is_free (live_slot (map (entry_of number) es) i live).1)
      by_test false none = sym (ap is_free (vacant_within (map (entry_of number) es) i positive (omega (arith, within, length-map es (entry_of number))) none))

  -- the last slot of the state is free where that of the slots is
  pub last_vacant : (es : List (ArenaSlot P T I G)) (root : Option ℕ) (len : ℕ) (s : ArenaState T) → item (map (entry_of number) es) (length es) ≡ Some None → Shows number es root len s → item s.slots (slot_count s) ≡ Some None
  last_vacant es root len s vacant shows =
      let size : length es ≡ slot_count s = sym (length-map es (entry_of number)) ∙ ap length shows.slots in
      rw size at (ap (λ xs. item xs (length es)) (sym shows.slots) ∙ vacant)

  -- the last slot is popped, and left the list where it stood
  pub Shows-without_last : (es es1 es2 : List (ArenaSlot P T I G)) (root root2 : Option ℕ) (i len : ℕ) (link : Link) (s : ArenaState T) → i ≡ length es → item es i ≡ Some (Free link) → ((j : ℕ) → j ≢ i → item es1 j ≡ item es j) → map (entry_of number) es1 ≡ take (length es - 1) (map (entry_of number) es) → Leaves number es1 es2 root root2 (next_free link i) (previous_free link i) → Shows number es root len s → Shows number es2 root2 len (without_last s)
  Shows-without_last es es1 es2 root root2 i len link s last found same popped leaves shows =
      let size : length es ≡ slot_count s = sym (length-map es (entry_of number)) ∙ ap length shows.slots in
      let at = free_at number es root i len link s found shows in
      let positive = (item_within es i (Free link) found).0 in
      let vacant : item s.slots (slot_count s) ≡ Some None = last_vacant es root len s (ap (item (map (entry_of number) es)) (sym last) ∙ item-map_some (entry_of number) es i (Free link) found) shows in
      let here : i ≡ slot_count s - 1 + 1 = omega (arith, last, size, positive) in
      let greatest : (j : ℕ) → i < j → times j (at.in_front ++ i ∷ at.behind) ≡ 0 =
      λ j h. ap (times j) (sym at.split) ∙ rw (item_past s.slots j (omega (arith, h, last, size))) at (shows.well.free_once j) in
      let free : up_to (slot_count s - 1) s.free ≡ at.in_front ++ at.behind = ap (up_to (slot_count s - 1)) at.split ∙ up_to-split (slot_count s - 1) i at.in_front at.behind here at.once greatest in
      let rest : List (Option (ℕ × T)) = take (slot_count s - 1) s.slots in
      let live = ap (count_by is_some) (split_last s.slots None vacant) ∙ sum_by_push (λ o. cond (is_some o) 1 0) rest None in
      record {
        slots = leaves.entries ∙ popped ∙ ap (λ n. take (n - 1) (map (entry_of number) es)) size ∙ ap (take (slot_count s - 1)) shows.slots;
        linked = subst (IsLinked es2 root2) (sym free) (left_linked number es es1 es2 root root2 i link s at same leaves);
        counted = omega (arith, shows.counted, live);
        well = IsWellFormed-without_last s shows.well vacant;
      }

  -- slots of which the last has an entry are left as they are
  pub Shows-ended : (es : List (ArenaSlot P T I G)) (root : Option ℕ) (len : ℕ) (s : ArenaState T) → is_free (item (map (entry_of number) es) (length es)) ≡ false → Shows number es root len s → Shows number es root len (without_free_end s)
  Shows-ended es root len s live shows =
      let size : length es ≡ slot_count s = sym (length-map es (entry_of number)) ∙ ap length shows.slots in
      let ends : is_free (item s.slots (slot_count s)) ≡ false = rw size at (ap (λ xs. is_free (item xs (length es))) (sym shows.slots) ∙ live) in
      rw (without_none s shows.well ends) shows

  -- so many pops to come leave the arena as they leave it without its last slot
  pub Shows-fewer : (es : List (ArenaSlot P T I G)) (root : Option ℕ) (len : ℕ) (s : ArenaState T) → item (map (entry_of number) es) (length es) ≡ Some None → Shows number es root len s → without_free_end (without_last s) ≡ without_free_end s
  Shows-fewer es root len s vacant shows = ends_same s (last_vacant es root len s vacant shows)

-- How the free slots are linked in an order that is given.
use Rattle.std.proofs.Common.{◌≡◌, ◌≢◌, ℕ, ◌+◌, ◌<◌, ◌≤◌, ◌==◌, Bool, true, false, List, [], ◌∷◌, ◌++◌, map, length, take, drop, get_or, Option, Some, None, cond, refl, sym, ap, subst, ◌∙◌, arith}
use Rattle.std.proofs.lemmas.List.{drop_all, drop-map, drop_more, take-append-drop}
use Rattle.std.proofs.lemmas.List.Sums.{sum_by-cons}
use Rattle.std.proofs.lemmas.Option.{same_Some}
use Rattle.triple_arena_traits.specs.Items.{item}
use Rattle.triple_arena_traits.specs.Entries.{entry_in}
use Rattle.triple_arena_traits.specs.ArenaState.{is_free}
use Rattle.triple_arena_traits.specs.laws.EntryLaws.{count_head}
use Rattle.triple_arena_traits.specs.laws.FreeListLaws.{vacant_is}
use Rattle.triple_arena_traits.specs.laws.ItemLaws.{joined, with_item_same}
use Rattle.triple_arena_slots.specs.Slot.{entry_of}
use Rattle.triple_arena_slots.specs.Layout.{after, before, IsLinked, Begins}
use Rattle.triple_arena_slots.specs.declared.slot.ArenaSlot.{ArenaSlot}
use Rattle.triple_arena_slots.proofs.TwoWay.{times, times-append, Once, Linked-led}
use Rattle.triple_arena_slots.proofs.Links.{leads_of}

-- what is read of a list stands at the head of the rest from there on
pub read_here : {X Y : Type 0} (f : X → Y) (xs : List X) (at : ℕ) (x : X) → at < length xs → x ≡ get_or xs at x → drop at (map f xs) ≡ f x ∷ drop (at + 1) (map f xs)
read_here f xs at x lt read =
    drop-map f at xs ∙ ap (map f) (drop_more xs at x lt ∙ ap (λ y. y ∷ drop (at + 1) xs) (sym read)) ∙ ap (λ ys. f x ∷ ys) (sym (drop-map f (at + 1) xs))

-- an index of a list stands in the list from there on once, and not behind it
stands_once : (xs : List ℕ) (n i : ℕ) (rest : List ℕ) → drop n xs ≡ i ∷ rest → Once xs → (times i rest ≡ 0) × Once rest
stands_once xs n i rest here once =
    let all : xs ≡ take n xs ++ i ∷ rest = sym (take-append-drop n xs) ∙ ap (λ ys. take n xs ++ ys) here in
    let count : (j : ℕ) → times j xs ≡ times j (take n xs) + times j (i ∷ rest) = λ j. ap (times j) all ∙ times-append j (take n xs) (i ∷ rest) in (
      omega (arith, once i, count i, count_head i rest),
      λ j. omega (arith, once j, count j, times_tail i j rest),
    )
  where
    times_tail : (i j : ℕ) (rest : List ℕ) → times j rest ≤ times j (i ∷ rest)
    times_tail i j rest = omega (arith, sum_by-cons (λ k. cond (k == j) 1 0) i rest)

module _ {P T I G : Type 0} (number : G → ℕ) where
  -- the free indexes from `at` on link in their order
  pub record LinkedBehind (old now : List (ArenaSlot P T I G)) (free : List ℕ) (at : ℕ) (root : Option ℕ) : Type 0 where
    pub same : map (entry_of number) now ≡ map (entry_of number) old
    pub linked : IsLinked now root (drop at free)
    pub vacant : (j : ℕ) → root ≡ Some j → item (map (entry_of number) now) j ≡ Some None

  pub LinkedBehind-start : (es : List (ArenaSlot P T I G)) (free : List ℕ) (at : ℕ) → length free ≤ at → LinkedBehind es es free at None
  LinkedBehind-start es free at all =
      record { same = refl; linked = rw (drop_all at free all) refl; vacant = λ j h. absurd (cc) }

  -- the index before those that are linked is that of a free slot, and isn't linked yet
  pub record Next (now : List (ArenaSlot P T I G)) (root : Option ℕ) (i : ℕ) (behind : List ℕ) : Type 0 where
    pub vacant : item (map (entry_of number) now) i ≡ Some None
    pub other : root ≢ Some i
    pub off : times i behind ≡ 0
    pub once : Once behind

  -- each index of the order is that of a free slot, and no other is
  abbrev pub OrdersFree : List (ArenaSlot P T I G) → List ℕ → Type 0
  OrdersFree es free = (i : ℕ) → times i free ≡ cond (is_free (item (map (entry_of number) es) i)) 1 0

  module _ (old now : List (ArenaSlot P T I G)) (free : List ℕ) (at i : ℕ) (root : Option ℕ) (orders : OrdersFree old free) (here : drop at free ≡ i ∷ drop (at + 1) free) (behind_at : ℕ) (is_next : behind_at ≡ at + 1) (linked_behind : LinkedBehind old now free behind_at root) where
    l : LinkedBehind old now free (at + 1) root
    l = subst (λ m. LinkedBehind old now free m root) is_next linked_behind

    Once-free : Once free
    Once-free j = by_test (is_free (item (map (entry_of number) old) j)) (orders j)
      where
        by_test : (b : Bool) → times j free ≡ cond b 1 0 → times j free ≤ 1
        by_test true h = omega (arith, h)
        by_test false h = omega (arith, h)

    stands : 1 ≤ times i free
    stands = omega (arith, ap (times i) (sym (take-append-drop at free) ∙ ap (λ ys. take at free ++ ys) here), times-append i (take at free) (i ∷ drop (at + 1) free), count_head i (drop (at + 1) free))

    pub next_one : Next now root i (drop (at + 1) free)
    next_one =
        let behind = stands_once free at i (drop (at + 1) free) here Once-free in
        record {
          vacant = ap (λ xs. item xs i) l.same ∙ by_test (is_free (item (map (entry_of number) old) i)) refl;
          other = not_root (drop (at + 1) free) behind.0 l.linked;
          off = behind.0;
          once = behind.1;
        }
      where
        by_test : (b : Bool) → is_free (item (map (entry_of number) old) i) ≡ b → item (map (entry_of number) old) i ≡ Some None
        by_test true h = vacant_is (item (map (entry_of number) old) i) h
        by_test false h = absurd (omega (arith, stands, rw h at (orders i)))

        not_root : (ys : List ℕ) → times i ys ≡ 0 → IsLinked now root ys → root ≢ Some i
        not_root [] off linked e = absurd (cc)
        not_root (y ∷ ys) off linked e =
            let same : y ≡ i = same_Some _ _ (sym linked.0 ∙ e) in
            absurd (omega (arith, subst (λ m. times i (m ∷ ys) ≡ 0) same off, count_head i ys))

    -- it comes to the front
    pub LinkedBehind-next : (new : List (ArenaSlot P T I G)) → Begins number now new root i → LinkedBehind old new free at (Some i)
    LinkedBehind-next new begins =
        let next = next_one in
        let same : map (entry_of number) new ≡ map (entry_of number) now = begins.entries ∙ with_item_same (map (entry_of number) now) i None next.vacant in
        record {
          same = same ∙ l.same;
          linked = rw here (Linked-led (after now) (before now) (after new) (before new) root i (drop (at + 1) free) (leads_of number now new root i begins) next.off next.once l.linked);
          vacant = λ j h. ap (λ xs. item xs j) same ∙ subst (λ m. item (map (entry_of number) now) m ≡ Some None) (same_Some _ _ h) next.vacant;
        }

-- a free slot has no entry
pub vacant_entry : {T : Type 0} (xs : List (Option (ℕ × T))) (i : ℕ) → item xs i ≡ Some None → entry_in xs i ≡ None
vacant_entry xs i vacant = ap joined vacant

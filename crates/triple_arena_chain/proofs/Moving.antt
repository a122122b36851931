-- Chains after a compaction.
use Rattle.std.proofs.Common.{◌≡◌, ℕ, zero, suc, ◌+◌, ◌<◌, ◌≤◌, List, [], ◌∷◌, map, Option, Some, None, IsSome, refl, sym, ap, ◌∙◌, subst, inl, inr, arith}
use Rattle.std.specs.List.{Contains, range_with_len}
use Rattle.std.specs.Option.{option_map, option_and_then}
use Rattle.std.proofs.lemmas.List.Elements.{Contains-append_cases}
use Rattle.triple_arena_base.specs.Held.{held_option, refill_option}
use Rattle.triple_arena_base.specs.Readings.{FollowsNames}
use Rattle.triple_arena_base.specs.declared.errors.CompactError.{CompactError}
use Rattle.triple_arena_base.specs.declared.errors.CompactError.TheVariants.{Unresolved, Reallocation}
use Rattle.triple_arena_base.specs.laws.ReadingLaws.{option_follows, both_follows}
use Rattle.triple_arena_ptr.specs.Pointers.{Pointer}
use Rattle.triple_arena.specs.Entries.{look_up, entry_count}
use Rattle.triple_arena.specs.Walks.{keys}
use Rattle.triple_arena.specs.laws.LookUpLaws.{pointer_follows}
use Rattle.triple_arena.specs.laws.WalkLaws.{live_key, key_live}
use Rattle.triple_arena_recasting.specs.Renaming.{MapsPointers, IsStray, IsFoundRenamed, RefusesStray}
use Rattle.triple_arena_recasting.specs.laws.RenamingLaws.{found_read}
use Rattle.triple_arena_chain.specs.declared.link.Link.{Link}
use Rattle.triple_arena_chain.specs.Links.{link_held, link_refill}
use Rattle.triple_arena_chain.specs.Chains.{Node, node_of, node_slots, renamed, after_at, before_at, IsLinked, IsMoved}
use Rattle.triple_arena_chain.specs.laws.LinkLaws.{leads_on_there, leads_back_there, same_pointer}
use Rattle.triple_arena_chain.specs.laws.NodeLaws.{not_there}
use Rattle.triple_arena_chain.proofs.Reading.{read_link}

-- one direction: what leads on is led back to
moved_back : (f g f' g' : Pointer → Option Pointer) (rename : Pointer → Pointer) (There : Pointer → Type 0) → ((a b : Pointer) → f a ≡ Some b → g b ≡ Some a)
    → ((a b : Pointer) → g b ≡ Some a → There b) → ((p : Pointer) → There p → f' (rename p) ≡ option_map rename (f p)) → ((p : Pointer) → There p → g' (rename p) ≡ option_map rename (g p))
    → ((a b : Pointer) → f' a ≡ Some b → (p : Pointer) × There p × (rename p ≡ a)) → (a b : Pointer) → f' a ≡ Some b → g' b ≡ Some a
moved_back f g f' g' rename There linked back f_moved g_moved all a b leads = by_next (f from.0) refl (sym (f_moved from.0 from.1) ∙ ap f' from.2 ∙ leads)
  where
    from : (p : Pointer) × There p × (rename p ≡ a)
    from = all a b leads

    by_next : (o : Option Pointer) → f from.0 ≡ o → option_map rename o ≡ Some b → g' b ≡ Some a
    by_next None was is = absurd (cc)
    by_next (Some next) was is =
        let to : rename next ≡ b = same_pointer (rename next) b is in
        let led : g next ≡ Some from.0 = linked from.0 next was in
        ap g' (sym to) ∙ g_moved next (back from.0 next led) ∙ ap (option_map rename) led ∙ ap Some from.2

module _ {T : Type 0} where
  after_renamed : (rename : Pointer → Pointer) (o : Option (Node T)) → option_and_then (λ (n : Node T). n.after) (option_map (renamed rename) o) ≡ option_map rename (option_and_then (λ (n : Node T). n.after) o)
  after_renamed rename None = refl
  after_renamed rename (Some node) = refl

  before_renamed : (rename : Pointer → Pointer) (o : Option (Node T)) → option_and_then (λ (n : Node T). n.before) (option_map (renamed rename) o) ≡ option_map rename (option_and_then (λ (n : Node T). n.before) o)
  before_renamed rename None = refl
  before_renamed rename (Some node) = refl

  -- chains that were moved are chains
  pub linked_moved : (old : Pointer → Option (Node T)) (rename : Pointer → Pointer) (new : Pointer → Option (Node T)) → IsLinked old → IsMoved old rename new → IsLinked new
  linked_moved old rename new linked moves a b =
      let on : (p : Pointer) → IsSome (old p) → after_at new (rename p) ≡ option_map rename (after_at old p) =
      λ p there. ap (option_and_then (λ (n : Node T). n.after)) (moves.moved p there) ∙ after_renamed rename (old p) in
      let back : (p : Pointer) → IsSome (old p) → before_at new (rename p) ≡ option_map rename (before_at old p) =
      λ p there. ap (option_and_then (λ (n : Node T). n.before)) (moves.moved p there) ∙ before_renamed rename (old p) in (
        moved_back (after_at old) (before_at old) (after_at new) (before_at new) rename (λ p. IsSome (old p)) (λ x y. (linked x y).0) (λ x y e. leads_back_there old y x e) on back (λ x y e. moves.all x (leads_on_there new x y e)) a b,
        moved_back (before_at old) (after_at old) (before_at new) (after_at new) rename (λ p. IsSome (old p)) (λ x y. (linked y x).1) (λ x y e. leads_on_there old y x e) back on (λ x y e. moves.all x (leads_back_there new x y e)) b a,
      )

-- a pointer of a list that was mapped comes from one of the list
from_mapped : (f : Pointer → Pointer) (ks : List Pointer) (q : Pointer) → Contains (map f ks) q → (p : Pointer) × Contains ks p × (f p ≡ q)
from_mapped f [] q (k, within, is) = absurd (omega arith)
from_mapped f (p ∷ ks) q (zero, within, is) = (p, (zero, omega arith, refl), is)
from_mapped f (p ∷ ks) q (suc k, within, is) =
    let rest = from_mapped f ks q (k, omega arith, is) in
    (rest.0, (suc rest.1.0, omega (arith, rest.1.1), rest.1.2), rest.2)

-- what is among so many numbers that follow each other is below the end of them
below_end : (a n i : ℕ) → Contains (range_with_len a n) i → i < a + n
below_end a zero i (k, within, is) = absurd (omega arith)
below_end a (suc n) i (zero, within, is) = omega (arith, is)
below_end a (suc n) i (suc k, within, is) = let rest = below_end (a + 1) n i (k, omega (arith, within), is) in omega (arith, rest)

index_among : (ks : List Pointer) (q : Pointer) → Contains ks q → Contains (map (λ p. p.0) ks) q.0
index_among [] q (k, within, is) = absurd (omega arith)
index_among (p ∷ ks) q (zero, within, is) = (zero, omega arith, ap (λ p. p.0) is)
index_among (p ∷ ks) q (suc k, within, is) =
    let rest = index_among ks q (k, omega (arith, within), is) in
    (suc rest.0, omega (arith, rest.1), rest.2)

module _ {P : Type 0} (numbers : P → Pointer) (held : P → List P) (refill : P → List P → P) (holds_itself : (p : P) → held p ≡ p ∷ []) (refills : (p q : P) → refill p (q ∷ []) ≡ q) where
  -- an end that holds a pointer is that pointer
  end_holds : (end : Option P) (p : P) → Contains (held_option held end) p → end ≡ Some p
  end_holds None p (k, within, is) = absurd (omega arith)
  end_holds (Some q) p contains = by_place (subst (λ ps. Contains ps p) (holds_itself q) contains)
    where
      by_place : Contains (q ∷ []) p → Some q ≡ Some p
      by_place (zero, within, is) = ap Some is
      by_place (suc k, within, is) = absurd (omega (arith, within))

  module _ {T : Type 0} where
    -- what is read of a link follows the names of what it leads to
    pub link_follows : FollowsNames {T = Link P T} numbers (link_held held refill) (link_refill held refill) (node_of numbers) renamed
    link_follows rename link l names =
        ap (λ ends. record { value = link.value; before = ends.0; after = ends.1 })
        (both_follows numbers (held_option held) (refill_option refill) (option_map numbers) (λ f. option_map f)
        (held_option held) (refill_option refill) (option_map numbers) (λ f. option_map f)
        (option_follows numbers held refill numbers (λ f. f) (pointer_follows numbers held refill holds_itself refills))
        (option_follows numbers held refill numbers (λ f. f) (pointer_follows numbers held refill holds_itself refills))
        rename (link.before, link.after) l names)

    module _ (slots : List (Option (ℕ × Link P T))) (linked : IsLinked (look_up (node_slots numbers slots))) where
      -- no link leads to what isn't there
      pub none_stray : (p : P) → IsStray numbers slots (link_held held refill) slots p → ⊥
      none_stray p stray = not_there (look_up (node_slots numbers slots) (numbers p)) dead there
        where
          dead : look_up (node_slots numbers slots) (numbers p) ≡ None
          dead = read_link numbers slots (numbers p) ∙ ap (option_map (node_of numbers)) stray.dead

          node : look_up (node_slots numbers slots) stray.holder ≡ Some (node_of numbers stray.value)
          node = read_link numbers slots stray.holder ∙ ap (option_map (node_of numbers)) stray.found

          there : IsSome (look_up (node_slots numbers slots) (numbers p))
          there =
              elim (Contains-append_cases (held_option held stray.value.before) (held_option held stray.value.after) p stray.holds) [
                | inl before ↦
                    leads_on_there (look_up (node_slots numbers slots)) (numbers p) stray.holder
                    ((linked (numbers p) stray.holder).1 (ap (option_and_then (λ (n : Node T). n.before)) node ∙ ap (option_map numbers) (end_holds stray.value.before p before)))
                | inr after ↦
                    leads_back_there (look_up (node_slots numbers slots)) (numbers p) stray.holder
                    ((linked stray.holder (numbers p)).0 (ap (option_and_then (λ (n : Node T). n.after)) node ∙ ap (option_map numbers) (end_holds stray.value.after p after)))
              ]

      -- so a refusal tells of memory
      pub only_memory : (refusal : CompactError P) → RefusesStray numbers slots (link_held held refill) slots refusal → 0 < entry_count slots
      only_memory (Unresolved p) stray = absurd (none_stray p stray)
      only_memory (Reallocation refusal) (is, some) = some

    some_read : (slots : List (Option (ℕ × Link P T))) (p : Pointer) → IsSome (look_up (node_slots numbers slots) p) → IsSome (look_up slots p)
    some_read slots p some = by_link (look_up slots p) (subst IsSome (read_link numbers slots p) some)
      where
        by_link : (o : Option (Link P T)) → IsSome (option_map (node_of numbers) o) → IsSome o
        by_link None some = some
        by_link (Some link) some = some

    read_some : (slots : List (Option (ℕ × Link P T))) (p : Pointer) → IsSome (look_up slots p) → IsSome (look_up (node_slots numbers slots) p)
    read_some slots p some = subst IsSome (sym (read_link numbers slots p)) (by_link (look_up slots p) some)
      where
        by_link : (o : Option (Link P T)) → IsSome o → IsSome (option_map (node_of numbers) o)
        by_link None some = some
        by_link (Some link) some = some

    -- what a compaction with recasting tells, in chains
    pub is_moved : (rename : Pointer → Pointer) (old new : List (Option (ℕ × Link P T))) → keys new ≡ map rename (keys old)
        → ((p : Pointer) → IsSome (look_up old p) → IsFoundRenamed numbers rename (link_held held refill) (link_refill held refill) (look_up old p) (look_up new (rename p)))
        → IsMoved (look_up (node_slots numbers old)) rename (look_up (node_slots numbers new))
    is_moved rename old new ks found =
        record {
          moved = λ p there.
              read_link numbers new (rename p)
              ∙ found_read numbers (link_held held refill) (link_refill held refill) (node_of numbers) renamed link_follows rename (look_up old p) (look_up new (rename p)) (found p (some_read old p there))
              ∙ ap (option_map (renamed rename)) (sym (read_link numbers old p));
          all = λ q there.
              let from = from_mapped rename (keys old) q (subst (λ ps. Contains ps q) ks (live_key new q (some_read new q there))) in
              (from.0, read_some old from.0 (key_live old from.0 from.1), from.2);
        }

    -- and no index is above the number of entries
    pub packed : (rename : Pointer → Pointer) (old new : List (Option (ℕ × Link P T))) → keys new ≡ map rename (keys old)
        → map (λ p. p.0) (map rename (keys old)) ≡ range_with_len 1 (entry_count old) → entry_count new ≡ entry_count old
        → (p : Pointer) → IsSome (look_up (node_slots numbers new) p) → p.0 ≤ entry_count new
    packed rename old new ks ranked count p there =
        let among : Contains (map (λ (q : Pointer). q.0) (keys new)) p.0 = index_among (keys new) p (live_key new p (some_read new p there)) in
        let below : p.0 < 1 + entry_count old = below_end 1 (entry_count old) p.0 (subst (λ is. Contains is p.0) (ap (map (λ (q : Pointer). q.0)) ks ∙ ranked) among) in
        omega (arith, below, count)

    -- the map of a compaction, in chains
    pub maps_chains : {I : Type 0} (images : I → Pointer) (rename : Pointer → Pointer) (slots : List (Option (ℕ × Link P T))) (map_slots : List (Option (ℕ × I)))
        → MapsPointers images rename slots map_slots → MapsPointers images rename (node_slots numbers slots) map_slots
    maps_chains images rename slots map_slots maps p = maps p ∙ by_link (look_up slots p) ∙ ap (option_map (λ _. rename p)) (sym (read_link numbers slots p))
      where
        by_link : (o : Option (Link P T)) → option_map (λ _. rename p) o ≡ option_map (λ _. rename p) (option_map (node_of numbers) o)
        by_link None = refl
        by_link (Some link) = refl

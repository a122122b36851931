-- Chains in which a value is written.
use Rattle.std.proofs.Common.{◌≡◌, ℕ, List, Option, Some, None, refl, sym, ap, ◌∙◌}
use Rattle.std.specs.Option.{option_map, option_and_then}
use Rattle.triple_arena_ptr.specs.Pointers.{Pointer}
use Rattle.triple_arena.specs.ArenaState.{map_entry}
use Rattle.triple_arena.specs.Entries.{entry_in, look_up, entry_count, with_value_in}
use Rattle.triple_arena.specs.Items.{item, with_item}
use Rattle.triple_arena.specs.laws.ItemLaws.{item-map, map-with_item}
use Rattle.triple_arena.specs.laws.LookUpLaws.{entry_at}
use Rattle.triple_arena_chain.specs.declared.link.Link.{Link}
use Rattle.triple_arena_chain.specs.Chains.{Node, node_of, node_slots, value_at, after_at, before_at, changed, with_value, with_value_at, state_of, IsLinked, IsWritten}
use Rattle.triple_arena_chain.specs.laws.LinkLaws.{same_pointer}
use Rattle.triple_arena_chain.proofs.Reading.{read_link, changed_link}
use Rattle.triple_arena_chain.proofs.Tying.{kept, there, elsewhere}

module _ {T : Type 0} (old new : Pointer → Option (Node T)) (p : Pointer) (value : T)
    (written : (q : Pointer) → new q ≡ changed (Some p) (with_value value) q (old q)) where
  leads_on : (r : Pointer) → after_at new r ≡ after_at old r
  leads_on r = ap (option_and_then (λ (n : Node T). n.after)) (written r) ∙ kept (option_and_then (λ (n : Node T). n.after)) (with_value value) (λ node. refl) (Some p) r (old r)

  leads_back : (r : Pointer) → before_at new r ≡ before_at old r
  leads_back r = ap (option_and_then (λ (n : Node T). n.before)) (written r) ∙ kept (option_and_then (λ (n : Node T). n.before)) (with_value value) (λ node. refl) (Some p) r (old r)

  pub linked_written : IsLinked old → IsLinked new
  linked_written linked a b = (
    λ e. leads_back b ∙ (linked a b).0 (sym (leads_on a) ∙ e),
    λ e. leads_on a ∙ (linked a b).1 (sym (leads_back b) ∙ e),
  )

  pub is_written : (was : T) → value_at old p ≡ Some was → IsWritten old p value new
  is_written was some =
      record {
        found = ap (option_map (λ (n : Node T). n.value)) (written p ∙ there (with_value value) (Some p) p (old p) refl) ∙ by_node (old p) some;
        values = λ r other. ap (option_map (λ (n : Node T). n.value)) (written r ∙ elsewhere (with_value value) (Some p) r (old r) (λ e. other (sym (same_pointer p r e))));
        afters = leads_on;
        befores = leads_back;
      }
    where
      by_node : (o : Option (Node T)) → option_map (λ (n : Node T). n.value) o ≡ Some was → option_map (λ (n : Node T). n.value) (option_map (with_value value) o) ≡ Some value
      by_node None e = absurd (cc)
      by_node (Some node) e = refl

-- a value that is written to a link is written to its node, and to the chains
module _ {P T : Type 0} (numbers : P → Pointer) (slots : List (Option (ℕ × Link P T))) (p : P) (link : Link P T) where
  pub value_read : look_up slots (numbers p) ≡ Some link → value_at (look_up (node_slots numbers slots)) (numbers p) ≡ Some link.value
  value_read found = ap (option_map (λ (n : Node T). n.value)) (read_link numbers slots (numbers p) ∙ ap (option_map (node_of numbers)) found)

module _ {P T : Type 0} (numbers : P → Pointer) (slots : List (Option (ℕ × Link P T))) (p : P) (link : Link P T) (value : T)
    (found : look_up slots (numbers p) ≡ Some link) where
  read_entry : entry_in (node_slots numbers slots) (numbers p).0 ≡ Some ((numbers p).1, node_of numbers link)
  read_entry = ap (option_and_then (λ slot. slot)) (item-map (option_map (map_entry (node_of numbers))) slots (numbers p).0) ∙ by_slot (item slots (numbers p).0) (entry_at slots (numbers p) link found)
    where
      by_slot : (o : Option (Option (ℕ × Link P T))) → option_and_then (λ slot. slot) o ≡ Some ((numbers p).1, link)
          → option_and_then (λ slot. slot) (option_map (option_map (map_entry (node_of numbers))) o) ≡ Some ((numbers p).1, node_of numbers link)
      by_slot None e = absurd (cc)
      by_slot (Some slot) e = ap (option_map (map_entry (node_of numbers))) e

  -- the slots of the chains with this value
  abbrev with_it : List (Option (ℕ × Node T))
  with_it = with_item (node_slots numbers slots) (numbers p).0 (option_map (map_entry (with_value value)) (entry_in (node_slots numbers slots) (numbers p).0))

  node_written : node_slots numbers (with_value_in slots (numbers p).0 (record link { value = value })) ≡ with_it
  node_written =
      map-with_item (option_map (map_entry (node_of numbers))) slots (numbers p).0 (option_map (λ e. (e.0, record link { value = value })) (entry_in slots (numbers p).0))
      ∙ ap (with_item (node_slots numbers slots) (numbers p).0)
      (ap (λ o. option_map (map_entry (node_of numbers)) (option_map (λ e. (e.0, record link { value = value })) o)) (entry_at slots (numbers p) link found)
      ∙ sym (ap (option_map (map_entry (with_value value))) read_entry))

  pub state_written : {A : Type 0} (put : A → ℕ → T → A) (arena other : A) (new : List (Option (ℕ × Link P T))) (capacity more : ℕ) (limit most : Option ℕ)
      → other ≡ put arena (numbers p).0 value → new ≡ with_value_in slots (numbers p).0 (record link { value = value })
      → entry_count new ≡ entry_count slots → more ≡ capacity → most ≡ limit
      → state_of numbers other new more most ≡ with_value_at put (state_of numbers arena slots capacity limit) (numbers p).0 value
  state_written put arena other new capacity more limit most same is len same_capacity same_limit =
      ap (λ a. record { arena = a; slots = node_slots numbers new; len = entry_count new; capacity = more; limit = most }) same
      ∙ ap (λ s. record { arena = put arena (numbers p).0 value; slots = s; len = entry_count new; capacity = more; limit = most }) (ap (node_slots numbers) is ∙ node_written)
      ∙ ap (λ n. record { arena = put arena (numbers p).0 value; slots = with_it; len = n; capacity = more; limit = most }) len
      ∙ ap (λ n. record { arena = put arena (numbers p).0 value; slots = with_it; len = entry_count slots; capacity = n; limit = most }) same_capacity
      ∙ ap (λ l. record { arena = put arena (numbers p).0 value; slots = with_it; len = entry_count slots; capacity = capacity; limit = l }) same_limit

  pub linked_after : IsLinked (look_up (node_slots numbers slots)) → (new : List (Option (ℕ × Link P T))) → new ≡ with_value_in slots (numbers p).0 (record link { value = value })
      → IsLinked (look_up (node_slots numbers new))
  linked_after linked new is =
      linked_written (look_up (node_slots numbers slots)) (look_up (node_slots numbers new)) (numbers p) value
      (λ q. ap (λ s. look_up (node_slots numbers s) q) is ∙ changed_link numbers slots p link (record link { value = value }) (with_value value) found refl q) linked

  pub written_there : IsWritten (look_up (node_slots numbers slots)) (numbers p) value (look_up with_it)
  written_there =
      is_written (look_up (node_slots numbers slots)) (look_up with_it) (numbers p) value
      (λ q. ap (λ s. look_up s q) (sym node_written) ∙ changed_link numbers slots p link (record link { value = value }) (with_value value) found refl q) link.value
      (value_read numbers slots p link found)

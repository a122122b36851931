-- The entries of chains, as the entries of their arena.
use Rattle.std.proofs.Common.{◌≡◌, ◌+◌, ℕ, Bool, true, false, cond, List, [], ◌∷◌, map, Option, Some, None, refl, ap}
use Rattle.triple_arena_ptr.specs.Pointers.{Pointer}
use Rattle.triple_arena.specs.Walks.{entries_where, entries}
use Rattle.triple_arena_chain.specs.declared.link.Link.{Link}
use Rattle.triple_arena_chain.specs.Chains.{Node, node_of, node_slots}

abbrev of_node : {T : Type 0} → Pointer × Node T → Pointer × T
of_node e = (e.0, e.1.value)

abbrev pub of_link : {P T : Type 0} → Pointer × Link P T → Pointer × T
of_link e = (e.0, e.1.value)

module _ {P T : Type 0} (numbers : P → Pointer) where
  values_where : (f : ℕ → Bool) (at : ℕ) (slots : List (Option (ℕ × Link P T))) → map of_link (entries_where f at slots) ≡ map of_node (entries_where f at (node_slots numbers slots))
  values_where f at [] = refl
  values_where f at (None ∷ slots) = values_where f (at + 1) slots
  values_where f at (Some e ∷ slots) = by_asked (f at) (entries_where f (at + 1) slots) (entries_where f (at + 1) (node_slots numbers slots)) (values_where f (at + 1) slots)
    where
      by_asked : (asked : Bool) (links : List (Pointer × Link P T)) (nodes : List (Pointer × Node T)) → map of_link links ≡ map of_node nodes
          → map of_link (cond asked (((at, e.0), e.1) ∷ links) links)
          ≡ map of_node (cond asked (((at, e.0), node_of numbers e.1) ∷ nodes) nodes)
      by_asked true links nodes same = ap (λ vs. ((at, e.0), e.1.value) ∷ vs) same
      by_asked false links nodes same = same

  pub values_read : (slots : List (Option (ℕ × Link P T))) → map of_link (entries slots) ≡ map of_node (entries (node_slots numbers slots))
  values_read slots = values_where (λ i. true) 1 slots

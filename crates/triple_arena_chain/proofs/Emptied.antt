-- Chains without entries, and those in which all entries stay.
use Rattle.std.proofs.Common.{◌≡◌, ℕ, List, length, Option, Some, None, IsSome, refl, sym, ap, subst, ◌∙◌, arith}
use Rattle.std.proofs.lemmas.List.{length-map}
use Rattle.std.specs.Option.{option_map, option_and_then}
use Rattle.triple_arena_ptr.specs.Pointers.{Pointer}
use Rattle.triple_arena.specs.Entries.{look_up, entry_count, value_of_generation, KeepsEntries}
use Rattle.triple_arena.specs.Walks.{keys, entries}
use Rattle.triple_arena.specs.laws.WalkLaws.{live_key, length-entries}
use Rattle.triple_arena_chain.specs.declared.link.Link.{Link}
use Rattle.triple_arena_chain.specs.Chains.{Node, node_of, node_slots, IsLinked}
use Rattle.triple_arena_chain.proofs.Reading.{read_link, same_link}

module _ {T : Type 0} where
  none_found : (slots : List (Option (ℕ × T))) → entry_count slots ≡ 0 → (q : Pointer) → look_up slots q ≡ None
  none_found slots none q = by_case (look_up slots q) refl
    where
      by_case : (o : Option T) → look_up slots q ≡ o → look_up slots q ≡ None
      by_case None is = is
      by_case (Some x) is =
          let all : length (keys slots) ≡ entry_count slots = length-map (entries slots) (λ (e : Pointer × T). e.0) ∙ length-entries slots in
          let at = live_key slots q (subst IsSome (sym is) refl) in
          absurd (omega (arith, at.1, all, none))

  pub nothing_linked : (found : Pointer → Option (Node T)) → ((q : Pointer) → found q ≡ None) → IsLinked found
  nothing_linked found none p q = (λ e. absurd (leads (λ n. n.after) p q e), λ e. absurd (leads (λ n. n.before) q p e))
    where
      leads : (to : Node T → Option Pointer) (r t : Pointer) → option_and_then to (found r) ≡ Some t → ⊥
      leads to r t e = not_some (sym (ap (option_and_then to) (none r)) ∙ e)
        where
          not_some : ◌≡◌ {A = Option Pointer} None (Some t) → ⊥
          not_some e = absurd (cc)

  pub linked_same : (old new : Pointer → Option (Node T)) → ((q : Pointer) → new q ≡ old q) → IsLinked old → IsLinked new
  linked_same old new same linked p q = (
    λ e. ap (option_and_then (λ (n : Node T). n.before)) (same q) ∙ (linked p q).0 (sym (ap (option_and_then (λ (n : Node T). n.after)) (same p)) ∙ e),
    λ e. ap (option_and_then (λ (n : Node T). n.after)) (same p) ∙ (linked p q).1 (sym (ap (option_and_then (λ (n : Node T). n.before)) (same q)) ∙ e),
  )

module _ {P T : Type 0} (numbers : P → Pointer) where
  pub none_read : (slots : List (Option (ℕ × Link P T))) → ((q : Pointer) → look_up slots q ≡ None) → (q : Pointer) → look_up (node_slots numbers slots) q ≡ None
  none_read slots none q = read_link numbers slots q ∙ ap (option_map (node_of numbers)) (none q)

  pub none_in_empty : (slots : List (Option (ℕ × Link P T))) → entry_count slots ≡ 0 → (q : Pointer) → look_up (node_slots numbers slots) q ≡ None
  none_in_empty slots none = none_read slots (none_found slots none)

  pub kept_nodes : (old new : List (Option (ℕ × Link P T))) → KeepsEntries old new → (q : Pointer) → look_up (node_slots numbers new) q ≡ look_up (node_slots numbers old) q
  kept_nodes old new keeps q = same_link numbers old new q (ap (option_and_then (value_of_generation q.1)) (keeps q.0))

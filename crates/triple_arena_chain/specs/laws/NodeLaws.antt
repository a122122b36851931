-- A node that is there, and one that isn't.
use Rattle.std.proofs.Common.{◌≡◌, Option, Some, None, IsSome, refl, ap, ◌∙◌}
use Rattle.std.specs.Option.{option_map, option_and_then}
use Rattle.triple_arena_chain.specs.Chains.{Node}

module _ {T : Type 0} where
  pub not_there : (o : Option (Node T)) → o ≡ None → IsSome o → ⊥
  not_there None e some = absurd (cc)
  not_there (Some node) e some = absurd (cc)

  pub value_there : (o : Option (Node T)) (v : T) → Some v ≡ option_map (λ (node : Node T). node.value) o → IsSome o
  value_there None v e = absurd (cc)
  value_there (Some node) v e = refl

  -- what has the value of one that is there is there, and of one that isn't, isn't
  pub valued : (o n : Option (Node T)) → IsSome o → option_map (λ (node : Node T). node.value) n ≡ option_map (λ (node : Node T). node.value) o → IsSome n
  valued None n some e = absurd (cc)
  valued (Some node) None some e = absurd (cc)
  valued (Some node) (Some other) some e = refl

  pub unvalued : (o n : Option (Node T)) → o ≡ None → option_map (λ (node : Node T). node.value) n ≡ option_map (λ (node : Node T). node.value) o → n ≡ None
  unvalued o None none e = refl
  unvalued None (Some n) none e = absurd (cc)
  unvalued (Some o) (Some n) none e = absurd (cc)

  -- a node is its value and its ends
  pub same_node : (o n : Option (Node T)) → option_map (λ (node : Node T). node.value) n ≡ option_map (λ (node : Node T). node.value) o
      → option_and_then (λ (node : Node T). node.after) n ≡ option_and_then (λ (node : Node T). node.after) o
      → option_and_then (λ (node : Node T). node.before) n ≡ option_and_then (λ (node : Node T). node.before) o → n ≡ o
  same_node None None value after before = refl
  same_node None (Some n) value after before = absurd (cc)
  same_node (Some o) None value after before = absurd (cc)
  same_node (Some o) (Some n) value after before =
      let same : n.value ≡ o.value = cc in
      ap (λ v. Some (record { value = v; before = n.before; after = n.after })) same
      ∙ ap (λ b. Some (record { value = o.value; before = b; after = n.after })) before
      ∙ ap (λ a. Some (record { value = o.value; before = o.before; after = a })) after

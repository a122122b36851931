-- What is read of the links of an arena, and what a write to one leaves.
use Rattle.std.proofs.Common.{◌≡◌, ◌≢◌, ℕ, Bool, true, false, cond, List, Option, Some, None, refl, sym, ap, ◌∙◌}
use Rattle.std.proofs.lemmas.Bool.{true≢false}
use Rattle.std.specs.Option.{option_map, option_and_then}
use Rattle.triple_arena_ptr.specs.Pointers.{Pointer, is_same}
use Rattle.triple_arena.specs.Entries.{entry_in, look_up, value_of_generation, with_value_in}
use Rattle.triple_arena.specs.laws.LookUpLaws.{found_mapped, written_there, written_elsewhere, inserted_elsewhere}
use Rattle.triple_arena.specs.laws.PointerListLaws.{same_itself, same_is}
use Rattle.triple_arena_chain.specs.declared.link.Link.{Link}
use Rattle.triple_arena_chain.specs.Chains.{Node, node_of, node_slots, changed, IsPut}

module _ {P T : Type 0} (numbers : P → Pointer) where
  pub read_link : (slots : List (Option (ℕ × Link P T))) (q : Pointer) → look_up (node_slots numbers slots) q ≡ option_map (node_of numbers) (look_up slots q)
  read_link slots q = found_mapped (node_of numbers) slots q

  -- a write to the link of a pointer changes its node, and no other
  pub changed_link : (slots : List (Option (ℕ × Link P T))) (at : P) (link new : Link P T) (change : Node T → Node T)
      → look_up slots (numbers at) ≡ Some link → node_of numbers new ≡ change (node_of numbers link)
      → (q : Pointer) → look_up (node_slots numbers (with_value_in slots (numbers at).0 new)) q ≡ changed (Some (numbers at)) change q (look_up (node_slots numbers slots) q)
  changed_link slots at link new change is makes q = read_link (with_value_in slots (numbers at).0 new) q ∙ by_same (is_same q (numbers at)) refl
    where
      by_same : (b : Bool) → is_same q (numbers at) ≡ b → option_map (node_of numbers) (look_up (with_value_in slots (numbers at).0 new) q) ≡ cond b (option_map change (look_up (node_slots numbers slots) q)) (look_up (node_slots numbers slots) q)
      by_same true e =
          let here = same_is q (numbers at) e in
          ap (λ r. option_map (node_of numbers) (look_up (with_value_in slots (numbers at).0 new) r)) here
          ∙ ap (option_map (node_of numbers)) (written_there slots (numbers at) link new is)
          ∙ ap Some makes
          ∙ sym (ap (option_map change) (ap (look_up (node_slots numbers slots)) here ∙ read_link slots (numbers at) ∙ ap (option_map (node_of numbers)) is))
      by_same false e = ap (option_map (node_of numbers)) (written_elsewhere slots (numbers at) link new is q (λ same. true≢false (sym (same_itself (numbers at)) ∙ ap (λ r. is_same r (numbers at)) (sym same) ∙ e))) ∙ sym (read_link slots q)

  -- where two slots find the same under a pointer, so do they with their links as they are read
  pub same_link : (old new : List (Option (ℕ × Link P T))) (r : Pointer) → look_up new r ≡ look_up old r → look_up (node_slots numbers new) r ≡ look_up (node_slots numbers old) r
  same_link old new r same = read_link new r ∙ ap (option_map (node_of numbers)) same ∙ sym (read_link old r)

  -- an entry where none stood is put, and leaves every other pointer what it found
  pub is_put : (old new : List (Option (ℕ × Link P T))) (q : Pointer) (v : Link P T) → entry_in old q.0 ≡ None → look_up new q ≡ Some v
      → ((r : Pointer) → r.0 ≢ q.0 → look_up new r ≡ look_up old r) → IsPut (look_up (node_slots numbers old)) q (node_of numbers v) (look_up (node_slots numbers new))
  is_put old new q v free found others = record {
    free = read_link old q ∙ ap (λ e. option_map (node_of numbers) (option_and_then (value_of_generation q.1) e)) free;
    found = read_link new q ∙ ap (option_map (node_of numbers)) found;
    others = λ r other. same_link old new r (inserted_elsewhere old new q v free found others r other);
  }

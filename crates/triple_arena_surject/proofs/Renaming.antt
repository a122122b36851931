-- What holds after a compaction: each set has its keys, under their new names.
use Rattle.std.specs.Prelude.{List, [], ◌∷◌, map, Contains}
use Rattle.std.proofs.Common.{◌≡◌, ℕ, zero, suc, Option, Some, None, IsSome, refl, sym, ap, ◌∙◌, subst, arith}
use Rattle.std.proofs.lemmas.List.{length-map}
use Rattle.std.specs.Option.{option_map}
use Rattle.triple_arena_ptr.specs.Pointers.{Pointer}
use Rattle.triple_arena.specs.Entries.{look_up, entry_count}
use Rattle.triple_arena.specs.Walks.{keys}
use Rattle.triple_arena.specs.laws.WalkLaws.{live_key, key_live, keys_rising}
use Rattle.triple_arena_chain.specs.Chains.{Node, ChainState, nodes, value_at, renamed, IsMoved}
use Rattle.triple_arena_chain.specs.laws.RunLaws.{in_head, in_tail, moved_run, none_in, run_there}
use Rattle.triple_arena_chain.specs.laws.OnceLaws.{many_keys, in_map, one_to_one, once_rising}
use Rattle.triple_arena_surject.specs.declared.member.Member.{Member}
use Rattle.triple_arena_surject.specs.declared.member.Shared.{Shared}
use Rattle.triple_arena_surject.specs.Rings.{label, IsRound, IsRing, IsSound}
use Rattle.triple_arena_surject.specs.Surject.{SurjectState, found_at, key_of, IsRenamed}
use Rattle.triple_arena_surject.proofs.Rounds.{labelled_there}
use Rattle.triple_arena_surject.proofs.Options.{some_of_map, map_of_some}
use Rattle.triple_arena_surject.proofs.States.{IsRead, read_same}

module _ {A P K : Type 0} (numbers : P → Pointer) (old new : ChainState A (Member P K)) (rename : Pointer → Pointer) (moves : IsMoved (nodes old) rename (nodes new))
    (counted : entry_count old.slots ≡ old.len) (recounted : entry_count new.slots ≡ new.len) (same : new.len ≡ old.len) where
  pub rename_once : (p q : Pointer) → IsSome (nodes old p) → IsSome (nodes old q) → rename p ≡ rename q → p ≡ q
  rename_once p q some there =
      one_to_one rename (keys old.slots) (keys new.slots) (once_rising 1 (keys new.slots) (keys_rising new.slots))
      (λ x within. let from = moves.all x (key_live new.slots x within) in (from.0, live_key old.slots from.0 from.1, from.2))
      (omega (arith, many_keys old.slots, many_keys new.slots, counted, recounted, same)) p q (live_key old.slots p some) (live_key old.slots q there)

  pub value_moved : (p : Pointer) → IsSome (nodes old p) → value_at (nodes new) (rename p) ≡ value_at (nodes old) p
  value_moved p some = ap (option_map (λ (n : Node (Member P K)). n.value)) (moves.moved p some) ∙ by_node (nodes old p)
    where
      by_node : (o : Option (Node (Member P K))) → option_map (λ (n : Node (Member P K)). n.value) (option_map (renamed rename) o) ≡ option_map (λ (n : Node (Member P K)). n.value) o
      by_node None = refl
      by_node (Some node) = refl

  label_moved : (p : Pointer) → IsSome (nodes old p) → label numbers (nodes new) (rename p) ≡ label numbers (nodes old) p
  label_moved p some = ap (option_map (λ (m : Member P K). numbers m.set)) (value_moved p some)

  from_name : (ps : List Pointer) (q : Pointer) → Contains (map rename ps) q → (p : Pointer) × Contains ps p × (rename p ≡ q)
  from_name [] q within = absurd (none_in q within)
  from_name (p ∷ ps) q (zero, within, is) = (p, in_head p ps, is)
  from_name (p ∷ ps) q (suc k, within, is) =
      let more = from_name ps q (k, omega (arith, within), is) in
      (more.0, in_tail p more.0 ps more.1, more.2)

  ring_moved : (c : Pointer) (n : ℕ) → IsRing numbers (nodes old) c n → IsRing numbers (nodes new) c n
  ring_moved c n ring =
      let p = ring.0 in
      let rest = ring.1 in
      let is : IsRound numbers (nodes old) c n p rest = ring.2 in
      let there : (q : Pointer) → Contains (p ∷ rest) q → IsSome (nodes old q) = λ q within. run_there (nodes old) (p ∷ rest) (Some p) is.run q within in (
        rename p,
        map rename rest,
        record {
          run = (moved_run (nodes old) rename (nodes new) (p ∷ rest) (Some p) moves is.run).0;
          apart = λ q within e.
              let from = from_name rest q within in
              is.apart from.0 from.1 (rename_once p from.0 (there p (in_head p rest)) (there from.0 (in_tail p from.0 rest from.1)) (e ∙ sym from.2));
          among = λ q. (
            λ of.
                let from = moves.all q (labelled_there numbers (nodes new) q c of) in
                let of_old : label numbers (nodes old) from.0 ≡ Some c = sym (label_moved from.0 from.1) ∙ ap (label numbers (nodes new)) from.2 ∙ of in
                subst (Contains (map rename (p ∷ rest))) from.2 (in_map rename (p ∷ rest) from.0 ((is.among from.0).0 of_old)),
            λ within.
                let from = from_name (p ∷ rest) q within in
                ap (label numbers (nodes new)) (sym from.2) ∙ label_moved from.0 (there from.0 from.1) ∙ (is.among from.0).1 from.1,
          );
          size = ap suc (length-map rest rename) ∙ is.size;
        },
      )

  pub sound_moved : (count : Pointer → Option ℕ) → IsSound numbers (nodes old) count → IsSound numbers (nodes new) count
  sound_moved count sound =
      record {
        counted = λ q c of.
            let from = moves.all q (labelled_there numbers (nodes new) q c of) in
            sound.counted from.0 c (sym (label_moved from.0 from.1) ∙ ap (label numbers (nodes new)) from.2 ∙ of);
        rings = λ c n is. ring_moved c n (sound.rings c n is);
      }

  -- the state after it
  module _ {B V : Type 0} {slots : List (Option (ℕ × Shared V))} {s t : SurjectState A B K V} (was : IsRead numbers (nodes old) slots s) (is : IsRead numbers (nodes new) slots t) where
    pub renamed_state : IsRenamed s rename t
    renamed_state =
        record {
          renamed = λ p some.
              is.keys (rename p)
              ∙ read_same numbers (nodes old p) (nodes new (rename p)) (value_moved p (some_of_map (key_of numbers) (nodes old p) (subst IsSome (was.keys p) some)))
              ∙ sym (was.keys p);
          all = λ q some.
              let from = moves.all q (some_of_map (key_of numbers) (nodes new q) (subst IsSome (is.keys q) some)) in
              (from.0, subst IsSome (sym (was.keys from.0)) (map_of_some (key_of numbers) (nodes old from.0) from.1), from.2);
          vals = λ c. is.vals c ∙ sym (was.vals c);
        }

    pub maps_keys : {I : Type 0} (images : I → Pointer) (map_slots : List (Option (ℕ × I))) → ((p : Pointer) → option_map images (look_up map_slots p) ≡ option_map (λ _. rename p) (nodes old p))
        → (p : Pointer) → option_map images (look_up map_slots p) ≡ option_map (λ _. rename p) (found_at s p)
    maps_keys images map_slots maps p = maps p ∙ by_node (nodes old p) ∙ sym (ap (option_map (λ _. rename p)) (was.keys p))
      where
        by_node : (o : Option (Node (Member P K))) → option_map (λ _. rename p) o ≡ option_map (λ _. rename p) (option_map (key_of numbers) o)
        by_node None = refl
        by_node (Some node) = refl

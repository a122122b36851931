use Rattle.std.proofs.Common.{rules, ◌≡◌, refl, ap, ◌∙◌}
use Rattle.std.specs.Option.{option_map}
use Rattle.triple_arena.specs.Entries.{entry_count}
use Rattle.triple_arena_chain.specs.Chains.{nodes}
use Rattle.triple_arena_surject.specs.Surject.{key_of}
use Rattle.triple_arena_surject.proofs.Emptied.{sound_empty}
use Rattle.triple_arena_surject.proofs.States.{read}
use Rattle.triple_arena_surject.proofs.surject.SurjectArena.over.Goals as goal

pub invariant_of-result : goal.invariant_of-result
invariant_of-result g c =
    let slots = g.B.ArenaStates.slots c.args.values in
    let none : entry_count slots ≡ 0 = search rules in
    sound_empty g.P.Ptr.numbers (nodes c.in-Ok.keys) slots c.in-Ok.ensures.empty.none none

pub returns-in-Ok-clause-empty : goal.returns-in-Ok-clause-empty
returns-in-Ok-clause-empty g c =
    let numbers = g.P.Ptr.numbers in
    let sets = c.args.values in
    let slots = g.B.ArenaStates.slots sets in
    let empty = c.in-Ok.ensures.empty in
    let none : entry_count slots ≡ 0 = search rules in
    record {
      none = λ q. (read numbers sets c.in-Ok.keys slots (g.B.ArenaStates.capacity sets) (g.B.ArenaStates.limit sets) _ refl).keys q ∙ ap (option_map (key_of numbers)) (empty.none q);
      len_keys = empty.len;
      len_vals = none;
      key_capacity = empty.capacity;
      key_limit = empty.limit;
      val_capacity = refl;
      val_limit = refl;
    }

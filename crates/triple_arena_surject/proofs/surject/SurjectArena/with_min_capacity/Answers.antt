use Rattle.std.proofs.Common.{refl, ap, ◌∙◌}
use Rattle.std.specs.Option.{option_map}
use Rattle.triple_arena.specs.Entries.{entry_count}
use Rattle.triple_arena_surject.specs.Surject.{key_of}
use Rattle.triple_arena_surject.proofs.States.{read}
use Rattle.triple_arena_surject.proofs.surject.SurjectArena.with_min_capacity.Goals as goal

pub returns-clause-empty : goal.returns-clause-empty
returns-clause-empty g c =
    let numbers = g.P.Ptr.numbers in
    let sets = c.in_ok-sets.sets in
    let empty = c.in_ok-keys.ensures.empty in
    let made = c.in_ok-sets.ensures.made in
    record {
      none = λ q. (read numbers sets c.in_ok-keys.keys (g.B.ArenaStates.slots sets) (g.B.ArenaStates.capacity sets) (g.B.ArenaStates.limit sets) _ refl).keys q ∙ ap (option_map (key_of numbers)) (empty.none q);
      len_keys = empty.len;
      len_vals = ap (λ s. entry_count (g.B.ArenaStates.slots s)) made ∙ ap entry_count (g.met.B.ArenaLaws.slots_empty _ _);
      key_capacity = empty.capacity;
      key_limit = empty.limit;
      val_capacity = ap g.B.ArenaStates.capacity made ∙ g.met.B.ArenaLaws.capacity_empty _ _;
      val_limit = ap g.B.ArenaStates.limit made ∙ g.met.B.ArenaLaws.limit_empty _ _;
    }

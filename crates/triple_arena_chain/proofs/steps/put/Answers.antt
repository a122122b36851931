use Rattle.std.proofs.Common.{◌≤◌, ◌+◌, sym, ap, ◌∙◌, subst}
use Rattle.triple_arena.specs.Entries.{entry_count}
use Rattle.triple_arena_chain.proofs.Reading.{is_put}
use Rattle.triple_arena_chain.specs.laws.ResultLaws.{if_ok_3, on_ok_1}
use Rattle.triple_arena_chain.proofs.steps.put.Goals as goal

pub returns-clause-put : goal.returns-clause-put
returns-clause-put g c =
    if_ok_3 _ _ _ _ c.insert.result c.insert.ensures.free c.insert.ensures.found c.insert.ensures.others
    (λ q free found others. is_put g.P.Ptr.numbers (g.A.ArenaStates.slots c.args.arena.now) (g.A.ArenaStates.slots c.insert.new.self) (g.P.Ptr.numbers q) _ free found others)

pub returns-clause-size : goal.returns-clause-size
returns-clause-size g c =
    let old = c.args.arena.now in
    let grown = g.A.ArenaInsertTrait.grown old in
    on_ok_1 _ _ c.insert.result c.insert.ensures.inserted (λ done. record {
      len = ap (λ a. entry_count (g.A.ArenaStates.slots a)) done ∙ g.met.A.ArenaInsertTrait.len_inserted grown _ (g.met.A.ArenaInsertTrait.valid_grown old c.insert.ensures.valid)
          ∙ ap (λ n. n + 1) (g.met.A.ArenaInsertTrait.len_grown old);
      capacity = subst (λ n. g.A.ArenaStates.capacity old ≤ n) (sym (ap g.A.ArenaStates.capacity done ∙ g.met.A.ArenaInsertTrait.capacity_inserted grown _)) (g.met.A.ArenaInsertTrait.capacity_grown old);
      limit = ap g.A.ArenaStates.limit done ∙ g.met.A.ArenaInsertTrait.limit_inserted grown _ ∙ g.met.A.ArenaInsertTrait.limit_grown old;
      grown = ap g.A.ArenaStates.capacity done ∙ g.met.A.ArenaInsertTrait.capacity_inserted grown _;
      had_place = λ place. ap g.A.ArenaStates.capacity done ∙ g.met.A.ArenaInsertTrait.capacity_inserted grown _ ∙ ap g.A.ArenaStates.capacity (g.met.A.ArenaInsertTrait.same_grown old place);
    })

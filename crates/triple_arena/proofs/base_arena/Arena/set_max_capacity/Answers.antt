use Rattle.std.proofs.Common.{◌↔◌, ◌≤◌, IsOk, Some, refl, subst}
use Rattle.triple_arena_traits.specs.ArenaState.{ArenaState, slot_count}
use Rattle.triple_arena_traits.specs.Reallocation.{ready_for_limit}
use Rattle.triple_arena_traits.specs.laws.LimitLaws.{ready_ends}
use Rattle.triple_arena_traits.proofs.Growth.{on_ok}
use Rattle.triple_arena.proofs.Touched.{touched_same, touched_through, refused_touched, limited_goes_on}
use Rattle.triple_arena.proofs.base_arena.Arena.set_max_capacity.Goals as goal

pub returns-clause-variant : goal.returns-clause-variant
returns-clause-variant g c =
    let ends = ready_ends c.args.self.now c.args.max_capacity c.make_ready_for_limit.ensures.fits in
    let found = subst (λ (s : ArenaState g.row.T.Denot). IsOk c.set_limit.result ↔ (slot_count s ≤ c.args.max_capacity)) c.make_ready_for_limit.ensures.state.0 c.set_limit.ensures.variant in
    ((λ ok. ends.0 (found.0 ok)), (λ none. found.1 (ends.1 none)))

pub returns-clause-refused : goal.returns-clause-refused
returns-clause-refused g c =
    refused_touched c.set_limit.result c.args.self.now c.make_ready_for_limit.new.self _ c.args.max_capacity c.make_ready_for_limit.ensures.fits
    (subst (λ (s : ArenaState g.row.T.Denot). IsOk c.set_limit.result ↔ (slot_count s ≤ c.args.max_capacity)) c.make_ready_for_limit.ensures.state.0 c.set_limit.ensures.variant)
    c.make_ready_for_limit.ensures.state c.set_limit.ensures.refused

pub returns-clause-done : goal.returns-clause-done
returns-clause-done g c =
    let limited : ArenaState g.row.T.Denot → ArenaState g.row.T.Denot = λ s. record s { limit = Some c.args.max_capacity } in
    on_ok c.set_limit.result (λ is. touched_through limited (λ s n m. refl) (λ s. refl) (ready_for_limit c.args.self.now c.args.max_capacity) c.make_ready_for_limit.new.self c.set_limit.new.self c.make_ready_for_limit.ensures.state (touched_same (limited c.make_ready_for_limit.new.self) c.set_limit.new.self is)) c.set_limit.ensures.done

pub returns-clause-history : goal.returns-clause-history
returns-clause-history g c =
    limited_goes_on c.set_limit.result c.args.self.now _ c.args.max_capacity (returns-clause-done g c) (returns-clause-refused g c)

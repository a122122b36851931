use Rattle.std.proofs.Common.{rules, ◌≡◌, Some, sym, ap, ◌∙◌}
use Rattle.std.specs.Option.{option_map}
use Rattle.triple_arena.specs.Entries.{look_up}
use Rattle.triple_arena.specs.laws.LookUpLaws.{written_there, written_elsewhere}
use Rattle.triple_arena_surject.specs.Rings.{with_keys}
use Rattle.triple_arena_surject.proofs.steps.count_keys.Goals as goal

pub returns-clause-there : goal.returns-clause-there
returns-clause-there g c =
    let slots = g.B.ArenaStates.slots c.args.sets.now in
    let at = g.P.Ptr.numbers c.args.c in
    let shared = c.in-Some.shared.now in
    let found : look_up slots at ≡ Some shared = search rules in
    ap (λ s. look_up s at) (g.met.B.ArenaLaws.slots_with_value c.args.sets.now at.0 (record shared { keys = c.args.keys }))
    ∙ written_there slots at shared (record shared { keys = c.args.keys }) found
    ∙ sym (ap (option_map (with_keys c.args.keys)) found)

pub returns-clause-others : goal.returns-clause-others
returns-clause-others g c = λ d other.
    let slots = g.B.ArenaStates.slots c.args.sets.now in
    let at = g.P.Ptr.numbers c.args.c in
    let shared = c.in-Some.shared.now in
    let found : look_up slots at ≡ Some shared = search rules in
    ap (λ s. look_up s d) (g.met.B.ArenaLaws.slots_with_value c.args.sets.now at.0 (record shared { keys = c.args.keys }))
    ∙ written_elsewhere slots at shared (record shared { keys = c.args.keys }) found d other

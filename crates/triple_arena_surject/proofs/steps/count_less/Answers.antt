use Rattle.std.proofs.Common.{◌≡◌, ◌-◌, ◌+◌, Some, sym, ap, ◌∙◌, arith}
use Rattle.std.proofs.lemmas.Option.{same_Some}
use Rattle.std.specs.Option.{option_map}
use Rattle.triple_arena.specs.Entries.{look_up}
use Rattle.triple_arena_surject.specs.declared.member.Shared.{Shared}
use Rattle.triple_arena_surject.specs.Rings.{counts, with_keys}
use Rattle.triple_arena_surject.proofs.Options.{some_there, some_of_map}
use Rattle.triple_arena_surject.proofs.steps.count_less.Goals as goal

pub returns-else-count-eq1-clause-less : goal.returns-else-count-eq1-clause-less
returns-else-count-eq1-clause-less g c =
    let slots = g.B.ArenaStates.slots c.args.sets.now in
    let at = g.P.Ptr.numbers c.args.c in
    let count = c.size_of-count.result in
    let had = c.requires.counted in
    let counted = c.size_of-count.ensures (some_of_map (λ (s : Shared g.row.V.Denot). s.keys) (look_up slots at) (some_there (counts slots at) (had.0 + 1) had.1)) in
    let some : count ≡ had.0 + 1 = same_Some count (had.0 + 1) (sym counted ∙ had.1) in
    let number : count ≡ count - 2 + 2 = omega (arith, some, c.if-count-eq1.false) in
    let less : count - 1 ≡ count - 2 + 1 = omega (arith, some, c.if-count-eq1.false) in
    (count - 2, counted ∙ ap Some number, c.count_keys.ensures.there ∙ ap (λ k. option_map (with_keys k) (look_up slots at)) less)

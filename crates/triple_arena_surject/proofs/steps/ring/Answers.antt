use Rattle.std.proofs.Common.{◌≡◌, ◌<◌, ◌≤◌, [], ◌∷◌, length, length-append, map, Some, IsSome, refl, sym, ap, ◌∙◌, subst, arith}
use Rattle.std.proofs.lemmas.List.{length-map, map_push}
use Rattle.std.specs.Option.{option_map}
use Rattle.triple_arena_chain.specs.Chains.{nodes, after_at}
use Rattle.triple_arena_surject.proofs.Relabelling.{along_none, leads_along, along_more, along_all}
use Rattle.triple_arena_surject.proofs.Options.{some_of_map}
use Rattle.triple_arena_surject.proofs.steps.ring.Goals as goal

pub walk-init : goal.walk-init
walk-init g c =
    rw c.new-all.ensures.items (record {
      along = along_none g.P.Ptr.numbers (nodes c.args.keys.now) c.len-len.ensures.linked c.requires.round.0 c.args.count (g.P.Ptr.numbers c.args.from) c.requires.round.1 c.requires.round.2;
      count = refl;
    })

pub unwrap-at-requires : goal.unwrap-at-requires
unwrap-at-requires g c =
    let numbers = g.P.Ptr.numbers in
    let passed = map numbers c.walk.all.items in
    let less : length passed < c.args.count = omega (arith, c.walk.invariant.count, length-map c.walk.all.items numbers) in
    some_of_map numbers c.after-after.result (subst IsSome (sym c.after-after.ensures)
    (leads_along numbers (nodes c.args.keys.now) c.args.count (numbers c.args.from) (numbers c.walk.at) passed c.walk.invariant.along less))

pub walk-preserved : goal.walk-preserved
walk-preserved g c =
    let numbers = g.P.Ptr.numbers in
    let passed = map numbers c.walk.all.items in
    let less : length passed < c.args.count = omega (arith, c.walk.invariant.count, length-map c.walk.all.items numbers) in
    let on : after_at (nodes c.args.keys.now) (numbers c.walk.at) ≡ Some (numbers c.unwrap-at.result) = sym c.after-after.ensures ∙ ap (option_map numbers) c.unwrap-at.ensures in
    rw (c.in_ok-push.ensures.items, map_push numbers c.walk.all.items c.walk.at) (record {
      along = along_more numbers (nodes c.args.keys.now) c.args.count (numbers c.args.from) (numbers c.walk.at) passed c.walk.invariant.along less (numbers c.unwrap-at.result) on;
      count = omega (arith, c.walk.invariant.count, length-append c.walk.all.items (c.walk.at ∷ []));
    })

pub returns : goal.returns
returns g c =
    let numbers = g.P.Ptr.numbers in
    let passed = map numbers c.walk.all.items in
    let many : c.args.count ≤ length passed = omega (arith, c.walk.invariant.count, length-map c.walk.all.items numbers) in
    let along = c.walk.invariant.along in
    (along.name, along.rest, along.round, along_all numbers (nodes c.args.keys.now) c.args.count (numbers c.args.from) (numbers c.walk.at) passed along many)

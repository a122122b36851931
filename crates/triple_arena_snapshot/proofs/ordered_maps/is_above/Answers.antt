use Rattle.std.proofs.Common.{◌≡◌, [], ◌∷◌, ◌++◌, sym, ap, ◌∙◌, subst}
use Rattle.std.specs.List.Sorted.{IsStrictlySortedBy}
use Rattle.std.specs.BTreeMap.{keys}
use Rattle.std.specs.Ordering.{is_lt}
use Rattle.triple_arena_snapshot.specs.MapCodings.{is_above}
use Rattle.triple_arena_snapshot.proofs.MapEntries.{above_last}
use Rattle.triple_arena_snapshot.proofs.ordered_maps.is_above.Goals as goal

pub returns-in-Some : goal.returns-in-Some
returns-in-Some g c =
    let order = g.K.Ord.cmp in
    let e : keys c.args.map.now ≡ c.next_back.new.self ++ c.in-Some.last.now ∷ [] = sym c.keys.ensures.rest ∙ c.in-Some.ensures.steps in
    let answer = above_last order g.met.K.Ord.total c.next_back.new.self c.in-Some.last.now c.args.key.now (subst (IsStrictlySortedBy order) e c.keys.ensures.ordered) in
    let compared : c.cmp.result ≡ order c.in-Some.last.now c.args.key.now = c.cmp.ensures in
    c.is_lt.ensures ∙ ap is_lt compared ∙ sym answer ∙ ap (λ ks. is_above order ks c.args.key.now) (sym e)

use Rattle.std.proofs.Common.{rules, refl}
use Rattle.triple_arena_direct.specs.Concrete.{p0_numbers, q2_numbers, moved}
use Rattle.triple_arena_direct.specs.Renaming.{MapsPointers}
use Rattle.triple_arena_direct_uses.proofs.names_beside_two.compact_named.Goals as goal

pub returns-clause-cell_names : goal.returns-clause-cell_names
returns-clause-cell_names g c name =
    let old = c.args.netlist.now in
    let maps : MapsPointers p0_numbers (moved old.cells) old.cells.slots c.allow-cells.result.slots = search rules in
    c.names_follow.ensures.led _ _ _ maps _ _ (c.recast_values.ensures.values name)

pub returns-clause-net_names : goal.returns-clause-net_names
returns-clause-net_names g c name =
    let old = c.args.netlist.now in
    let maps : MapsPointers q2_numbers (moved old.nets) old.nets.slots c.allow-nets.result.slots = search rules in
    c.names_follow-2.ensures.led _ _ _ maps _ _ (c.recast_values-2.ensures.values name)

pub returns-clause-named : goal.returns-clause-named
returns-clause-named g c =
    let old = c.args.netlist.now in
    record {
      kinds = λ name kind was. rw (returns-clause-cell_names g c name) (c.names_follow_both.ensures (λ cell. cell.kind) (λ v ps qs. refl) (moved old.cells) (moved old.nets) old.cells.slots _ (search rules) _ kind was);
      labels = λ name label was. rw (returns-clause-net_names g c name) (c.names_follow_both-2.ensures (λ net. net.label) (λ v ps qs. refl) (moved old.nets) (moved old.cells) old.nets.slots _ (search rules) _ label was);
    }

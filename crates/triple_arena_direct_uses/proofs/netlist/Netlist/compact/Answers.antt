use Rattle.std.proofs.Common.{◌≡◌, map, ap, ◌∙◌}
use Rattle.std.proofs.lemmas.Result.{IfOk-weaker}
use Rattle.triple_arena_base.specs.Invalidation.{allowed_option}
use Rattle.triple_arena_base.specs.declared.invalidation.InvalidationOption.{InvalidationOption}
use Rattle.triple_arena_ptr.specs.Pointers.{Pointer}
use Rattle.triple_arena.specs.Walks.{keys, values}
use Rattle.triple_arena_direct.specs.DirectState.{DirectState}
use Rattle.triple_arena_direct.specs.Renaming.{MapsPointers}
use Rattle.triple_arena_direct_uses.specs.Netlist.{wires_of, wires, rewired}
use Rattle.triple_arena_direct_uses.proofs.Rewiring.{wires_renamed, told_if_ok}
use Rattle.triple_arena_direct_uses.proofs.netlist.Netlist.compact.Goals as goal

pub returns-clause-renamed : goal.returns-clause-renamed
returns-clause-renamed g c =
    let old = c.self.inside.gates.slots in
    let new = c.compress_recast.new.this.slots in
    let e = c.compress_recast.ensures in
    rw (← c.self.view_is) (told_if_ok (λ (rename : Pointer → Pointer) (answer : InvalidationOption (DirectState g.row.P.Denot)). MapsPointers g.P.Ptr.numbers rename old (allowed_option answer).slots)
    (λ (rename : Pointer → Pointer). wires g.P.Ptr.numbers g.G.Recast.held new ≡ map (rewired rename) (wires g.P.Ptr.numbers g.G.Recast.held old))
    _ c.compress_recast.result (IfOk-weaker c.compress_recast.result _ _ (λ answer told. told.maps) e.map) e.compacted
    (λ is. ap (λ ps. wires_of g.P.Ptr.numbers g.G.Recast.held ps (values new)) is.ranked
    ∙ wires_renamed g.P.Ptr.numbers _ g.G.Recast.held g.G.Recast.refill (keys old) (values old) (values new) is.made))

use Rattle.std.proofs.Common.{Bool, [], ◌∷◌, ◌++◌, map, take, not, is_some, sym, ap, ◌∙◌, arith}
use Rattle.std.proofs.lemmas.List.{take_all, take_more, map_push}
use Rattle.triple_arena_slots.specs.Slot.{entry_of}
use Rattle.triple_arena_slots.specs.declared.slot.ArenaSlot.{ArenaSlot}
use Rattle.triple_arena_snapshot.proofs.free_lists.free_marks.Goals as goal

pub loop-slot-preserved : goal.loop-slot-preserved
loop-slot-preserved g c =
    let mark : ArenaSlot g.row.P.Denot g.row.T.Denot g.row.P-Inx.Denot g.row.P-Gen.Denot → Bool = λ slot. not (is_some (entry_of g.P.Gen.PtrGen.number slot)) in
    let slots = c.args.slots.now in
    let at = c.loop-slot.slot-index in
    c.in_ok-push.ensures.items ∙ ap (λ marks. marks ++ not c.is_live.result ∷ []) c.loop-slot.invariant
    ∙ ap (λ b. map mark (take at slots) ++ not b ∷ []) c.is_live.ensures
    ∙ sym (ap (map mark) (take_more slots at c.slot-item.result c.loop-slot-test.true ∙ ap (λ x. take at slots ++ x ∷ []) (sym c.slot-item.is)) ∙ map_push mark (take at slots) c.slot-item.result)

pub returns : goal.returns
returns g c =
    c.loop-slot.invariant ∙ ap (map (λ slot. not (is_some (entry_of g.P.Gen.PtrGen.number slot)))) (take_all c.loop-slot.slot-index c.args.slots.now (omega (arith, c.loop-slot-test.false)))

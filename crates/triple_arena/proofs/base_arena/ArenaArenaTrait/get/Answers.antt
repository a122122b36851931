use Rattle.triple_arena_traits.proofs.Refused.{copied_some}
use Rattle.triple_arena_traits.specs.laws.HistoryLaws.{found_as_given}
use Rattle.triple_arena_traits.specs.laws.PointerListLaws.{pointer_is}
use Rattle.triple_arena_traits.specs.Entries.{value_of_generation, look_up}
use Rattle.std.specs.Option.{option_and_then}
use Rattle.std.proofs.Common.{◌∙◌, option_copied, sym, ap, refl}
use Rattle.triple_arena.proofs.base_arena.ArenaArenaTrait.get.Goals as goal

pub returns-clause-value : goal.returns-clause-value
returns-clause-value g c =
    let number = g.P.Gen.PtrGen.number in
    let at = g.met.P.Ptr.numbers_of c.args.p ∙ pointer_is _ _ _ (number c.generation.result) (ap g.P.Inx.PtrInx.number (sym c.inx.ensures)) (ap number (sym c.generation.ensures)) in
    c.look_up.ensures ∙ ap (option_and_then (value_of_generation (number c.generation.result))) c.in_ok-slot.ensures.entry ∙ sym (ap (look_up c.args.self.now.slots) at)

pub returns-clause-history : goal.returns-clause-history
returns-clause-history g c h fits =
    sym (copied_some c.look_up.result) ∙ found_as_given c.args.self.now (g.P.Ptr.numbers c.args.p) _ (returns-clause-value g c) h fits

pub returns-in_err-slot-clause-value : goal.returns-in_err-slot-clause-value
returns-in_err-slot-clause-value g c =
    let number = g.P.Gen.PtrGen.number in
    let generation = number (g.P.Ptr.generation_of c.args.p) in
    let at = g.met.P.Ptr.numbers_of c.args.p ∙ pointer_is _ _ _ generation (ap g.P.Inx.PtrInx.number (sym c.inx.ensures)) refl in
    ap option_copied c.from_residual.ensures ∙ ap (option_and_then (value_of_generation generation)) c.in_err-slot.ensures.entry ∙ sym (ap (look_up c.args.self.now.slots) at)

pub returns-in_err-slot-clause-history : goal.returns-in_err-slot-clause-history
returns-in_err-slot-clause-history g c h fits =
    sym (copied_some c.from_residual.result) ∙ found_as_given c.args.self.now (g.P.Ptr.numbers c.args.p) _ (returns-in_err-slot-clause-value g c) h fits

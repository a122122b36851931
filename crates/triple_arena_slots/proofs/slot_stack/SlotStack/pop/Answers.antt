use Rattle.std.proofs.Common.{◌∙◌, is_some, ap, arith}
use Rattle.triple_arena_traits.proofs.Present.{some_below}
use Rattle.triple_arena_slots.proofs.slot_stack.SlotStack.pop.Goals as goal

pub unwrap-requires : goal.unwrap-requires
unwrap-requires g c =
    ap is_some c.pop.ensures.value ∙ some_below (g.S.NonZeroInxGenericStack.items c.args.self.now.stack) _ (omega (arith, c.requires))

use Rattle.std.proofs.Common.{refl}
use Rattle.triple_arena_traits.specs.laws.WalkLaws.{taken, some_answer}
use Rattle.triple_arena_recasting.proofs.Pairing.{paired_start, paired_more, paired_on, paired_end}
use Rattle.triple_arena_recasting.proofs.renaming.put_pointers.Goals as goal

pub pairs-init : goal.pairs-init
pairs-init g c = paired_start g.P.Ptr.numbers _ _ _ _ c.advancer-from.ensures c.advancer-to.ensures c.requires

pub unwrap-pointer-requires : goal.unwrap-pointer-requires
unwrap-pointer-requires g c =
    some_answer g.P.Ptr.numbers _ _ _ c.advance-in-Some.result _ (g.met.A.CompactArenaTrait.advanced _ _ _ _ c.advance-in-Some.ensures.steps)
    (paired_more g.P.Ptr.numbers _ _ _ _ _ _ _ _ c.pairs.invariant c.in-Some.ensures.steps)

pub pairs-smaller : goal.pairs-smaller
pairs-smaller g c = (taken _ _ _ _ _ c.in-Some.ensures.steps).fewer

pub pairs-preserved : goal.pairs-preserved
pairs-preserved g c =
    paired_on g.P.Ptr.numbers _ _ _ _ _ _ _ _ c.unwrap-pointer.result _ _ c.pairs.invariant
    c.in-Some.ensures.steps
    (rw c.unwrap-pointer.ensures at (g.met.A.CompactArenaTrait.advanced _ _ _ _ c.advance-in-Some.ensures.steps))
    refl

pub returns-clause-keys : goal.returns-clause-keys
returns-clause-keys g c =
    (paired_end g.P.Ptr.numbers _ _ _ _ _ _ _ c.pairs.invariant c.in_default.ensures.steps).0

pub returns-clause-values : goal.returns-clause-values
returns-clause-values g c =
    (paired_end g.P.Ptr.numbers _ _ _ _ _ _ _ c.pairs.invariant c.in_default.ensures.steps).1

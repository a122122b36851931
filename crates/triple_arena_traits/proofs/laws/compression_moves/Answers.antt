use Rattle.std.proofs.Common.{Some, refl, ap, arith}
use Rattle.triple_arena_traits.specs.laws.CompressionLaws.{ranks, rank_below, rank_apart, keys-compressed, values-compressed}
use Rattle.triple_arena_traits.specs.laws.WalkLaws.{found}
use Rattle.triple_arena_traits.specs.laws.StepLaws.{IsWellFormed-compressed}
use Rattle.triple_arena_traits.proofs.laws.compression_moves.Goals as goal

pub returns-clause-onto : goal.returns-clause-onto
returns-clause-onto g c = λ s counter. ranks (Some counter) s.slots

pub returns-clause-rises : goal.returns-clause-rises
returns-clause-rises g c = λ s counter p q live below.
    let f = found s.slots q live in
    rank_below s.slots p.0 q.0 below (rw f.entry refl)

pub returns-clause-one_to_one : goal.returns-clause-one_to_one
returns-clause-one_to_one g c = λ s counter p q live live' same. rank_apart s.slots p q live live' (ap (λ r. r.0) same)

pub returns-clause-pointers : goal.returns-clause-pointers
returns-clause-pointers g c = λ s counter new many. keys-compressed s _ counter new refl many

pub returns-clause-values : goal.returns-clause-values
returns-clause-values g c = λ s counter new many. values-compressed s _ counter new refl many

pub returns-clause-well_formed : goal.returns-clause-well_formed
returns-clause-well_formed g c = λ s counter new well many. IsWellFormed-compressed s counter new (omega (arith, many, well.total, well.fits))

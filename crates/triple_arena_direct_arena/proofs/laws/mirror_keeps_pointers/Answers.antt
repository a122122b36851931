use Rattle.std.proofs.Common.{refl}
use Rattle.triple_arena_traits.specs.laws.EntryLaws.{slots-inserted, slots-removed}
use Rattle.triple_arena_direct_arena.proofs.Mirroring.{same_after, vacant_alike, same_capacity}
use Rattle.triple_arena_direct_arena.proofs.laws.mirror_keeps_pointers.Goals as goal

pub returns-clause-kept : goal.returns-clause-kept
returns-clause-kept g c = same_after

pub returns-clause-has_place : goal.returns-clause-has_place
returns-clause-has_place g c = vacant_alike

pub returns-clause-same_capacity : goal.returns-clause-same_capacity
returns-clause-same_capacity g c = same_capacity

pub returns-clause-insertion : goal.returns-clause-insertion
returns-clause-insertion g c = λ s value well. (value, slots-inserted s value well)

pub returns-clause-removal : goal.returns-clause-removal
returns-clause-removal g c = λ raise s i. slots-removed raise s i _ refl

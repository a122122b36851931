use Rattle.std.proofs.Common.{Ok, refl}
use Rattle.triple_arena_traits.specs.laws.CopyLaws.{room_passed, map_passed}
use Rattle.triple_arena_traits.proofs.Refused.{err_is}
use Rattle.triple_arena_traits.proofs.arena_clone_trait.ArenaCloneFromWith.clone.Goals as goal

pub returns-clause-cloned : goal.returns-clause-cloned
returns-clause-cloned g c =
    let h = c.in_ok-clone_from.ensures.cloned (Ok tt) refl in
    (h.0, h.1, rw c.new-copy.ensures at h.2)

pub returns-in_err-clone_from-clause-short : goal.returns-in_err-clone_from-clause-short
returns-in_err-clone_from-clause-short g c refused =
    let is = err_is c.from_residual.result c.in_err-clone_from.field-0.0 c.from_residual.ensures.1 in
    rw c.new-copy.ensures at (c.in_err-clone_from.ensures.short (room_passed (Unit {0}) _ _ is refused))

pub returns-in_err-clone_from-clause-mapped : goal.returns-in_err-clone_from-clause-mapped
returns-in_err-clone_from-clause-mapped g c refused =
    let is = err_is c.from_residual.result c.in_err-clone_from.field-0.0 c.from_residual.ensures.1 in
    c.in_err-clone_from.ensures.mapped (map_passed (Unit {0}) _ _ is refused)

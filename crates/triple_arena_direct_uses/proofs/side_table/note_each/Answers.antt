use Rattle.std.proofs.Common.{◌≡◌, None, Result, Ok, Err, OnOk, refl}
use Rattle.triple_arena_base.specs.declared.errors.CloneFromError.{CloneFromError}
use Rattle.triple_arena_stack.specs.StackKind.StackKind.{heap}
use Rattle.triple_arena.specs.FreeList.{last_index}
use Rattle.triple_arena_direct.specs.laws.DirectCloningLaws.{kept-cloned}
use Rattle.triple_arena_direct_uses.proofs.side_table.note_each.Goals as goal

if_ok : {E : Type 0} (Q : Type 0) (r : Result (Unit {0}) (CloneFromError E)) → (r ≡ Ok tt → Q) → OnOk r Q
if_ok Q (Ok x) by = by refl
if_ok Q (Err e) by = tt

pub returns-clause-mirror : goal.returns-clause-mirror
returns-clause-mirror g c =
    if_ok _ c.clone_from_with.result (λ is.
    let copied = c.clone_from_with.ensures.cloned (Ok tt) is in
    c.clone_has_the_pointers.ensures.pointers _ _ copied.0 _ copied.1 (kept-cloned heap c.args.notes.now (last_index c.args.entities.now.slots) None copied.0 c.clone_from_with.new.self copied.2))

pub returns-clause-noted : goal.returns-clause-noted
returns-clause-noted g c = λ answer is.
    let copied = c.clone_from_with.ensures.cloned answer is in
    (copied.0, copied.1, kept-cloned heap c.args.notes.now (last_index c.args.entities.now.slots) None copied.0 c.clone_from_with.new.self copied.2)

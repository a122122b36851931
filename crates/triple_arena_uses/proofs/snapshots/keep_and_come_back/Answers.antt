use Rattle.std.proofs.Common.{true, false, [], ◌∷◌, ◌∙◌, Ok, refl}
use Rattle.triple_arena.specs.Cloning.{clonable, ClonesInto}
use Rattle.triple_arena.specs.laws.CopyLaws.{on_ok}
use Rattle.triple_arena_uses.proofs.snapshots.keep_and_come_back.Goals as goal

pub returns : goal.returns
returns g c = record {
  same_entries = on_ok c.clone_from-2.result _ (λ x is i. (rw is at c.clone_from-2.ensures.entries) i ∙ c.in_ok-clone_from.ensures.entries i);
  kept = on_ok c.clone_from-2.result _ (λ x is i. c.in_ok-clone_from.ensures.entries i);
  same_capacity =
      on_ok c.clone_from-2.result _ (λ x is.
      let one_kind = clonable g.A.ArenaStates.slots g.A.ArenaStates.capacity g.A.ArenaCloneFromWith.clones in
      let other_kind = clonable g.B.ArenaStates.slots g.B.ArenaStates.capacity g.B.ArenaCloneFromWith.clones in
      let there = c.in_ok-clone_from.ensures in
      let first = there.cloned (Ok tt) refl in
      let back = c.clone_from-2.ensures in
      let second = back.cloned (Ok x) is in
      let one : ClonesInto one_kind other_kind c.args.table.now c.args.kept.now c.clone_from.new.self =
      record { next = _; copy = first.0; cloned = first.2; same_end = there.same_end; source_fits = there.source_fits; fits = there.fits } in
      let two : ClonesInto other_kind one_kind c.clone_from.new.self c.args.table.now c.clone_from-2.new.self =
      record { next = _; copy = second.0; cloned = second.2; same_end = rw is at back.same_end; source_fits = back.source_fits; fits = back.fits } in
      (c.clones_keep_capacity.ensures.kept (c.args.table.now, c.args.kept.now) true (c.args.table.now, c.clone_from.new.self) (false ∷ []) (c.clone_from-2.new.self, c.clone_from.new.self) (refl, one) ((c.clone_from-2.new.self, c.clone_from.new.self), (refl, two), refl)).0);
}

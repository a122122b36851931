use Rattle.std.proofs.Common.{◌≡◌, ◌∙◌, ◌∷◌, [], None, ap, refl, subst, arith}
use Rattle.std.proofs.lemmas.Option.{same_Some}
use Rattle.triple_arena_traits.proofs.Inserted.{found_inserted, rewritten, some_lent}
use Rattle.triple_arena_ptr.specs.Pointers.{Pointer}
use Rattle.triple_arena_traits.specs.Entries.{look_up}
use Rattle.triple_arena_traits.specs.ArenaState.{ArenaState, entry, with_value}
use Rattle.triple_arena_traits.specs.Insertion.{inserted, next_pointer}
use Rattle.triple_arena_traits.specs.SlotSteps.{touched, insertion_steps}
use Rattle.triple_arena_traits.specs.laws.HistoryLaws.{Continues-inserted, Continues-touched}
use Rattle.triple_arena_traits.specs.Histories.{insertion}
use Rattle.triple_arena.proofs.insert_entry.ArenaInsertEntryArenaInsertEntryTrait.insert.Goals as goal

pub unwrap-requires : goal.unwrap-requires
unwrap-requires g c =
    let found = ap (λ (a : ArenaState g.row.T.Denot). look_up a.slots (g.P.Ptr.numbers c.insert_reserved-p.result)) c.insert_reserved-p.ensures.inserted ∙ found_inserted c.args.self.arena.now (inserted c.args.self.arena.now c.args.t) _ c.args.t c.insert_reserved-p.ensures.valid c.insert_reserved-p.ensures.pointer refl in
    some_lent c.get_mut.result c.args.t (c.get_mut.ensures.value ∙ found)

pub returns : goal.returns
returns g c =
    let found = ap (λ (a : ArenaState g.row.T.Denot). look_up a.slots (g.P.Ptr.numbers c.insert_reserved-p.result)) c.insert_reserved-p.ensures.inserted ∙ found_inserted c.args.self.arena.now (inserted c.args.self.arena.now c.args.t) _ c.args.t c.insert_reserved-p.ensures.valid c.insert_reserved-p.ensures.pointer refl in (
      (
        refl,
        λ w. ap (λ (a : ArenaState g.row.T.Denot). with_value a (g.P.Ptr.numbers c.insert_reserved-p.result).0 w) c.insert_reserved-p.ensures.inserted ∙ ap (touched (insertion_steps c.args.self.arena.now)) (rewritten c.args.self.arena.now (inserted c.args.self.arena.now c.args.t) _ c.args.t w c.insert_reserved-p.ensures.valid (ap (λ p. p.0) c.insert_reserved-p.ensures.pointer) refl),
      ),
      record {
        value = same_Some _ _ ((rw c.unwrap.ensures at c.get_mut.ensures.value) ∙ found);
        free = subst (λ (q : Pointer). entry c.args.self.arena.now q.0 ≡ None) c.insert_reserved-p.ensures.pointer c.insert_reserved-p.ensures.free;
        writes_back = tt;
        history = λ v. Continues-touched c.args.self.arena.now (inserted c.args.self.arena.now v) _ (insertion (next_pointer c.args.self.arena.now) ∷ []) (refl, omega arith) (Continues-inserted c.args.self.arena.now (inserted c.args.self.arena.now v) _ v c.insert_reserved-p.ensures.valid refl refl);
      },
    )

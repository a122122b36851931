use Rattle.std.proofs.Common.{◌≡◌, ◌∙◌, ◌∷◌, [], None, ap, refl, subst, arith}
use Rattle.std.proofs.lemmas.Option.{same_Some}
use Rattle.triple_arena_traits.proofs.Inserted.{found_inserted, rewritten, some_lent}
use Rattle.triple_arena_ptr.specs.Pointers.{Pointer}
use Rattle.triple_arena_traits.specs.Entries.{look_up}
use Rattle.triple_arena_traits.specs.ArenaState.{ArenaState, entry, with_value}
use Rattle.triple_arena_traits.specs.Insertion.{inserted, next_pointer}
use Rattle.triple_arena_traits.specs.SlotSteps.{touched, insertion_steps}
use Rattle.triple_arena_traits.specs.laws.HistoryLaws.{Continues-inserted, Continues-touched}
use Rattle.triple_arena_traits.specs.Histories.{insertion}
use Rattle.triple_arena_direct.proofs.StrictSteps.{reserved, gone_inserted}
use Rattle.triple_arena_direct.proofs.StrictDone.{inserted_into}
use Rattle.triple_arena_direct.proofs.strict_arena.insert_entry.StrictInsertEntryArenaInsertEntryTrait.insert.Goals as goal

pub unwrap-requires : goal.unwrap-requires
unwrap-requires g c =
    some_lent c.get_mut.result c.args.t (c.get_mut.ensures.value ∙ c.insert_reserved-p.ensures.done.found)

pub returns : goal.returns
returns g c =
    let s : ArenaState g.row.T.Denot = c.args.self.arena.now in
    let well = c.insert_reserved-p.ensures.call.step.0 in (
      (
        refl,
        λ w. ap (λ (a : ArenaState g.row.T.Denot). with_value a (g.P.Ptr.numbers c.insert_reserved-p.result).0 w) c.insert_reserved-p.ensures.inserted ∙ ap (touched (insertion_steps s)) (rewritten s (inserted s c.args.t) _ c.args.t w well (ap (λ p. p.0) c.insert_reserved-p.ensures.done.pointer) refl),
      ),
      record {
        value = same_Some _ _ ((rw c.unwrap.ensures at c.get_mut.ensures.value) ∙ c.insert_reserved-p.ensures.done.found);
        done = λ v. inserted_into s s _ v (next_pointer s) well (λ i. refl) refl c.requires refl (refl, omega arith);
        writes_back = tt;
        call = λ v.
            let t = touched (insertion_steps s) (inserted s v) in
            record {
              step = reserved g.S.NonZeroInxGenericStack.kind g.P.Gen.PtrGen.generations s t (next_pointer s) v well c.requires refl refl;
              history = Continues-touched s (inserted s v) t (insertion (next_pointer s) ∷ []) (refl, omega arith) (Continues-inserted s (inserted s v) _ v well refl refl);
              stays_gone = λ counts. gone_inserted (insertion_steps s) s v well;
            };
        stays_gone = λ v. gone_inserted (insertion_steps s) s v well;
      },
    )

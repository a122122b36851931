use Rattle.std.proofs.Common.{◌≡◌, ◌<◌, ◌+◌, ◌↔◌, [], ◌∷◌, ◌++◌, Some, sym, ap, ◌∙◌, refl, subst}
use Rattle.std.proofs.lemmas.Bool.{false≢true}
use Rattle.std.specs.Iterator.{Yields}
use Rattle.triple_arena_base.specs.declared.errors.ReallocationError.TheVariants.{BeyondMaxCapacity}
use Rattle.triple_arena_ptr.specs.Numbers.{greatest_index}
use Rattle.triple_arena_ptr.specs.Pointers.{Pointer}
use Rattle.triple_arena_stack.specs.Capacity.{IsFullAtLimit, CanGrow}
use Rattle.triple_arena_traits.specs.Entries.{entry_count}
use Rattle.triple_arena_traits.specs.Walks.{values_of}
use Rattle.triple_arena_recasting.specs.Extending.{all_inserted, EntriesCame}
use Rattle.triple_arena_recasting.proofs.Extended.{none_came, one_came, all_more, values_more}
use Rattle.triple_arena_recasting.proofs.extending.extend.Goals as goal

pub each-init : goal.each-init
each-init g c = record { came = []; yielded = refl; entries = none_came g.A.ArenaStates.slots g.A.ArenaStates.fits _; done = refl; limit = refl }

pub each-preserved : goal.each-preserved
each-preserved g c =
    let law = g.met.A.ArenaInsertTrait in
    let slots = g.A.ArenaStates.slots in
    let inserted = g.A.ArenaInsertTrait.inserted in
    let grown = g.A.ArenaInsertTrait.grown in
    let inv = c.each.invariant in
    let mid = c.each.this in
    let x = c.in-Some.value in
    let entry : Pointer × g.row.T.Denot = (g.P.Ptr.numbers c.in-Ok._p, x) in
    let more = ap (λ a. entry_count (slots a)) c.in-Ok.ensures.inserted
    ∙ law.len_inserted (grown mid) x (law.valid_grown mid c.in-Ok.ensures.valid) ∙ ap (λ n. n + 1) (law.len_grown mid) in
    record {
      came = inv.came ++ entry ∷ [];
      yielded = values_more inv.came entry ∙ ap (λ l. l ++ x ∷ []) inv.yielded;
      entries = one_came slots g.A.ArenaStates.fits c.args.this.now mid c.try_insert.new.self entry.0 x c.in-Ok.ensures.free c.in-Ok.ensures.others inv.came inv.entries c.in-Ok.ensures.found more c.in-Ok.ensures.history;
      done = c.in-Ok.ensures.inserted ∙ ap (λ a. inserted (grown a) x) inv.done
          ∙ sym (all_more inserted grown c.args.this.now (values_of inv.came) x) ∙ ap (all_inserted inserted grown c.args.this.now) (sym (values_more inv.came entry));
      limit = ap g.A.ArenaStates.limit c.in-Ok.ensures.inserted ∙ law.limit_inserted (grown mid) x ∙ law.limit_grown mid ∙ inv.limit;
    }

pub returns-in-Err : goal.returns-in-Err
returns-in-Err g c =
    let slots = g.A.ArenaStates.slots in
    let capacity = g.A.ArenaStates.capacity in
    let limit = g.A.ArenaStates.limit in
    let next = g.U.IntoIter.Iterator.next_gives in
    let inv = c.each.invariant in
    let it = c.into_iter-value-iterator in
    let same = c.in-Err.ensures.refused in
    record {
      came = (
        it.result,
        inv.came,
        it.ensures.into_iter_gives,
        subst (EntriesCame slots g.A.ArenaStates.fits c.args.this.now inv.came) (sym same) inv.entries,
        same ∙ inv.done,
        (
          c.next.new.self,
          (
            c.each.value-iterator,
            subst (λ l. Yields next it.result l c.each.value-iterator) (sym inv.yielded) c.each.yielded_by,
            subst (λ v. next c.each.value-iterator (Some v) c.next.new.self) (sym c.in-Err.ensures.value_returned) c.in-Some.ensures.steps,
          ),
        ),
      );
      beyond = subst (λ a. (c.in-Err.failed.error ≡ BeyondMaxCapacity) ↔ IsFullAtLimit (capacity a) (limit a) (entry_count (slots a))) (sym same) c.in-Err.ensures.beyond;
      with_memory = λ can. absurd (false≢true (c.in-Err.ensures.with_memory (subst (λ a. CanGrow g.A.ArenaTrait.has_memory (capacity a) (limit a) (greatest_index g.P.Inx.PtrInx.greatest)) same can)));
      was_full = λ less. absurd (false≢true (c.in-Err.ensures.had_place (subst (λ a. entry_count (slots a) < capacity a) same less)).0);
      limit = ap limit same ∙ inv.limit;
    }

use Rattle.std.proofs.Common.{◌≡◌, ◌≢◌, ◌∙◌, true, is_some, IsSome, IfSome, sym, ap, subst, inl, inr, true≢false}
use Rattle.std.proofs.lemmas.Bool.{cases_eq}
use Rattle.std.specs.Int.NonZero.{non_zero_usize_get}
use Rattle.triple_arena_ptr.specs.Pointers.{Pointer}
use Rattle.triple_arena_traits.specs.Entries.{look_up, entry_in}
use Rattle.triple_arena_traits.specs.laws.ItemLaws.{eq_true, eq_false}
use Rattle.triple_arena_traits.specs.laws.WellFormedLaws.{live_entry}
use Rattle.triple_arena_traits.proofs.SlotEntries.{none_of}
use Rattle.triple_arena_traits.proofs.Pairs.{value_at_pointer, same_pointer}
use Rattle.triple_arena_direct_arena.specs.DirectState.{direct_with_value}
use Rattle.triple_arena_direct_arena.proofs.direct_arena.disjoint.DirectArenaDisjointableArenaTrait.with_disjoint_mut.Goals.{in_default-via-in-Some+in_default, in_default-via-in_default}
use Rattle.triple_arena_direct_arena.proofs.direct_arena.disjoint.DirectArenaDisjointableArenaTrait.with_disjoint_mut.Goals as goal

pub returns-clause-worked : goal.returns-clause-worked
returns-clause-worked g c =
    let first : Pointer = g.P.Ptr.numbers c.args.first in
    let second : Pointer = g.P.Ptr.numbers c.args.second in
    let at_first : non_zero_usize_get c.in-Some-Some.first ≡ first.0 = subst (λ o. IfSome o (λ inx. non_zero_usize_get inx ≡ first.0)) c.in-Some-Some.is-0 c.find.ensures.index in
    let at_second : non_zero_usize_get c.in-Some-Some.second ≡ second.0 = subst (λ o. IfSome o (λ inx. non_zero_usize_get inx ≡ second.0)) c.in-Some-Some.is-1 c.find-2.ensures.index in
    let first_valid : is_some (look_up c.args.self.now.slots first) ≡ true = sym c.find.ensures.live ∙ ap is_some c.in-Some-Some.is-0 in
    let second_valid : is_some (look_up c.args.self.now.slots second) ≡ true = sym c.find-2.ensures.live ∙ ap is_some c.in-Some-Some.is-1 in
    let w = c.work_on_two.ensures in
    record {
      first_value = w.first_value;
      second_value = w.second_value;
      first_left = w.first_left;
      second_left = w.second_left;
      first_is = sym (value_at_pointer c.args.self.now.slots first _ at_first first_valid) ∙ w.first_is;
      second_is = sym (value_at_pointer c.args.self.now.slots second _ at_second second_valid) ∙ w.second_is;
      called = record { first = w.called.first; second = w.called.second; shows = w.called.shows; left = w.called.left; met = w.called.met; leaves = w.called.leaves };
      left =
          w.left
          ∙ ap (λ n. direct_with_value (direct_with_value c.args.self.now n w.first_left) (non_zero_usize_get c.in-Some-Some.second) w.second_left) at_first
          ∙ ap (λ n. direct_with_value (direct_with_value c.args.self.now first.0 w.first_left) n w.second_left) at_second;
    }

pub returns-in_default-clause-variant : goal.returns-in_default-clause-variant
returns-in_default-clause-variant g c =
    elim c.in_default.branch [
      | in_default-via-in-Some+in_default w ↦ inr (none_of _ (sym c.find-2.ensures.live ∙ ap is_some w.in_default.is-1))
      | in_default-via-in_default w ↦ inl (none_of _ (sym c.find.ensures.live ∙ ap is_some w.in_default.is-0))
    ]

pub returns-then-eq-clause-variant : goal.returns-then-eq-clause-variant
returns-then-eq-clause-variant g c =
    let first : Pointer = g.P.Ptr.numbers c.args.first in
    let second : Pointer = g.P.Ptr.numbers c.args.second in
    let at_first : non_zero_usize_get c.in-Some-Some.first ≡ first.0 = subst (λ o. IfSome o (λ inx. non_zero_usize_get inx ≡ first.0)) c.in-Some-Some.is-0 c.find.ensures.index in
    let at_second : non_zero_usize_get c.in-Some-Some.second ≡ second.0 = subst (λ o. IfSome o (λ inx. non_zero_usize_get inx ≡ second.0)) c.in-Some-Some.is-1 c.find-2.ensures.index in
    let first_valid : is_some (look_up c.args.self.now.slots first) ≡ true = sym c.find.ensures.live ∙ ap is_some c.in-Some-Some.is-0 in
    let second_valid : is_some (look_up c.args.self.now.slots second) ≡ true = sym c.find-2.ensures.live ∙ ap is_some c.in-Some-Some.is-1 in
    elim (cases_eq (non_zero_usize_get c.in-Some-Some.first) (non_zero_usize_get c.in-Some-Some.second)) [
      | inl same ↦ (first_valid, same_pointer c.args.self.now.slots first second first_valid second_valid (sym at_first ∙ same ∙ at_second))
      | inr other ↦ absurd (true≢false (sym (sym c.eq.ensures ∙ c.if-eq.true) ∙ eq_false _ _ other))
    ]

pub work_on_two-requires-clause-callable : goal.work_on_two-requires-clause-callable
work_on_two-requires-clause-callable g c κs within =
    let first : Pointer = g.P.Ptr.numbers c.args.first in
    let second : Pointer = g.P.Ptr.numbers c.args.second in
    let at_first : non_zero_usize_get c.in-Some-Some.first ≡ first.0 = subst (λ o. IfSome o (λ inx. non_zero_usize_get inx ≡ first.0)) c.in-Some-Some.is-0 c.find.ensures.index in
    let at_second : non_zero_usize_get c.in-Some-Some.second ≡ second.0 = subst (λ o. IfSome o (λ inx. non_zero_usize_get inx ≡ second.0)) c.in-Some-Some.is-1 c.find-2.ensures.index in
    let first_valid : is_some (look_up c.args.self.now.slots first) ≡ true = sym c.find.ensures.live ∙ ap is_some c.in-Some-Some.is-0 in
    let second_valid : is_some (look_up c.args.self.now.slots second) ≡ true = sym c.find-2.ensures.live ∙ ap is_some c.in-Some-Some.is-1 in
    let apart : first.0 ≢ second.0 = λ same. true≢false (sym (eq_true _ _ (at_first ∙ same ∙ sym at_second)) ∙ sym c.eq.ensures ∙ c.if-eq.false) in
    λ x y at_x at_y. c.requires apart x y (sym (value_at_pointer c.args.self.now.slots first _ at_first first_valid) ∙ at_x) (sym (value_at_pointer c.args.self.now.slots second _ at_second second_valid) ∙ at_y)

pub returns-in_default-clause-history : goal.returns-in_default-clause-history
returns-in_default-clause-history g c h fits = absurd fits

pub returns-then-eq-clause-history : goal.returns-then-eq-clause-history
returns-then-eq-clause-history g c h fits = absurd fits

pub work_on_two-requires-clause-first : goal.work_on_two-requires-clause-first
work_on_two-requires-clause-first g c κs within =
    let first : Pointer = g.P.Ptr.numbers c.args.first in
    subst (λ n. IsSome (entry_in c.args.self.now.slots n)) (sym (subst (λ o. IfSome o (λ inx. non_zero_usize_get inx ≡ first.0)) c.in-Some-Some.is-0 c.find.ensures.index)) (live_entry c.args.self.now.slots first (sym c.find.ensures.live ∙ ap is_some c.in-Some-Some.is-0))

pub work_on_two-requires-clause-second : goal.work_on_two-requires-clause-second
work_on_two-requires-clause-second g c κs within =
    let second : Pointer = g.P.Ptr.numbers c.args.second in
    subst (λ n. IsSome (entry_in c.args.self.now.slots n)) (sym (subst (λ o. IfSome o (λ inx. non_zero_usize_get inx ≡ second.0)) c.in-Some-Some.is-1 c.find-2.ensures.index)) (live_entry c.args.self.now.slots second (sym c.find-2.ensures.live ∙ ap is_some c.in-Some-Some.is-1))

pub work_on_two-requires-clause-apart : goal.work_on_two-requires-clause-apart
work_on_two-requires-clause-apart g c κs within same = true≢false (sym (eq_true _ _ same) ∙ sym c.eq.ensures ∙ c.if-eq.false)

pub returns-clause-variant : goal.returns-clause-variant
returns-clause-variant g c =
    let first : Pointer = g.P.Ptr.numbers c.args.first in
    let second : Pointer = g.P.Ptr.numbers c.args.second in
    let at_first : non_zero_usize_get c.in-Some-Some.first ≡ first.0 = subst (λ o. IfSome o (λ inx. non_zero_usize_get inx ≡ first.0)) c.in-Some-Some.is-0 c.find.ensures.index in
    let at_second : non_zero_usize_get c.in-Some-Some.second ≡ second.0 = subst (λ o. IfSome o (λ inx. non_zero_usize_get inx ≡ second.0)) c.in-Some-Some.is-1 c.find-2.ensures.index in (
      sym c.find.ensures.live ∙ ap is_some c.in-Some-Some.is-0,
      sym c.find-2.ensures.live ∙ ap is_some c.in-Some-Some.is-1,
      λ same. true≢false (sym (eq_true _ _ (at_first ∙ same ∙ sym at_second)) ∙ sym c.eq.ensures ∙ c.if-eq.false),
    )

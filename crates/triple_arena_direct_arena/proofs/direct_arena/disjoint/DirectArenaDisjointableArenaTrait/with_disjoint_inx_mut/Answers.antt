use Rattle.std.proofs.Common.{◌≡◌, ◌∙◌, IsSome, refl, sym, ap, subst, inl, inr}
use Rattle.std.specs.Option.{option_map}
use Rattle.std.specs.Int.NonZero.{non_zero_usize_get}
use Rattle.triple_arena_traits.specs.Entries.{entry_in}
use Rattle.triple_arena_traits.proofs.Pairs.{entry_by_parts}
use Rattle.triple_arena_traits.proofs.Present.{some_mapped, none_mapped}
use Rattle.triple_arena_traits.proofs.Refused.{err_is, if_err, on_err, refused_inx}
use Rattle.triple_arena_direct_arena.specs.DirectState.{direct_with_value}
use Rattle.triple_arena_direct_arena.proofs.direct_arena.disjoint.DirectArenaDisjointableArenaTrait.with_disjoint_inx_mut.Goals.{in_default-via-in-Some+in_default, in_default-via-in_default}
use Rattle.triple_arena_direct_arena.proofs.direct_arena.disjoint.DirectArenaDisjointableArenaTrait.with_disjoint_inx_mut.Goals as goal

pub returns-clause-worked : goal.returns-clause-worked
returns-clause-worked g c =
    let at_first : non_zero_usize_get c.in_ok-i.i ≡ g.P.Inx.PtrInx.number c.args.first = c.in_ok-i.ensures.numbers.0 in
    let at_second : non_zero_usize_get c.in_ok-i.j ≡ g.P.Inx.PtrInx.number c.args.second = c.in_ok-i.ensures.numbers.1 in
    let w = c.work_on_two.ensures in
    record {
      first_under = c.in-Some-Some.a;
      second_under = c.in-Some-Some.b;
      first_value = w.first_value;
      second_value = w.second_value;
      first_left = w.first_left;
      second_left = w.second_left;
      first_is = entry_by_parts c.args.self.now.slots _ _ _ _ at_first (sym (ap (option_map g.P.Gen.PtrGen.number) c.in-Some-Some.is-0) ∙ c.generation_at.ensures) w.first_is;
      second_is = entry_by_parts c.args.self.now.slots _ _ _ _ at_second (sym (ap (option_map g.P.Gen.PtrGen.number) c.in-Some-Some.is-1) ∙ c.generation_at-2.ensures) w.second_is;
      called = record { first = w.called.first; second = w.called.second; shows = w.called.shows; left = w.called.left; met = w.called.met; leaves = w.called.leaves };
      left =
          w.left
          ∙ ap (λ n. direct_with_value (direct_with_value c.args.self.now n w.first_left) (non_zero_usize_get c.in_ok-i.j) w.second_left) at_first
          ∙ ap (λ n. direct_with_value (direct_with_value c.args.self.now (g.P.Inx.PtrInx.number c.args.first) w.first_left) n w.second_left) at_second;
    }

pub returns-in_default-clause-variant : goal.returns-in_default-clause-variant
returns-in_default-clause-variant g c =
    inr (
      c.in_ok-i.ensures.variant,
      elim c.in_default.branch [
        | in_default-via-in-Some+in_default w ↦ inr (none_mapped _ _ (sym (ap (option_map g.P.Gen.PtrGen.number) w.in_default.is-1) ∙ c.generation_at-2.ensures))
        | in_default-via-in_default w ↦ inl (none_mapped _ _ (sym (ap (option_map g.P.Gen.PtrGen.number) w.in_default.is-0) ∙ c.generation_at.ensures))
      ],
    )

pub returns-clause-variant : goal.returns-clause-variant
returns-clause-variant g c = (
  some_mapped _ _ _ (sym c.generation_at.ensures ∙ ap (option_map g.P.Gen.PtrGen.number) c.in-Some-Some.is-0) refl,
  some_mapped _ _ _ (sym c.generation_at-2.ensures ∙ ap (option_map g.P.Gen.PtrGen.number) c.in-Some-Some.is-1) refl,
  c.in_ok-i.ensures.variant.2,
)

pub work_on_two-requires-clause-callable : goal.work_on_two-requires-clause-callable
work_on_two-requires-clause-callable g c κs within =
    let slots = c.args.self.now.slots in
    λ x y at_x at_y.
    c.requires c.in_ok-i.ensures.variant.2 c.in-Some-Some.a c.in-Some-Some.b x y
    (entry_by_parts slots _ _ _ _ c.in_ok-i.ensures.numbers.0 (sym (ap (option_map g.P.Gen.PtrGen.number) c.in-Some-Some.is-0) ∙ c.generation_at.ensures) at_x)
    (entry_by_parts slots _ _ _ _ c.in_ok-i.ensures.numbers.1 (sym (ap (option_map g.P.Gen.PtrGen.number) c.in-Some-Some.is-1) ∙ c.generation_at-2.ensures) at_y)

pub returns-in_err-i-clause-variant : goal.returns-in_err-i-clause-variant
returns-in_err-i-clause-variant g c =
    refused_inx c.args.self.now.slots _ _ c.from_residual.result c.in_err-i.field-0.0 (err_is c.from_residual.result c.in_err-i.field-0.0 c.from_residual.ensures.1) c.in_err-i.ensures.variant

pub returns-in_err-i-clause-refused : goal.returns-in_err-i-clause-refused
returns-in_err-i-clause-refused g c =
    on_err c.from_residual.result c.in_err-i.field-0.0 (err_is c.from_residual.result c.in_err-i.field-0.0 c.from_residual.ensures.1) _ refl

pub returns-in_err-i-clause-worked : goal.returns-in_err-i-clause-worked
returns-in_err-i-clause-worked g c =
    if_err c.from_residual.result c.in_err-i.field-0.0 (err_is c.from_residual.result c.in_err-i.field-0.0 c.from_residual.ensures.1) _

pub returns-in_err-i-clause-history : goal.returns-in_err-i-clause-history
returns-in_err-i-clause-history g c h fits = absurd fits

pub returns-in_default-clause-history : goal.returns-in_default-clause-history
returns-in_default-clause-history g c h fits = absurd fits

pub work_on_two-requires-clause-first : goal.work_on_two-requires-clause-first
work_on_two-requires-clause-first g c κs within =
    subst (λ n. IsSome (entry_in c.args.self.now.slots n)) (sym c.in_ok-i.ensures.numbers.0) (some_mapped _ _ _ (sym c.generation_at.ensures ∙ ap (option_map g.P.Gen.PtrGen.number) c.in-Some-Some.is-0) refl)

pub work_on_two-requires-clause-second : goal.work_on_two-requires-clause-second
work_on_two-requires-clause-second g c κs within =
    subst (λ n. IsSome (entry_in c.args.self.now.slots n)) (sym c.in_ok-i.ensures.numbers.1) (some_mapped _ _ _ (sym c.generation_at-2.ensures ∙ ap (option_map g.P.Gen.PtrGen.number) c.in-Some-Some.is-1) refl)

pub work_on_two-requires-clause-apart : goal.work_on_two-requires-clause-apart
work_on_two-requires-clause-apart g c κs within same = c.in_ok-i.ensures.variant.2 (sym c.in_ok-i.ensures.numbers.0 ∙ same ∙ c.in_ok-i.ensures.numbers.1)

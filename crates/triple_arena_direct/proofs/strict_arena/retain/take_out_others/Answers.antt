use Rattle.std.proofs.Common.{of_calls, ◌∙◌, refl, sym, ap}
use Rattle.std.specs.Option.{option_copied}
use Rattle.triple_arena_ptr.specs.Numbers.{greatest_index}
use Rattle.triple_arena_traits.specs.laws.WalkLaws.{found}
use Rattle.triple_arena_traits.proofs.CopyLemmas.{shared_some}
use Rattle.triple_arena_direct.proofs.StrictRetaining.{sort_start, sort_kept, sort_dropped, sort_end}
use Rattle.triple_arena_direct.proofs.strict_arena.retain.take_out_others.Goals as goal

pub walk-init : goal.walk-init
walk-init g c =
    record {
      callable = search of_calls;
      sorted = sort_start g.P.Ptr.numbers (goal.F-step g) c.args.f c.args.arena.now c.advancer-advancer.result c.advancer-advancer.ensures;
    }

pub unwrap-requires : goal.unwrap-requires
unwrap-requires g c =
    let f = found c.walk.arena.slots (g.P.Ptr.numbers c.in-Some.p) c.in-Some.ensures.steps.answers.0 in
    shared_some c.get.result f.value (c.get.ensures.value ∙ f.looked_up)

pub walk-preserved : goal.walk-preserved
walk-preserved g c =
    record {
      callable = search of_calls;
      sorted = sort_kept g.P.Ptr.numbers (goal.F-step g) (greatest_index g.P.Inx.PtrInx.greatest) c.args.f c.args.arena.now c.walk.advancer c.advance.new.self c.walk.arena c.walk.f c.f.new.self c.walk.ended c.in-Some.p c.unwrap.result c.unwrap.result.now
          c.walk.invariant.sorted c.in-Some.ensures.steps (sym c.get.ensures.value ∙ ap option_copied c.unwrap.ensures) refl (rw c.if-not-f.false at c.f.ensures);
    }

pub walk-preserved-then-not-f : goal.walk-preserved-then-not-f
walk-preserved-then-not-f g c =
    record {
      callable = search of_calls;
      sorted = sort_dropped g.P.Ptr.numbers (goal.F-step g) (greatest_index g.P.Inx.PtrInx.greatest) c.args.f c.args.arena.now c.walk.advancer c.advance.new.self c.walk.arena c.take_out.new.arena c.walk.f c.f.new.self c.walk.ended c.in-Some.p c.unwrap.result c.unwrap.result.now
          c.walk.invariant.sorted c.in-Some.ensures.steps (sym c.get.ensures.value ∙ ap option_copied c.unwrap.ensures) refl (rw c.if-not-f.true at c.f.ensures) c.take_out.ensures.state;
    }

pub returns : goal.returns
returns g c =
    sort_end g.P.Ptr.numbers (goal.F-step g) (greatest_index g.P.Inx.PtrInx.greatest) c.args.f c.args.arena.now _ _ c.walk.arena c.walk.f c.walk.ended c.walk.invariant.sorted c.in_default.ensures.steps

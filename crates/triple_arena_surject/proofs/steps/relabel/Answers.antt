use Rattle.std.proofs.Common.{◌≡◌, ◌<◌, [], Some, IsSome, refl, sym, ap, ◌∙◌, subst, arith}
use Rattle.std.specs.Option.{option_map}
use Rattle.triple_arena_chain.specs.Chains.{nodes, after_at}
use Rattle.triple_arena_chain.specs.laws.RunLaws.{none_in}
use Rattle.triple_arena_surject.proofs.Relabelling.{along_none, leads_on, one_more, moved_all, others_stay}
use Rattle.triple_arena_surject.proofs.Options.{some_of_map}
use Rattle.triple_arena_surject.proofs.steps.relabel.Goals as goal

pub round-init : goal.round-init
round-init g c = record {
  part = record {
    done = [];
    count = refl;
    along = along_none g.P.Ptr.numbers (nodes c.args.keys.now) c.len-len.ensures.linked c.requires.round.0 c.args.count (g.P.Ptr.numbers c.args.from) c.requires.round.1 c.requires.round.2;
    moved = λ q within. absurd (none_in q within);
    others = λ q other. refl;
    afters = λ q. refl;
  };
  len = cc;
  capacity = cc;
  limit = cc;
  history = λ h fits. fits;
}

pub unwrap-at-requires : goal.unwrap-at-requires
unwrap-at-requires g c =
    let numbers = g.P.Ptr.numbers in
    let at = numbers c.round.at in
    let less : c.round.turn < c.args.count = omega arith in
    let on : IsSome (after_at (nodes c.put_set.new.keys) at) =
    subst IsSome (sym (c.put_set.ensures.afters at)) (leads_on numbers (nodes c.args.keys.now) (nodes c.round.keys) c.args.count (numbers c.args.from) at c.args.set c.round.turn c.round.invariant.part less) in
    some_of_map numbers c.after-after.result (subst IsSome (sym c.after-after.ensures) on)

pub round-preserved : goal.round-preserved
round-preserved g c =
    let numbers = g.P.Ptr.numbers in
    let at = numbers c.round.at in
    let less : c.round.turn < c.args.count = omega arith in
    let on : after_at (nodes c.put_set.new.keys) at ≡ Some (numbers c.unwrap-at.result) = sym c.after-after.ensures ∙ ap (option_map numbers) c.unwrap-at.ensures in
    record {
      part =
          one_more numbers (nodes c.args.keys.now) (nodes c.round.keys) c.args.count (numbers c.args.from) at c.args.set c.round.turn c.round.invariant.part less (numbers c.unwrap-at.result) (nodes c.put_set.new.keys) on
          c.put_set.ensures.there c.put_set.ensures.others c.put_set.ensures.afters;
      len = cc;
      capacity = cc;
      limit = cc;
      history = λ h fits. c.put_set.ensures.history h (c.round.invariant.history h fits);
    }

pub returns-clause-moved : goal.returns-clause-moved
returns-clause-moved g c =
    moved_all g.P.Ptr.numbers (nodes c.args.keys.now) (nodes c.round.keys) c.args.count (g.P.Ptr.numbers c.args.from) (g.P.Ptr.numbers c.round.at) c.args.set c.round.turn c.round.invariant.part (omega arith)

pub returns-clause-others : goal.returns-clause-others
returns-clause-others g c =
    others_stay g.P.Ptr.numbers (nodes c.args.keys.now) (nodes c.round.keys) c.args.count (g.P.Ptr.numbers c.args.from) (g.P.Ptr.numbers c.round.at) c.args.set c.round.turn c.round.invariant.part (omega arith)

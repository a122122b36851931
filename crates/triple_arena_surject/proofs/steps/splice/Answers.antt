use Rattle.std.proofs.Common.{◌≡◌, Option, Some, sym, ap, ◌∙◌}
use Rattle.std.specs.Option.{option_map}
use Rattle.triple_arena_ptr.specs.Pointers.{Pointer}
use Rattle.triple_arena_chain.specs.Chains.{Node, nodes, after_at}
use Rattle.triple_arena_surject.specs.declared.member.Member.{Member}
use Rattle.triple_arena_surject.proofs.Splicing.{then_there, then_open, q_stays, next_there, q_open, next_open, spliced}
use Rattle.triple_arena_surject.proofs.steps.splice.Given.{Over}
use Rattle.triple_arena_surject.proofs.steps.splice.Goals.{After-unwrap-then}
use Rattle.triple_arena_surject.proofs.steps.splice.Goals as goal

-- the two keys, and what each led on to
module _ (g : Over) (c : After-unwrap-then g) where
  abbrev old : Pointer → Option (Node (Member g.row.P.Denot g.row.K.Denot))
  old = nodes c.args.keys.now

  abbrev p : Pointer
  p = g.P.Ptr.numbers c.args.p

  abbrev q : Pointer
  q = g.P.Ptr.numbers c.args.q

  abbrev next : Pointer
  next = g.P.Ptr.numbers c.unwrap-next.result

  abbrev then : Pointer
  then = g.P.Ptr.numbers c.unwrap-then.result

  on_p : after_at old p ≡ Some next
  on_p = sym c.after-after_p.ensures ∙ ap (option_map g.P.Ptr.numbers) c.unwrap-next.ensures

  on_q : after_at old q ≡ Some then
  on_q = sym c.after-after_q.ensures ∙ ap (option_map g.P.Ptr.numbers) c.unwrap-then.ensures

pub join-requires-clause-first_there : goal.join-requires-clause-first_there
join-requires-clause-first_there g c κs within =
    let at = (goal.at.join-requires-clause-first_there g c).After-unwrap-then in
    then_there (old g at) c.len-len.ensures.linked (p g at) (q g at) (next g at) (then g at) c.requires.apart (on_p g at) (on_q g at) (nodes c.cut.new.keys) c.cut.ensures.cut (nodes c.cut-2.new.keys) c.cut-2.ensures.cut

pub join-requires-clause-open_before : goal.join-requires-clause-open_before
join-requires-clause-open_before g c κs within =
    let at = (goal.at.join-requires-clause-open_before g c).After-unwrap-then in
    then_open (old g at) c.len-len.ensures.linked (p g at) (q g at) (next g at) (then g at) c.requires.apart (on_p g at) (on_q g at) (nodes c.cut.new.keys) c.cut.ensures.cut (nodes c.cut-2.new.keys) c.cut-2.ensures.cut

pub join-requires-2-clause-last_there : goal.join-requires-2-clause-last_there
join-requires-2-clause-last_there g c κs within =
    let at = (goal.at.join-requires-2-clause-last_there g c).After-unwrap-then in
    q_stays (old g at) c.len-len.ensures.linked (p g at) (q g at) (next g at) (then g at) c.requires.apart (on_p g at) (on_q g at) (nodes c.cut.new.keys) c.cut.ensures.cut (nodes c.cut-2.new.keys) c.cut-2.ensures.cut (nodes c.join.new.keys) c.join.ensures.joined

pub join-requires-2-clause-first_there : goal.join-requires-2-clause-first_there
join-requires-2-clause-first_there g c κs within =
    let at = (goal.at.join-requires-2-clause-first_there g c).After-unwrap-then in
    next_there (old g at) c.len-len.ensures.linked (p g at) (q g at) (next g at) (then g at) c.requires.apart (on_p g at) (on_q g at) (nodes c.cut.new.keys) c.cut.ensures.cut (nodes c.cut-2.new.keys) c.cut-2.ensures.cut (nodes c.join.new.keys) c.join.ensures.joined

pub join-requires-2-clause-open_after : goal.join-requires-2-clause-open_after
join-requires-2-clause-open_after g c κs within =
    let at = (goal.at.join-requires-2-clause-open_after g c).After-unwrap-then in
    q_open (old g at) c.len-len.ensures.linked (p g at) (q g at) (next g at) (then g at) c.requires.apart (on_p g at) (on_q g at) (nodes c.cut.new.keys) c.cut.ensures.cut (nodes c.cut-2.new.keys) c.cut-2.ensures.cut (nodes c.join.new.keys) c.join.ensures.joined

pub join-requires-2-clause-open_before : goal.join-requires-2-clause-open_before
join-requires-2-clause-open_before g c κs within =
    let at = (goal.at.join-requires-2-clause-open_before g c).After-unwrap-then in
    next_open (old g at) c.len-len.ensures.linked (p g at) (q g at) (next g at) (then g at) c.requires.apart (on_p g at) (on_q g at) (nodes c.cut.new.keys) c.cut.ensures.cut (nodes c.cut-2.new.keys) c.cut-2.ensures.cut (nodes c.join.new.keys) c.join.ensures.joined

pub returns-clause-spliced : goal.returns-clause-spliced
returns-clause-spliced g c =
    let at = (goal.at.returns-clause-spliced g c).After-unwrap-then in
    spliced (old g at) c.len-len.ensures.linked (p g at) (q g at) (next g at) (then g at) c.requires.apart (on_p g at) (on_q g at) (nodes c.cut.new.keys) c.cut.ensures.cut (nodes c.cut-2.new.keys) c.cut-2.ensures.cut (nodes c.join.new.keys) c.join.ensures.joined (nodes c.join-2.new.keys) c.join-2.ensures.joined

pub returns-clause-history : goal.returns-clause-history
returns-clause-history g c = λ h fits. c.join-2.ensures.history h (c.join.ensures.history h (c.cut-2.ensures.history h (c.cut.ensures.history h fits)))

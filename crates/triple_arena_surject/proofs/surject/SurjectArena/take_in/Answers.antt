use Rattle.std.proofs.Common.{◌≡◌, ◌≢◌, ◌+◌, ◌≤◌, [], Some, IsSome, sym, ap, ◌∙◌, subst, refl, arith}
use Rattle.std.specs.Option.{option_map}
use Rattle.triple_arena_ptr.specs.Pointers.{Pointer}
use Rattle.triple_arena.specs.Entries.{look_up, entry_count}
use Rattle.triple_arena.specs.Histories.{Continues}
use Rattle.triple_arena_chain.specs.Chains.{nodes}
use Rattle.triple_arena_surject.specs.declared.member.Shared.{Shared}
use Rattle.triple_arena_surject.specs.Rings.{counts, label, with_keys, IsRing}
use Rattle.triple_arena_surject.specs.Surject.{value_of}
use Rattle.triple_arena_surject.proofs.Rounds.{one_label, no_more_keys, ring_from, leads_in_ring}
use Rattle.triple_arena_surject.proofs.States.{IsRead, read, shared_there, set_there, val_is, together}
use Rattle.triple_arena_surject.proofs.Leaving.{counted_with}
use Rattle.triple_arena_surject.proofs.Changes.{sets_united}
use Rattle.triple_arena_surject.proofs.Uniting.{merged, ring_both, sound_united}
use Rattle.triple_arena_surject.proofs.surject.SurjectArena.take_in.Given.{Over}
use Rattle.triple_arena_surject.proofs.surject.SurjectArena.take_in.Goals.{After-unwrap-out}
use Rattle.triple_arena_surject.proofs.surject.SurjectArena.take_in.Goals as goal

-- the two sets, by what is kept of each
module _ (g : Over) (c : After-unwrap-out g) where
  abbrev p : Pointer
  p = g.P.Ptr.numbers c.args.kept

  abbrev q : Pointer
  q = g.P.Ptr.numbers c.args.gone

  abbrev name : Pointer
  name = g.P.Ptr.numbers c.unwrap-set.result

  abbrev other : Pointer
  other = g.P.Ptr.numbers c.unwrap-other.result

  is : IsRead g.P.Ptr.numbers (nodes c.self.inside.keys) (g.B.ArenaStates.slots c.self.inside.sets) c.args.self.now
  is = read g.P.Ptr.numbers _ c.self.inside.keys (g.B.ArenaStates.slots c.self.inside.sets) _ _ c.args.self.now c.self.view_is

  of_p : label g.P.Ptr.numbers (nodes c.self.inside.keys) p ≡ Some name
  of_p = sym c.set_of-first.ensures ∙ ap (option_map g.P.Ptr.numbers) c.unwrap-set.ensures

  of_q : label g.P.Ptr.numbers (nodes c.self.inside.keys) q ≡ Some other
  of_q = sym c.set_of-second.ensures ∙ ap (option_map g.P.Ptr.numbers) c.unwrap-other.ensures

  apart : name ≢ other
  apart e = c.requires.apart (together is p q name of_p (of_q ∙ ap Some (sym e)))

  has_p : counts (g.B.ArenaStates.slots c.self.inside.sets) name ≡ Some c.size_of-count.result
  has_p = c.size_of-count.ensures (shared_there (g.B.ArenaStates.slots c.self.inside.sets) c.self.invariant p name of_p)

  is_q : look_up (g.B.ArenaStates.slots c.self.inside.sets) other ≡ Some c.unwrap-out.result
  is_q = sym c.take-taken.ensures.answer ∙ c.unwrap-out.ensures

  has_q : counts (g.B.ArenaStates.slots c.self.inside.sets) other ≡ Some c.unwrap-out.result.keys
  has_q = ap (option_map (λ (s : Shared g.row.V.Denot). s.keys)) is_q

pub unwrap-set-requires : goal.unwrap-set-requires
unwrap-set-requires g c =
    set_there (read g.P.Ptr.numbers _ c.self.inside.keys (g.B.ArenaStates.slots c.self.inside.sets) _ _ c.args.self.now c.self.view_is) (g.P.Ptr.numbers c.args.kept) c.requires.kept c.set_of-first.result c.set_of-first.ensures

pub unwrap-other-requires : goal.unwrap-other-requires
unwrap-other-requires g c =
    set_there (read g.P.Ptr.numbers _ c.self.inside.keys (g.B.ArenaStates.slots c.self.inside.sets) _ _ c.args.self.now c.self.view_is) (g.P.Ptr.numbers c.args.gone) c.requires.gone c.set_of-second.result c.set_of-second.ensures

pub unwrap-out-requires : goal.unwrap-out-requires
unwrap-out-requires g c =
    subst IsSome (sym c.take-taken.ensures.answer)
    (shared_there (g.B.ArenaStates.slots c.self.inside.sets) c.self.invariant
    (g.P.Ptr.numbers c.args.gone) (g.P.Ptr.numbers c.unwrap-other.result) (sym c.set_of-second.ensures ∙ ap (option_map g.P.Ptr.numbers) c.unwrap-other.ensures))

pub relabel-requires-clause-round : goal.relabel-requires-clause-round
relabel-requires-clause-round g c κs within =
    let at = (goal.at.relabel-requires-clause-round g c).After-unwrap-out in
    let from = ring_from g.P.Ptr.numbers (nodes c.self.inside.keys) c.len-len.ensures.linked (other g at) c.unwrap-out.result.keys (c.self.invariant.rings (other g at) c.unwrap-out.result.keys (has_q g at)) (q g at) (of_q g at) in
    (other g at, from.0, from.1)

pub splice-requires-clause-apart : goal.splice-requires-clause-apart
splice-requires-clause-apart g c κs within =
    let at = (goal.at.splice-requires-clause-apart g c).After-unwrap-out in
    let keys = nodes c.self.inside.keys in
    λ e. apart g at (one_label g.P.Ptr.numbers keys (q g at) (name g at) (other g at) (ap (label g.P.Ptr.numbers keys) (sym e) ∙ of_p g at) (of_q g at))

pub splice-requires-clause-next : goal.splice-requires-clause-next
splice-requires-clause-next g c κs within =
    let at = (goal.at.splice-requires-clause-next g c).After-unwrap-out in
    let count = c.size_of-count.result in
    subst IsSome (sym (c.relabel.ensures.afters (p g at)))
    (leads_in_ring g.P.Ptr.numbers (nodes c.self.inside.keys) c.len-len.ensures.linked (name g at) count (c.self.invariant.rings (name g at) count (has_p g at)) (p g at) (of_p g at))

pub splice-requires-clause-then : goal.splice-requires-clause-then
splice-requires-clause-then g c κs within =
    let at = (goal.at.splice-requires-clause-then g c).After-unwrap-out in
    let count = c.unwrap-out.result.keys in
    subst IsSome (sym (c.relabel.ensures.afters (q g at)))
    (leads_in_ring g.P.Ptr.numbers (nodes c.self.inside.keys) c.len-len.ensures.linked (other g at) count (c.self.invariant.rings (other g at) count (has_q g at)) (q g at) (of_q g at))

pub overflow_add-count : goal.overflow_add-count
overflow_add-count g c =
    let at = (goal.at.overflow_add-count g c).After-unwrap-out in
    let old = nodes c.self.inside.keys in
    let new = c.splice.new.keys in
    let count = c.size_of-count.result in
    let out = c.unwrap-out.result.keys in
    let is = merged g.P.Ptr.numbers old (nodes c.relabel.new.keys) (nodes new) (p g at) (q g at) c.unwrap-set.result (other g at) (of_p g at) (of_q g at) (apart g at)
    c.relabel.ensures.moved c.relabel.ensures.others c.relabel.ensures.afters c.splice.ensures.spliced in
    let ring : IsRing g.P.Ptr.numbers (nodes new) (name g at) (count + out) =
    ring_both g.P.Ptr.numbers old (nodes new) (p g at) (q g at) c.unwrap-set.result (other g at) is c.len-len.ensures.linked
    (counts (g.B.ArenaStates.slots c.self.inside.sets)) (counts (g.B.ArenaStates.slots c.self.inside.sets)) c.self.invariant count out (has_p g at) (has_q g at) in
    let few : count + out ≤ entry_count new.slots = no_more_keys g.P.Ptr.numbers (nodes new) c.len-all.ensures.linked (name g at) (count + out) new.slots (λ r. refl) ring in
    omega (arith, few, c.len-all.ensures.counted, c.len-all.ensures.value)

pub invariant_of-self : goal.invariant_of-self
invariant_of-self g c =
    let at = (goal.at.invariant_of-self g c).After-unwrap-out in
    let old = nodes c.self.inside.keys in
    let slots = g.B.ArenaStates.slots c.self.inside.sets in
    let count = c.size_of-count.result in
    let out = c.unwrap-out.result.keys in
    let is = merged g.P.Ptr.numbers old (nodes c.relabel.new.keys) (nodes c.splice.new.keys) (p g at) (q g at) c.unwrap-set.result (other g at) (of_p g at) (of_q g at) (apart g at)
    c.relabel.ensures.moved c.relabel.ensures.others c.relabel.ensures.afters c.splice.ensures.spliced in
    let all = c.count_keys.ensures.there ∙ ap (option_map (with_keys (count + out))) (c.take-taken.ensures.others (name g at) (apart g at)) in
    sound_united g.P.Ptr.numbers old (nodes c.splice.new.keys) (p g at) (q g at) c.unwrap-set.result (other g at) is c.len-len.ensures.linked
    (counts slots) (counts (g.B.ArenaStates.slots c.count_keys.new.sets)) c.self.invariant count out (has_p g at) (has_q g at)
    (ap (option_map (λ (s : Shared g.row.V.Denot). s.keys)) all ∙ counted_with (count + out) (look_up slots (name g at)) count (has_p g at))
    (ap (option_map (λ (s : Shared g.row.V.Denot). s.keys)) (c.count_keys.ensures.others (other g at) (λ e. apart g at (sym e)) ∙ c.take-taken.ensures.gone))
    (λ e far away. ap (option_map (λ (s : Shared g.row.V.Denot). s.keys)) (c.count_keys.ensures.others e far ∙ c.take-taken.ensures.others e away))

pub returns-clause-gives : goal.returns-clause-gives
returns-clause-gives g c =
    let at = (goal.at.returns-clause-gives g c).After-unwrap-out in
    val_is (is g at) (q g at) (other g at) (of_q g at) ∙ ap (option_map value_of) (is_q g at)

pub returns-clause-united : goal.returns-clause-united
returns-clause-united g c =
    let at = (goal.at.returns-clause-united g c).After-unwrap-out in
    let old = nodes c.self.inside.keys in
    let new = nodes c.splice.new.keys in
    let sets = c.count_keys.new.sets in
    let both = c.size_of-count.result + c.unwrap-out.result.keys in
    let merge = merged g.P.Ptr.numbers old (nodes c.relabel.new.keys) new (p g at) (q g at) c.unwrap-set.result (other g at) (of_p g at) (of_q g at) (apart g at)
    c.relabel.ensures.moved c.relabel.ensures.others c.relabel.ensures.afters c.splice.ensures.spliced in
    sets_united (is g at) (read g.P.Ptr.numbers _ c.splice.new.keys (g.B.ArenaStates.slots sets) (g.B.ArenaStates.capacity sets) (g.B.ArenaStates.limit sets) _ refl)
    (p g at) (q g at) c.unwrap-set.result (other g at) both merge
    (c.count_keys.ensures.there ∙ ap (option_map (with_keys both)) (c.take-taken.ensures.others (name g at) (apart g at)))
    (λ e far away. c.count_keys.ensures.others e far ∙ c.take-taken.ensures.others e away)

pub returns-clause-history : goal.returns-clause-history
returns-clause-history g c = subst (λ s. Continues g.A.ArenaStates.fits s.arena [] c.splice.new.keys.arena) c.self.view_is (λ h fits. c.splice.ensures.history h (c.relabel.ensures.history h fits))

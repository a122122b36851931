use Rattle.std.proofs.Common.{◌≡◌, Some, refl, sym, ap, ◌∙◌, subst}
use Rattle.std.specs.Option.{option_map}
use Rattle.triple_arena_base.specs.Invalidation.{allowed_option}
use Rattle.triple_arena.specs.Ending.{told}
use Rattle.triple_arena.specs.Entries.{look_up}
use Rattle.triple_arena_chain.specs.Chains.{nodes, value_at, IsRemoved}
use Rattle.triple_arena_chain.specs.Endings.{EndsEntry}
use Rattle.triple_arena_chain.specs.Room.{TellsValue}
use Rattle.triple_arena_chain.specs.laws.ResultLaws.{on_ok, if_ok}
use Rattle.triple_arena_chain.specs.laws.TellingLaws.{told_parts}
use Rattle.triple_arena_surject.specs.declared.member.Member.{Member}
use Rattle.triple_arena_surject.specs.declared.member.Shared.{Shared}
use Rattle.triple_arena_surject.specs.Rings.{counts}
use Rattle.triple_arena_surject.proofs.States.{read, found_there, key_is, never}
use Rattle.triple_arena_surject.proofs.Changes.{key_removed, value_out, other_left}
use Rattle.triple_arena_surject.proofs.Leaving.{counted_at, sound_less}
use Rattle.triple_arena_surject.proofs.surject.SurjectArena.remove_key.Given.{Over}
use Rattle.triple_arena_surject.proofs.surject.SurjectArena.remove_key.Goals.{After-overflowing-member}
use Rattle.triple_arena_surject.proofs.surject.SurjectArena.remove_key.Goals as goal

-- the key, once it is out
module _ (g : Over) (c : After-overflowing-member g) where
  done : IsRemoved (nodes c.self.inside.keys) (g.P.Ptr.numbers c.args.p) (nodes c.remove-removed.new.self)
  done = on_ok _ c.remove-removed.result c.unwrap-answer.result c.unwrap-answer.ensures c.remove-removed.ensures.removed

  tells : TellsValue (g.A.ArenaStates.ending_wraps c.self.inside.keys.arena) (value_at (nodes c.self.inside.keys) (g.P.Ptr.numbers c.args.p)) c.unwrap-answer.result
  tells =
      if_ok (TellsValue (g.A.ArenaStates.ending_wraps c.self.inside.keys.arena) (value_at (nodes c.self.inside.keys) (g.P.Ptr.numbers c.args.p))) c.remove-removed.result c.unwrap-answer.result c.unwrap-answer.ensures
      c.remove-removed.ensures.answer

  parts : (c.overflowing-member.result.0 ≡ allowed_option c.unwrap-answer.result) × (c.overflowing-member.result.1 ≡ g.A.ArenaStates.ending_wraps c.self.inside.keys.arena)
  parts =
      told_parts (g.A.ArenaStates.ending_wraps c.self.inside.keys.arena) c.unwrap-answer.result c.overflowing-member.result
      tells.tells c.overflowing-member.ensures

pub count_less-value-requires-clause-counted : goal.count_less-value-requires-clause-counted
count_less-value-requires-clause-counted g c κs within =
    counted_at g.P.Ptr.numbers (nodes c.self.inside.keys) (counts (g.B.ArenaStates.slots c.self.inside.sets)) c.len-len.ensures.linked c.self.invariant (g.P.Ptr.numbers c.args.p) (g.P.Ptr.numbers c.in-Some.set) (sym c.in-Some.ensures)

pub invariant_of-self : goal.invariant_of-self
invariant_of-self g c =
    let slots = g.B.ArenaStates.slots c.self.inside.sets in
    let slots' = g.B.ArenaStates.slots c.count_less-value.new.sets in
    let name = g.P.Ptr.numbers c.in-Some.set in
    sound_less g.P.Ptr.numbers (nodes c.self.inside.keys) (counts slots) c.len-len.ensures.linked c.self.invariant (g.P.Ptr.numbers c.args.p) name (sym c.in-Some.ensures)
    (nodes c.remove-removed.new.self) (done g (goal.at.invariant_of-self g c).After-overflowing-member) (counts slots')
    (λ d other. ap (option_map (λ (s : Shared g.row.V.Denot). s.keys)) (c.count_less-value.ensures.others d other))
    (look_up slots name) (look_up slots' name) c.count_less-value.result c.count_less-value.ensures.less refl refl

pub returns-clause-answer : goal.returns-clause-answer
returns-clause-answer g c =
    let at = (goal.at.returns-clause-answer g c).After-overflowing-member in
    let slots = g.B.ArenaStates.slots in
    let p = g.P.Ptr.numbers c.args.p in
    let name = g.P.Ptr.numbers c.in-Some.set in
    let is = read g.P.Ptr.numbers _ c.self.inside.keys (slots c.self.inside.sets) _ _ c.args.self.now c.self.view_is in
    record {
      key = rw c.telling.ensures.value
          (key_is is p ∙ ap (option_map (λ (m : Member g.row.P.Denot g.row.K.Denot). m.key)) ((tells g at).value ∙ ap Some (sym (parts g at).0)));
      value = rw c.telling.ensures.value
          (value_out is c.len-len.ensures.linked c.self.invariant p name (sym c.in-Some.ensures) (look_up (slots c.count_less-value.new.sets) name) c.count_less-value.result c.count_less-value.ensures.less);
      none = rw c.telling.ensures.value
          (other_left is c.len-len.ensures.linked c.self.invariant p name (sym c.in-Some.ensures) (look_up (slots c.count_less-value.new.sets) name) c.count_less-value.result c.count_less-value.ensures.less);
      tells = c.telling.ensures.told
          ∙ ap (λ w. told w (allowed_option c.telling.result)) (subst (λ s. c.overflowing-member.result.1 ≡ g.A.ArenaStates.ending_wraps s.arena) c.self.view_is (parts g at).1);
    }

pub returns-clause-no_entry : goal.returns-clause-no_entry
returns-clause-no_entry g c =
    let is = read g.P.Ptr.numbers _ c.self.inside.keys (g.B.ArenaStates.slots c.self.inside.sets) _ _ c.args.self.now c.self.view_is in
    record {
      no_entry = never c.args.self.now (g.P.Ptr.numbers c.args.p) _ _ (found_there is (g.P.Ptr.numbers c.args.p) (g.P.Ptr.numbers c.in-Some.set) (sym c.in-Some.ensures)) (λ e. absurd (cc));
      refusal = tt;
    }

pub returns-clause-removed : goal.returns-clause-removed
returns-clause-removed g c =
    let numbers = g.P.Ptr.numbers in
    let sets = c.count_less-value.new.sets in
    key_removed (read numbers _ c.self.inside.keys (g.B.ArenaStates.slots c.self.inside.sets) _ _ c.args.self.now c.self.view_is)
    (read numbers _ c.remove-removed.new.self (g.B.ArenaStates.slots sets) (g.B.ArenaStates.capacity sets) (g.B.ArenaStates.limit sets) _ refl)
    c.len-len.ensures.linked c.self.invariant (numbers c.args.p) (numbers c.in-Some.set) (sym c.in-Some.ensures) (done g (goal.at.returns-clause-removed g c).After-overflowing-member)
    c.count_less-value.result c.count_less-value.ensures.less c.count_less-value.ensures.others

pub returns-clause-ended : goal.returns-clause-ended
returns-clause-ended g c =
    subst (λ s. EndsEntry g.A.ArenaStates.removes g.A.ArenaStates.with_value g.A.ArenaStates.fits g.P.Gen.PtrGen.generations (g.A.ArenaStates.ending_wraps s.arena) s.arena (g.P.Ptr.numbers c.args.p) c.remove-removed.new.self.arena)
    c.self.view_is
    (on_ok _ c.remove-removed.result c.unwrap-answer.result c.unwrap-answer.ensures c.remove-removed.ensures.ended)

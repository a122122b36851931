use Rattle.std.proofs.Common.{◌≡◌, ◌+◌, Bool, not, None, Some, IsSome, refl, sym, ap, ◌∙◌, subst, arith}
use Rattle.std.specs.Prelude.{IfOk}
use Rattle.std.specs.Option.{option_map}
use Rattle.triple_arena_base.specs.Invalidation.{is_success_option}
use Rattle.triple_arena_ptr.specs.Pointers.{Pointer}
use Rattle.triple_arena.specs.Entries.{entry_count}
use Rattle.triple_arena_chain.specs.Chains.{nodes, IsChainRemoved}
use Rattle.triple_arena_chain.specs.Endings.{EndsEntries}
use Rattle.triple_arena_chain.specs.laws.OnceLaws.{fewer}
use Rattle.triple_arena_chain.specs.laws.ResultLaws.{on_ok, if_ok}
use Rattle.triple_arena_chain.specs.laws.TellingLaws.{wrap_is}
use Rattle.triple_arena_surject.specs.declared.member.Shared.{Shared}
use Rattle.triple_arena_surject.specs.Rings.{counts, label}
use Rattle.triple_arena_surject.specs.Surject.{value_of}
use Rattle.triple_arena_surject.proofs.Rounds.{labelled_there}
use Rattle.triple_arena_surject.proofs.States.{IsRead, read, shared_there, found_there, val_is, together, together_is, never}
use Rattle.triple_arena_surject.proofs.Changes.{set_removed}
use Rattle.triple_arena_surject.proofs.Leaving.{sound_without, set_gone, others_same}
use Rattle.triple_arena_surject.proofs.surject.SurjectArena.remove.Given.{Over}
use Rattle.triple_arena_surject.proofs.surject.SurjectArena.remove.Goals.{After-overflowing-keys, After-telling}
use Rattle.triple_arena_surject.proofs.surject.SurjectArena.remove.Goals as goal

-- the set, once its keys are out
module _ (g : Over) (c : After-overflowing-keys g) where
  abbrev p : Pointer
  p = g.P.Ptr.numbers c.args.p

  abbrev name : Pointer
  name = g.P.Ptr.numbers c.in-Some.set

  is : IsRead g.P.Ptr.numbers (nodes c.self.inside.keys) (g.B.ArenaStates.slots c.self.inside.sets) c.args.self.now
  is = read g.P.Ptr.numbers _ c.self.inside.keys (g.B.ArenaStates.slots c.self.inside.sets) _ _ c.args.self.now c.self.view_is

  of : label g.P.Ptr.numbers (nodes c.self.inside.keys) p ≡ Some name
  of = sym c.in-Some.ensures

  done : IsChainRemoved (nodes c.self.inside.keys) p (nodes c.remove_chain-removed.new.self)
  done = on_ok _ c.remove_chain-removed.result c.unwrap-answer.result c.unwrap-answer.ensures c.remove_chain-removed.ensures.removed

  gone : (r : Pointer) → label g.P.Ptr.numbers (nodes c.self.inside.keys) r ≡ Some name → nodes c.remove_chain-removed.new.self r ≡ None
  gone = set_gone g.P.Ptr.numbers (nodes c.self.inside.keys) (counts (g.B.ArenaStates.slots c.self.inside.sets)) c.len-len.ensures.linked c.self.invariant p name of (nodes c.remove_chain-removed.new.self) done

  others : (r : Pointer) → (label g.P.Ptr.numbers (nodes c.self.inside.keys) r ≡ Some name → ⊥) → nodes c.remove_chain-removed.new.self r ≡ nodes c.self.inside.keys r
  others = others_same g.P.Ptr.numbers (nodes c.self.inside.keys) (counts (g.B.ArenaStates.slots c.self.inside.sets)) c.len-len.ensures.linked c.self.invariant p name of (nodes c.remove_chain-removed.new.self) done

-- what is told of a wrap is what the chains told
module _ (g : Over) (c : After-telling g) where
  told_so : (F : Bool → g.row.A.Denot → Type 0) → IfOk c.remove_chain-removed.result (λ r. F (not (is_success_option r)) c.self.inside.keys.arena) → F (not (is_success_option c.telling.result)) c.args.self.now.arena
  told_so F holds =
      subst (λ w. F w c.args.self.now.arena) (sym (wrap_is _ _ c.overflowing-keys.ensures) ∙ sym c.telling.ensures.wrap)
      (subst (λ s. F (not (is_success_option c.unwrap-answer.result)) s.arena) c.self.view_is
      (if_ok (λ r. F (not (is_success_option r)) c.self.inside.keys.arena) c.remove_chain-removed.result c.unwrap-answer.result c.unwrap-answer.ensures holds))

pub unwrap-out-requires : goal.unwrap-out-requires
unwrap-out-requires g c =
    subst IsSome (sym c.take-taken.ensures.answer) (shared_there (g.B.ArenaStates.slots c.self.inside.sets) c.self.invariant (g.P.Ptr.numbers c.args.p) (g.P.Ptr.numbers c.in-Some.set) (sym c.in-Some.ensures))

pub invariant_of-self : goal.invariant_of-self
invariant_of-self g c =
    let at = (goal.at.invariant_of-self g c).After-overflowing-keys in
    sound_without g.P.Ptr.numbers (nodes c.self.inside.keys) (counts (g.B.ArenaStates.slots c.self.inside.sets)) c.len-len.ensures.linked c.self.invariant (p g at) (name g at) (of g at)
    (nodes c.remove_chain-removed.new.self) (done g at) (counts (g.B.ArenaStates.slots c.take-taken.new.sets))
    (ap (option_map (λ (s : Shared g.row.V.Denot). s.keys)) c.take-taken.ensures.gone) (λ d other. ap (option_map (λ (s : Shared g.row.V.Denot). s.keys)) (c.take-taken.ensures.others d other))

pub returns-clause-value : goal.returns-clause-value
returns-clause-value g c =
    let at = (goal.at.returns-clause-value g c).After-overflowing-keys in
    rw c.telling.ensures.value (val_is (is g at) (p g at) (name g at) (of g at) ∙ ap (option_map value_of) (sym c.take-taken.ensures.answer ∙ c.unwrap-out.ensures))

pub returns-clause-removed : goal.returns-clause-removed
returns-clause-removed g c =
    let at = (goal.at.returns-clause-removed g c).After-overflowing-keys in
    let sets = c.take-taken.new.sets in
    set_removed (is g at) (read g.P.Ptr.numbers _ c.remove_chain-removed.new.self (g.B.ArenaStates.slots sets) (g.B.ArenaStates.capacity sets) (g.B.ArenaStates.limit sets) _ refl)
    (p g at) (name g at) (of g at) (gone g at) (others g at) c.take-taken.ensures.others

pub returns-clause-size : goal.returns-clause-size
returns-clause-size g c =
    let at = (goal.at.returns-clause-size g c).After-overflowing-keys in
    let keys = c.self.inside.keys in
    record {
      len_keys = λ n has.
          let left = fewer keys c.remove_chain-removed.new.self has.all c.len-len.ensures.counted c.len-left.ensures.counted has.are.once
          (λ q within.
          let of_q = together_is (is g at) (p g at) q (name g at) (of g at) ((has.are.among q).1 within) in
          (labelled_there g.P.Ptr.numbers (nodes keys) q (name g at) of_q, gone g at q of_q))
          (λ q none. others g at q (λ of_q. none ((has.are.among q).0 (together (is g at) (p g at) q (name g at) (of g at) of_q)))) in
          subst (λ s. c.remove_chain-removed.new.self.len + n ≡ s.len_keys) c.self.view_is (omega (arith, left, has.size));
      len_vals = subst (λ s. entry_count (g.B.ArenaStates.slots c.take-taken.new.sets) + 1 ≡ s.len_vals) c.self.view_is
          (c.take-taken.ensures.len (subst IsSome (sym c.unwrap-out.ensures) refl));
    }

pub returns-clause-no_entry : goal.returns-clause-no_entry
returns-clause-no_entry g c =
    let at = (goal.at.returns-clause-no_entry g c).After-overflowing-keys in
    record {
      no_entry = never c.args.self.now (p g at) _ _ (found_there (is g at) (p g at) (name g at) (of g at)) (λ e. absurd (cc));
      refusal = tt;
    }

pub returns-clause-ended : goal.returns-clause-ended
returns-clause-ended g c =
    told_so g (goal.at.returns-clause-ended g c).After-telling
    (λ w arena. EndsEntries g.A.ArenaStates.removes g.A.ArenaStates.with_value g.A.ArenaStates.fits g.P.Gen.PtrGen.generations g.A.ArenaStates.ending_wraps arena w c.remove_chain-removed.new.self.arena) c.remove_chain-removed.ensures.ended

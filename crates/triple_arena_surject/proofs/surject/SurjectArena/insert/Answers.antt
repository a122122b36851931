use Rattle.std.proofs.Common.{◌≤◌, [], ◌∷◌, IsSome, arith, sym, ap, ◌∙◌, subst, refl, inr}
use Rattle.std.specs.Option.{option_map}
use Rattle.triple_arena.specs.Histories.{insertion, Continues}
use Rattle.triple_arena.specs.laws.LookUpLaws.{found_mapped}
use Rattle.triple_arena_chain.specs.Chains.{nodes}
use Rattle.triple_arena_surject.specs.Rings.{counts, IsSound}
use Rattle.triple_arena_surject.specs.Surject.{value_of, state_of}
use Rattle.triple_arena_surject.specs.Room.{IsSame}
use Rattle.triple_arena_surject.proofs.Sound.{sound_alone, sound_recounted}
use Rattle.triple_arena_surject.proofs.States.{read}
use Rattle.triple_arena_surject.proofs.Changes.{new_set, put_back}
use Rattle.triple_arena_surject.proofs.surject.SurjectArena.insert.Goals as goal

pub invariant_of-self : goal.invariant_of-self
invariant_of-self g c =
    let alone = c.in-Ok-put_alone.ensures.alone in
    sound_alone g.P.Ptr.numbers (nodes c.self.inside.keys) (nodes c.put_alone.new.keys) (counts (g.B.ArenaStates.slots c.self.inside.sets)) (counts (g.B.ArenaStates.slots c.put.new.sets)) c.self.invariant
    (g.P.Ptr.numbers c.in-Ok-put_alone.p) (record { key = c.args.key; set = c.in-Ok.set }) alone.free alone.found alone.values (λ d other. ap (option_map (λ s. s.keys)) (c.in-Ok.ensures.others d other))
    alone.after alone.afters (ap (option_map (λ s. s.keys)) c.in-Ok.ensures.free) (ap (option_map (λ s. s.keys)) c.in-Ok.ensures.found)

pub returns-in-Ok-put_alone-clause-inserted : goal.returns-in-Ok-put_alone-clause-inserted
returns-in-Ok-put_alone-clause-inserted g c =
    let numbers = g.P.Ptr.numbers in
    let sets = c.put.new.sets in
    new_set (read numbers _ c.self.inside.keys (g.B.ArenaStates.slots c.self.inside.sets) _ _ c.args.self.now c.self.view_is)
    (read numbers _ c.put_alone.new.keys (g.B.ArenaStates.slots sets) (g.B.ArenaStates.capacity sets) (g.B.ArenaStates.limit sets) _ refl)
    c.self.invariant (numbers c.in-Ok-put_alone.p) (record { key = c.args.key; set = c.in-Ok.set }) c.args.value c.in-Ok-put_alone.ensures.alone c.in-Ok.ensures.free c.in-Ok.ensures.found c.in-Ok.ensures.others

pub returns-in-Ok-put_alone-clause-history : goal.returns-in-Ok-put_alone-clause-history
returns-in-Ok-put_alone-clause-history g c =
    subst (λ s. Continues g.A.ArenaStates.fits s.arena (insertion (g.P.Ptr.numbers c.in-Ok-put_alone.p) ∷ []) c.put_alone.new.keys.arena) c.self.view_is c.in-Ok-put_alone.ensures.history

pub invariant_of-self-in-Err-put_alone : goal.invariant_of-self-in-Err-put_alone
invariant_of-self-in-Err-put_alone g c =
    let slots = g.B.ArenaStates.slots in
    let last = slots c.take.new.sets in
    let same = put_back (slots c.self.inside.sets) (slots c.put.new.sets) last (g.P.Ptr.numbers c.in-Ok.set) c.in-Ok.ensures.free c.in-Ok.ensures.others c.take.ensures.gone c.take.ensures.others in
    subst (λ k. IsSound g.P.Ptr.numbers (nodes k) (counts last)) (sym c.in-Err-put_alone.ensures.refused)
    (sound_recounted g.P.Ptr.numbers (nodes c.self.inside.keys) (counts (slots c.self.inside.sets)) (counts last) (λ d. ap (option_map (λ s. s.keys)) (same d)) c.self.invariant)

pub returns-in-Err-put_alone-clause-refused : goal.returns-in-Err-put_alone-clause-refused
returns-in-Err-put_alone-clause-refused g c =
    let keys = c.self.inside.keys in
    let sets = c.self.inside.sets in
    let last = c.take.new.sets in
    let slots = g.B.ArenaStates.slots in
    let capacity = g.B.ArenaStates.capacity in
    let limit = g.B.ArenaStates.limit in
    let same = put_back (slots sets) (slots c.put.new.sets) (slots last) (g.P.Ptr.numbers c.in-Ok.set) c.in-Ok.ensures.free c.in-Ok.ensures.others c.take.ensures.gone c.take.ensures.others in
    let fewer = c.take.ensures.len (subst IsSome (sym (c.take.ensures.answer ∙ c.in-Ok.ensures.found)) refl) in
    let less : capacity sets ≤ capacity last = omega (arith, c.in-Ok.ensures.capacity, c.take.ensures.capacity) in
    let grown = g.B.ArenaInsertTrait.grown in
    subst (λ s. IsSame capacity grown s (state_of g.P.Ptr.numbers last c.put_alone.new.keys (slots last) (capacity last) (limit last))) c.self.view_is
    (subst (λ k. IsSame capacity grown (state_of g.P.Ptr.numbers sets keys (slots sets) (capacity sets) (limit sets)) (state_of g.P.Ptr.numbers last k (slots last) (capacity last) (limit last))) (sym c.in-Err-put_alone.ensures.refused)
    (record {
      keys = λ q. refl;
      vals = λ d. found_mapped value_of (slots last) d ∙ ap (option_map value_of) (same d) ∙ sym (found_mapped value_of (slots sets) d);
      arena = refl;
      len_keys = refl;
      len_vals = omega (arith, fewer, c.in-Ok.ensures.len);
      key_capacity = refl;
      key_limit = refl;
      val_capacity = less;
      val_limit = c.take.ensures.limit ∙ c.in-Ok.ensures.limit;
      val_grown = inr (c.take.ensures.capacity ∙ c.in-Ok.ensures.grown);
    }))

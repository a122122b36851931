use Rattle.std.proofs.Common.{rules, ◌≡◌, Some, refl, sym, ap, ◌∙◌}
use Rattle.std.specs.Option.{option_map}
use Rattle.triple_arena.specs.Entries.{look_up}
use Rattle.triple_arena_chain.specs.Chains.{nodes}
use Rattle.triple_arena_chain.specs.laws.ResultLaws.{lends_alike}
use Rattle.triple_arena_surject.specs.Rings.{counts}
use Rattle.triple_arena_surject.specs.Surject.{set_at, put_val, with_val, value_of}
use Rattle.triple_arena_surject.proofs.Sound.{sound_recounted}
use Rattle.triple_arena_surject.proofs.States.{read, no_share, found_there, set_is, val_is}
use Rattle.triple_arena_surject.proofs.Changes.{counts_written, state_written, valued_so}
use Rattle.triple_arena_surject.proofs.surject.SurjectArena.get_val_mut.Goals as goal

pub invariant_of-self-lent : goal.invariant_of-self-lent
invariant_of-self-lent g c w =
    let sets = c.self.inside.sets in
    let slots = g.B.ArenaStates.slots sets in
    let name = g.P.Ptr.numbers c.in_ok-set.set in
    let shared = c.in_ok-shared.shared.now in
    let found : look_up slots name ≡ Some shared = search rules in
    sound_recounted g.P.Ptr.numbers (nodes c.self.inside.keys) (counts slots) _
    (counts_written slots _ name shared w found (g.met.B.ArenaLaws.slots_with_value sets name.0 (record shared { value = w }))) c.self.invariant

pub returns : goal.returns
returns g c =
    let numbers = g.P.Ptr.numbers in
    let keys = c.self.inside.keys in
    let sets = c.self.inside.sets in
    let slots_of = g.B.ArenaStates.slots in
    let put = g.B.ArenaStates.with_value in
    let slots = slots_of sets in
    let p = numbers c.args.p in
    let name = numbers c.in_ok-set.set in
    let shared = c.in_ok-shared.shared.now in
    let found : look_up slots name ≡ Some shared = search rules in
    let of = sym c.in_ok-set.ensures in
    let is = read numbers _ keys slots (g.B.ArenaStates.capacity sets) (g.B.ArenaStates.limit sets) c.args.self.now c.self.view_is in (
      lends_alike _ _ _ (λ w.
          state_written slots _ name shared w found (g.met.B.ArenaLaws.slots_with_value sets name.0 (record shared { value = w })) slots_of put sets _ refl refl numbers keys p (g.B.ArenaStates.capacity sets) _ (g.B.ArenaStates.limit sets) _ of
          (g.met.B.ArenaLaws.len_with_value sets name.0 (record shared { value = w })) (g.met.B.ArenaLaws.capacity_with_value sets name.0 (record shared { value = w }))
          (g.met.B.ArenaLaws.limit_with_value sets name.0 (record shared { value = w }))
          ∙ ap (λ s. with_val (put_val slots_of put) s (set_at s p) w) c.self.view_is),
      record {
        value = sym (val_is is p name of ∙ ap (option_map value_of) found);
        some = (λ _. found_there is p name of, λ _. refl);
        writes_back = tt;
        written = λ _ value. valued_so (put_val slots_of put) c.args.self.now p name shared.value value (set_is is p ∙ of) (is.vals name ∙ ap (option_map value_of) found);
      },
    )

pub returns-in_err-shared : goal.returns-in_err-shared
returns-in_err-shared g c =
    absurd (no_share (g.B.ArenaStates.slots c.self.inside.sets) c.self.invariant (g.P.Ptr.numbers c.args.p) (g.P.Ptr.numbers c.in_ok-set.set) (sym c.in_ok-set.ensures) (sym c.in_err-shared.ensures.value))

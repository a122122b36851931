use Rattle.std.proofs.Common.{rules, [], ◌≡◌, Some, sym, ap, ◌∙◌, subst}
use Rattle.triple_arena.specs.Entries.{look_up}
use Rattle.triple_arena.specs.Histories.{Continues}
use Rattle.triple_arena.specs.laws.LookUpLaws.{entry_at}
use Rattle.triple_arena_chain.specs.Chains.{nodes, value_at, with_value_at, put_within_entry, put_value, with_link_value, IsWritten}
use Rattle.triple_arena_chain.specs.laws.ResultLaws.{lends_alike}
use Rattle.triple_arena_chain.proofs.Written.{value_read, state_written, linked_after, written_there}
use Rattle.triple_arena_chain.proofs.chains.Chains.get_mut.Goals as goal

pub invariant_of-self-lent : goal.invariant_of-self-lent
invariant_of-self-lent g c w =
    let slots = g.A.ArenaStates.slots c.self.inside.arena in
    let link = c.in_ok-link.link.now in
    let found : look_up slots (g.P.Ptr.numbers c.args.p) ≡ Some link = search rules in
    linked_after g.P.Ptr.numbers slots c.args.p link w found c.self.invariant _ (g.met.A.ArenaLaws.slots_with_value c.self.inside.arena (g.P.Ptr.numbers c.args.p).0 (record link { value = w }))

pub returns : goal.returns
returns g c =
    let arena = c.self.inside.arena in
    let slots = g.A.ArenaStates.slots arena in
    let put = put_value {T = g.row.T.Denot} g.A.ArenaStates.slots g.A.ArenaStates.with_value in
    let p = g.P.Ptr.numbers c.args.p in
    let link = c.in_ok-link.link.now in
    let found : look_up slots p ≡ Some link = search rules in
    let same : (w : g.row.T.Denot) → g.A.ArenaStates.with_value arena p.0 (record link { value = w }) ≡ put arena p.0 w = λ w. sym (ap (put_within_entry g.A.ArenaStates.slots g.A.ArenaStates.with_value with_link_value arena p.0 w) (entry_at slots p link found)) in (
      lends_alike _ _ _ (λ w.
          state_written g.P.Ptr.numbers slots c.args.p link w found put arena _ _ _ _ _ _ (same w)
          (g.met.A.ArenaLaws.slots_with_value arena p.0 (record link { value = w })) (g.met.A.ArenaLaws.len_with_value arena p.0 (record link { value = w }))
          (g.met.A.ArenaLaws.capacity_with_value arena p.0 (record link { value = w })) (g.met.A.ArenaLaws.limit_with_value arena p.0 (record link { value = w }))
          ∙ ap (λ s. with_value_at put s p.0 w) c.self.view_is),
      record {
        value = subst (λ s. Some link.value ≡ value_at (nodes s) p) c.self.view_is (sym (value_read g.P.Ptr.numbers slots c.args.p link found));
        writes_back = tt;
        written = λ some value. subst (λ s. IsWritten (nodes s) p value (nodes (with_value_at put s p.0 value))) c.self.view_is (written_there g.P.Ptr.numbers slots c.args.p link value found);
        history = λ some value.
            subst (λ s. Continues g.A.ArenaStates.fits s.arena [] (put s.arena p.0 value)) c.self.view_is
            (subst (λ a. Continues g.A.ArenaStates.fits arena [] a) (same value) (λ h fits. c.get_mut.ensures.written _ h fits));
      },
    )

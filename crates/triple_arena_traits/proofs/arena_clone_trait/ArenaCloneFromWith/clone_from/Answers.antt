use Rattle.std.proofs.Common.{rules, Ok, Err, arith}
use Rattle.triple_arena_traits.specs.laws.CopyLaws.{clones_exactly, copies_front, front_keeps, front_given, front_refused, map_refusal, on_ok, not_refused}
use Rattle.triple_arena_traits.proofs.arena_clone_trait.ArenaCloneFromWith.clone_from.Goals as goal

pub returns-clause-cloned : goal.returns-clause-cloned
returns-clause-cloned g c answer is =
    let h = c.clone_from_with.ensures.cloned answer is in (
      h.0,
      copies_front _ _ _ (λ before p x given after called. clones_exactly g.T.Clone.is_clone g.T.Clone.is_infallible c.requires.exact x.now given (search rules)) _ _ answer h.0 h.1,
      h.2,
    )

pub returns-clause-entries : goal.returns-clause-entries
returns-clause-entries g c =
    on_ok c.clone_from_with.result _ (λ x is.
    let h = returns-clause-cloned g c (Ok x) is in
    front_keeps g.T.Clone.is_infallible _ h.0 _ x h.1 (g.met.Self.ArenaCloneFromWith.slots_cloned _ _ _ _ _ h.2))

pub returns-clause-mapped : goal.returns-clause-mapped
returns-clause-mapped g c refused =
    let told = map_refusal c.clone_from_with.result refused in
    let h = returns-clause-cloned g c (Err told.0) told.1 in
    front_refused g.T.Clone.is_infallible _ told.0 h.0 h.1

pub returns-clause-succeeds : goal.returns-clause-succeeds
returns-clause-succeeds g c sure fits =
    not_refused c.clone_from_with.result
    (λ room. omega (arith, c.clone_from_with.ensures.short room, fits))
    (λ refusal is. let h = returns-clause-cloned g c (Err refusal) is in front_given g.T.Clone.is_infallible _ refusal h.0 sure h.1)

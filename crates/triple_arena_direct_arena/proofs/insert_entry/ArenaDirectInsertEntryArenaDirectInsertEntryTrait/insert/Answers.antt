use Rattle.std.proofs.Common.{◌∙◌, ◌<◌, ℕ, ap, refl, arith}
use Rattle.std.proofs.lemmas.Option.{same_Some}
use Rattle.triple_arena_traits.proofs.Inserted.{some_lent}
use Rattle.triple_arena_direct_arena.proofs.Held.{rewritten_at}
use Rattle.triple_arena_direct_arena.proofs.insert_entry.ArenaDirectInsertEntryArenaDirectInsertEntryTrait.insert.Goals as goal

pub unwrap-requires : goal.unwrap-requires
unwrap-requires g c = some_lent c.get_mut.result c.args.t (c.get_mut.ensures.value ∙ c.direct_insert_reserved.ensures.found)

pub returns : goal.returns
returns g c =
    let positive : 0 < (g.P.Ptr.numbers c.args.self.p).0 = omega (arith, ap (λ (q : ℕ × ℕ). q.0) (g.met.P.Ptr.numbers_of c.args.self.p), g.met.P.Inx.PtrInx.positive (g.P.Ptr.index_of c.args.self.p)) in (
      (refl, λ w. rewritten_at c.args.self.arena.now c.direct_insert_reserved.new.self (g.P.Ptr.numbers c.args.self.p) c.args.t w positive c.direct_insert_reserved.ensures.inserted),
      record {
        value = same_Some _ _ ((rw c.unwrap.ensures at c.get_mut.ensures.value) ∙ c.direct_insert_reserved.ensures.found);
        writes_back = tt;
      },
    )

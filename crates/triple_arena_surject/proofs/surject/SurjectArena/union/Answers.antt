use Rattle.std.proofs.Common.{inl, inr, refl, arith}
use Rattle.triple_arena_surject.proofs.States.{itself, never_both}
use Rattle.triple_arena_surject.proofs.Unions.{twice}
use Rattle.triple_arena_surject.proofs.surject.SurjectArena.union.Goals as goal

pub take_in-requires-clause-kept : goal.take_in-requires-clause-kept
take_in-requires-clause-kept g c κs within = c.in-Some.ensures.there refl

pub take_in-requires-clause-gone : goal.take_in-requires-clause-gone
take_in-requires-clause-gone g c κs within = c.in-Some-len_key_set.ensures.there refl

pub take_in-requires-else-second-first-clause-kept : goal.take_in-requires-else-second-first-clause-kept
take_in-requires-else-second-first-clause-kept g c κs within = c.in-Some-len_key_set.ensures.there refl

pub take_in-requires-else-second-first-clause-gone : goal.take_in-requires-else-second-first-clause-gone
take_in-requires-else-second-first-clause-gone g c κs within = c.in-Some.ensures.there refl

pub returns-then-second-first-clause-no_entry : goal.returns-then-second-first-clause-no_entry
returns-then-second-first-clause-no_entry g c = record {
  no_entry = never_both c.args.self.now (g.P.Ptr.numbers c.args.p) (g.P.Ptr.numbers c.args.q) _ _ (c.in-Some.ensures.there refl) (c.in-Some-len_key_set.ensures.there refl) (λ e. absurd (cc));
  refusal = tt;
}

pub returns-else-second-first-clause-no_entry : goal.returns-else-second-first-clause-no_entry
returns-else-second-first-clause-no_entry g c = record {
  no_entry = never_both c.args.self.now (g.P.Ptr.numbers c.args.p) (g.P.Ptr.numbers c.args.q) _ _ (c.in-Some.ensures.there refl) (c.in-Some-len_key_set.ensures.there refl) (λ e. absurd (cc));
  refusal = tt;
}

pub returns-then-second-first-clause-together : goal.returns-then-second-first-clause-together
returns-then-second-first-clause-together g c =
    let p = g.P.Ptr.numbers c.args.p in
    let q = g.P.Ptr.numbers c.args.q in
    (c.take_in.ensures.united.joined p q).1 (inr (inl (itself c.args.self.now p (c.in-Some.ensures.there refl), itself c.args.self.now q (c.in-Some-len_key_set.ensures.there refl))))

pub returns-else-second-first-clause-together : goal.returns-else-second-first-clause-together
returns-else-second-first-clause-together g c =
    let p = g.P.Ptr.numbers c.args.p in
    let q = g.P.Ptr.numbers c.args.q in
    (c.take_in-else-second-first.ensures.united.joined p q).1 (inr (inr (itself c.args.self.now p (c.in-Some.ensures.there refl), itself c.args.self.now q (c.in-Some-len_key_set.ensures.there refl))))

pub returns-then-second-first-clause-sets : goal.returns-then-second-first-clause-sets
returns-then-second-first-clause-sets g c =
    let united = c.take_in.ensures.united in record {
      stays = λ r t is. (united.joined r t).1 (inl is);
      joined = λ r t is. (united.joined r t).0 is;
      keys = united.keys;
      doubles = λ r n m renamed has also.
          twice c.args.self.now (g.P.Ptr.numbers c.args.p) (g.P.Ptr.numbers c.args.q) c.take_in.new.self united c.in-Some.first c.in-Some-len_key_set.second
          c.in-Some.ensures.keys c.in-Some-len_key_set.ensures.keys c.if-second-first.true r n m renamed has also;
    }

pub returns-else-second-first-clause-sets : goal.returns-else-second-first-clause-sets
returns-else-second-first-clause-sets g c =
    let united = c.take_in-else-second-first.ensures.united in record {
      stays = λ r t is. (united.joined r t).1 (inl is);
      joined = λ r t is.
          elim ((united.joined r t).0 is) [
            | inl was ↦ inl was
            | inr both ↦ elim both [
              | inl ends ↦ inr (inr ends)
              | inr ends ↦ inr (inl ends)
            ]
          ];
      keys = united.keys;
      doubles = λ r n m renamed has also.
          twice c.args.self.now (g.P.Ptr.numbers c.args.q) (g.P.Ptr.numbers c.args.p) c.take_in-else-second-first.new.self united c.in-Some-len_key_set.second c.in-Some.first
          c.in-Some-len_key_set.ensures.keys c.in-Some.ensures.keys (omega arith) r n m renamed has also;
    }

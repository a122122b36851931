use Rattle.std.specs.Prelude.{◌∷◌}
use Rattle.std.proofs.Common.{◌≡◌, nat_eq, IsSome, Some, refl, sym, ◌∙◌, subst, arith}
use Rattle.std.specs.Map.{lookup, remove_entry}
use Rattle.triple_arena_chain_uses.specs.Cache.{exchanged}
use Rattle.triple_arena_chain_uses.proofs.Caching.{if_not_refused, if_ok, removed_one}
use Rattle.triple_arena_chain_uses.proofs.cache.Cache.renew.Goals as goal

pub unwrap-left-requires : goal.unwrap-left-requires
unwrap-left-requires g c = if_not_refused _ _ c.give_way-turned.ensures.refusal (λ refusal says. says.1 refl)

pub unwrap-requires : goal.unwrap-requires
unwrap-requires g c =
    let put =
    if_ok (λ left. (had : g.row.T.Denot) × (lookup (nat_eq c.args.key) c.args.self.now.entries ≡ Some had) × (left ≡ (exchanged (Some c.args.value) had).1)
    × (c.give_way-turned.new.self.entries ≡ (c.args.key, (exchanged (Some c.args.value) had).0) ∷ remove_entry (nat_eq c.args.key) c.args.self.now.entries)) c.give_way-turned.result c.unwrap-left.result c.unwrap-left.ensures c.give_way-turned.ensures.put in
    subst IsSome (sym put.2) refl

pub returns-clause-had : goal.returns-clause-had
returns-clause-had g c =
    let put =
    if_ok (λ left. (had : g.row.T.Denot) × (lookup (nat_eq c.args.key) c.args.self.now.entries ≡ Some had) × (left ≡ (exchanged (Some c.args.value) had).1)
    × (c.give_way-turned.new.self.entries ≡ (c.args.key, (exchanged (Some c.args.value) had).0) ∷ remove_entry (nat_eq c.args.key) c.args.self.now.entries)) c.give_way-turned.result c.unwrap-left.result c.unwrap-left.ensures c.give_way-turned.ensures.put in
    put.1 ∙ sym put.2 ∙ c.unwrap.ensures

pub returns-clause-put : goal.returns-clause-put
returns-clause-put g c =
    let put =
    if_ok (λ left. (had : g.row.T.Denot) × (lookup (nat_eq c.args.key) c.args.self.now.entries ≡ Some had) × (left ≡ (exchanged (Some c.args.value) had).1)
    × (c.give_way-turned.new.self.entries ≡ (c.args.key, (exchanged (Some c.args.value) had).0) ∷ remove_entry (nat_eq c.args.key) c.args.self.now.entries)) c.give_way-turned.result c.unwrap-left.result c.unwrap-left.ensures c.give_way-turned.ensures.put in
    put.3

pub returns-clause-fewer : goal.returns-clause-fewer
returns-clause-fewer g c =
    let put =
    if_ok (λ left. (had : g.row.T.Denot) × (lookup (nat_eq c.args.key) c.args.self.now.entries ≡ Some had) × (left ≡ (exchanged (Some c.args.value) had).1)
    × (c.give_way-turned.new.self.entries ≡ (c.args.key, (exchanged (Some c.args.value) had).0) ∷ remove_entry (nat_eq c.args.key) c.args.self.now.entries)) c.give_way-turned.result c.unwrap-left.result c.unwrap-left.ensures c.give_way-turned.ensures.put in
    omega (arith, removed_one (nat_eq c.args.key) c.args.self.now.entries (subst IsSome (sym put.1) refl), c.len-len.ensures.within)

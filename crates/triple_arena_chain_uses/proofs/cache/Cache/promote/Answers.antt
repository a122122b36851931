use Rattle.std.specs.Prelude.{◌∷◌}
use Rattle.std.proofs.Common.{◌≡◌, ℕ, nat_eq, is_some, Some, None, refl, sym, ap, ◌∙◌}
use Rattle.std.specs.Map.{lookup, remove_entry}
use Rattle.triple_arena_chain_uses.specs.Cache.{put_first, exchanged}
use Rattle.triple_arena_chain_uses.proofs.Caching.{if_ok, if_not_refused}
use Rattle.triple_arena_chain_uses.proofs.cache.Cache.promote.Goals as goal

pub unwrap-left-requires : goal.unwrap-left-requires
unwrap-left-requires g c = if_not_refused _ _ c.give_way-turned.ensures.refusal (λ refusal says. says.1 refl)

pub returns-clause-had : goal.returns-clause-had
returns-clause-had g c =
    let put =
    if_ok (λ left. (had : g.row.T.Denot) × (lookup (nat_eq c.args.key) c.args.self.now.entries ≡ Some had) × (left ≡ (exchanged None had).1)
    × (c.give_way-turned.new.self.entries ≡ (c.args.key, (exchanged None had).0) ∷ remove_entry (nat_eq c.args.key) c.args.self.now.entries)) c.give_way-turned.result c.unwrap-left.result c.unwrap-left.ensures c.give_way-turned.ensures.put in
    sym (ap is_some put.1)

pub returns-clause-used : goal.returns-clause-used
returns-clause-used g c =
    let put =
    if_ok (λ left. (had : g.row.T.Denot) × (lookup (nat_eq c.args.key) c.args.self.now.entries ≡ Some had) × (left ≡ (exchanged None had).1)
    × (c.give_way-turned.new.self.entries ≡ (c.args.key, (exchanged None had).0) ∷ remove_entry (nat_eq c.args.key) c.args.self.now.entries)) c.give_way-turned.result c.unwrap-left.result c.unwrap-left.ensures c.give_way-turned.ensures.put in
    ap (λ (m : ℕ). record c.give_way-turned.new.self { most = m }) c.give_way-turned.ensures.most
    ∙ ap (λ es. record c.args.self.now { entries = es }) (put.3 ∙ ap (λ o. put_first c.args.key o c.args.self.now.entries) (sym put.1))

use Rattle.std.specs.Prelude.{◌∷◌}
use Rattle.std.proofs.Common.{◌≡◌, ◌-◌, nat_eq, length, take, IsSome, ap, ◌∙◌}
use Rattle.std.specs.Map.{lookup, remove_entry}
use Rattle.triple_arena_chain_uses.proofs.Caching.{if_some, full_oldest}
use Rattle.triple_arena_chain_uses.proofs.cache.Cache.replace_last.Goals as goal

pub unwrap-gone-requires : goal.unwrap-gone-requires
unwrap-gone-requires g c = full_oldest _ c.args.self.now.entries c.args.self.now.most c.oldest-oldest.result c.oldest-oldest.ensures.oldest c.requires.full c.requires.some

pub give_way-requires-clause-there : goal.give_way-requires-clause-there
give_way-requires-clause-there g c =
    let goes =
    if_some (λ key. IsSome (lookup (nat_eq key) c.args.self.now.entries) × (remove_entry (nat_eq key) c.args.self.now.entries ≡ take (length c.args.self.now.entries - 1) c.args.self.now.entries)) c.oldest-oldest.result c.unwrap-gone.result c.unwrap-gone.ensures c.oldest-oldest.ensures.goes in
    goes.0

pub returns-in-Ok-clause-put : goal.returns-in-Ok-clause-put
returns-in-Ok-clause-put g c =
    let goes =
    if_some (λ key. IsSome (lookup (nat_eq key) c.args.self.now.entries) × (remove_entry (nat_eq key) c.args.self.now.entries ≡ take (length c.args.self.now.entries - 1) c.args.self.now.entries)) c.oldest-oldest.result c.unwrap-gone.result c.unwrap-gone.ensures c.oldest-oldest.ensures.goes in
    c.in-Ok.ensures.put.3 ∙ ap (λ es. (c.args.key, c.args.value) ∷ es) (goes.1 ∙ ap (λ n. take (n - 1) c.args.self.now.entries) c.requires.full)

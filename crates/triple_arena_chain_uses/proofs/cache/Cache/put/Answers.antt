use Rattle.std.specs.Prelude.{◌∷◌}
use Rattle.std.proofs.Common.{suc, ℕ, ◌-◌, nat_eq, take, sym, ap, ◌∙◌}
use Rattle.triple_arena_chain.specs.Pointers.{Pointer}
use Rattle.triple_arena_chain_uses.specs.Cache.{CacheState}
use Rattle.triple_arena_chain_uses.proofs.Caching.{none_removed}
use Rattle.triple_arena_chain_uses.proofs.cache.Cache.put.Goals as goal

abbrev numbers : ℕ × ℕ → Pointer
numbers p = (suc p.0, suc p.1)

pub returns-in-Ok-put_new-clause-put : goal.returns-in-Ok-put_new-clause-put
returns-in-Ok-put_new-clause-put g c =
    c.in-Ok-put_new.ensures.put
    ∙ ap (λ v. (c.args.key, v) ∷ take (c.renew.new.self.most - 1) c.renew.new.self.entries) c.in-Err.ensures.given_back
    ∙ ap (λ (s : CacheState g.row.T.Denot). (c.args.key, c.args.value) ∷ take (s.most - 1) s.entries) c.in-Err.ensures.refused
    ∙ ap (λ es. (c.args.key, c.args.value) ∷ take (c.args.self.now.most - 1) es) (sym (none_removed (nat_eq c.args.key) c.args.self.now.entries c.in-Err.ensures.none))

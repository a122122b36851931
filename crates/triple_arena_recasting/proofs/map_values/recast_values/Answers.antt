use Rattle.std.proofs.Common.{rules}
use Rattle.std.specs.BTreeMap.{is_at}
use Rattle.triple_arena_base.specs.Held.{recast_items}
use Rattle.triple_arena_recasting.proofs.MapValues.{written_value, written_keys}
use Rattle.triple_arena_recasting.proofs.map_values.recast_values.Goals as goal

pub returns-clause-values : goal.returns-clause-values
returns-clause-values g c name =
    written_value _ _ (λ v. g.V.Recast.refill v (recast_items (g.R.Recaster.image c.args.map.now) (g.V.Recast.held v))) (λ k v b w f t. search rules) _ _ c.retain.ensures.filtered (is_at (g.K.Ord.cmp name))

pub returns-clause-keys : goal.returns-clause-keys
returns-clause-keys g c =
    written_keys _ _ (λ v. g.V.Recast.refill v (recast_items (g.R.Recaster.image c.args.map.now) (g.V.Recast.held v))) (λ k v b w f t. search rules) _ _ c.retain.ensures.filtered

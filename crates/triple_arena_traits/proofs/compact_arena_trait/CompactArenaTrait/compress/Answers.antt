use Rattle.std.proofs.Common.{subst, rules}
use Rattle.triple_arena_traits.specs.laws.CompressionLaws.{length-values}
use Rattle.triple_arena_traits.specs.laws.MoveLaws.{values_kept, found_renamed}
use Rattle.triple_arena_traits.proofs.compact_arena_trait.CompactArenaTrait.compress.Goals as goal

pub returns-clause-done : goal.returns-clause-done
returns-clause-done g c =
    let m = c.compress_with.ensures.moved in
    subst (λ vs. g.Self.CompactArenaTrait.compresses c.args.self.now c.args.reset_generation vs c.compress_with.new.self)
    (values_kept _ _ _ _ _ m.0 (λ a k b r. search rules) m.1) m.2

pub returns-clause-keys : goal.returns-clause-keys
returns-clause-keys g c =
    c.compress_with.ensures.keys

pub returns-clause-values : goal.returns-clause-values
returns-clause-values g c =
    g.met.Self.CompactArenaTrait.values_compressed _ _ _ _ (returns-clause-done g c) (length-values (g.Self.ArenaStates.slots c.args.self.now))

pub returns-clause-found : goal.returns-clause-found
returns-clause-found g c =
    found_renamed (g.Self.ArenaStates.slots c.args.self.now) (g.Self.ArenaStates.slots c.compress_with.new.self) (g.Self.CompactArenaTrait.rank c.args.self.now c.args.reset_generation) (returns-clause-keys g c) (returns-clause-values g c)

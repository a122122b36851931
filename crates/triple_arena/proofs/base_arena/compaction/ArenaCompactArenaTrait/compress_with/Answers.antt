use Rattle.std.proofs.Common.{ap}
use Rattle.triple_arena_ptr.specs.Numbers.{raise, first_generation}
use Rattle.triple_arena_traits.specs.ArenaState.{capacity}
use Rattle.triple_arena_traits.specs.Compression.{counter_after}
use Rattle.triple_arena.specs.laws.TouchedLaws.{compressed_keys}
use Rattle.triple_arena_traits.specs.laws.MoveLaws.{count-moved, count_renamed}
use Rattle.triple_arena.proofs.Touched.{compressed_goes_on, compressed_begins}
use Rattle.triple_arena.proofs.base_arena.compaction.ArenaCompactArenaTrait.compress_with.Goals as goal

pub returns-clause-moved : goal.returns-clause-moved
returns-clause-moved g c = rw c.renew_counter-answer.ensures.state at c.close_up.ensures

pub returns-clause-keys : goal.returns-clause-keys
returns-clause-keys g c =
    let m = returns-clause-moved g c in
    compressed_keys c.args.self.now c.close_up.new.self (counter_after (first_generation g.P.Gen.PtrGen.generations) (raise g.P.Gen.PtrGen.generations) c.args.reset_generation c.args.self.now) m.0 m.2
    (count-moved g.P.Ptr.numbers (goal.F-step g) _ c.args.f c.args.self.now.slots m.0 m.1)

pub returns-clause-len : goal.returns-clause-len
returns-clause-len g c = count_renamed c.args.self.now.slots c.close_up.new.self.slots _ (returns-clause-keys g c)

pub returns-clause-limit : goal.returns-clause-limit
returns-clause-limit g c = ap (λ s. s.limit) (returns-clause-moved g c).2.0

pub returns-clause-capacity : goal.returns-clause-capacity
returns-clause-capacity g c = ap capacity (returns-clause-moved g c).2.0

pub returns-clause-history : goal.returns-clause-history
returns-clause-history g c kept counts =
    let m = returns-clause-moved g c in
    compressed_goes_on g.P.Gen.PtrGen.generations c.args.self.now c.close_up.new.self (first_generation g.P.Gen.PtrGen.generations) c.args.reset_generation m.0 kept counts
    (count-moved g.P.Ptr.numbers (goal.F-step g) _ c.args.f c.args.self.now.slots m.0 m.1) m.2

pub returns-clause-begun : goal.returns-clause-begun
returns-clause-begun g c h fits =
    let m = returns-clause-moved g c in
    compressed_begins c.args.self.now c.close_up.new.self _ m.0 m.2

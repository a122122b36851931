use Rattle.std.proofs.Common.{◌≡◌, ◌-◌, arith, sym, ap, ◌∙◌}
use Rattle.std.specs.Option.{option_map}
use Rattle.triple_arena_chain.specs.Chains.{nodes}
use Rattle.triple_arena_surject.proofs.RingWalks.{along_taken}
use Rattle.triple_arena_surject.proofs.walking.SetPtrsIterator.next.Goals as goal

pub returns-clause-steps : goal.returns-clause-steps
returns-clause-steps g c =
    let numbers = g.P.Ptr.numbers in
    let left = c.self.inside.left in
    sym c.self.view_is
    ∙ along_taken (nodes c.self.inside.keys.now) left (left - 1) (option_map numbers c.self.inside.next) (numbers c.in_ok-p.p) (option_map numbers c.after-self-inside.result) (omega arith) (ap (option_map numbers) c.in_ok-p.was) c.after-self-inside.ensures

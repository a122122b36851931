use Rattle.triple_arena_recasting.specs.laws.RenamingLaws.{keys_stay, values_follow, found_there, arena_follows, direct_follows}
use Rattle.triple_arena_recasting.proofs.renaming_laws.arenas_follow.Goals as goal

pub returns-clause-keys : goal.returns-clause-keys
returns-clause-keys g c = λ rename old new is.
    keys_stay g.P.Ptr.numbers rename g.U.Recast.held g.U.Recast.refill g.met.U.Recast.held_refill old.slots new.slots (arena_follows g.P.Ptr.numbers rename g.U.Recast.held g.U.Recast.refill old new is).0

pub returns-clause-values : goal.returns-clause-values
returns-clause-values g c = λ rename old new is.
    values_follow g.P.Ptr.numbers rename g.U.Recast.held g.U.Recast.refill g.met.U.Recast.held_refill old.slots new.slots (arena_follows g.P.Ptr.numbers rename g.U.Recast.held g.U.Recast.refill old new is).0

pub returns-clause-found : goal.returns-clause-found
returns-clause-found g c = λ rename old new is.
    found_there g.P.Ptr.numbers rename g.U.Recast.held g.U.Recast.refill old.slots new.slots (returns-clause-keys g c rename old new is) (returns-clause-values g c rename old new is)

pub returns-clause-rest : goal.returns-clause-rest
returns-clause-rest g c = λ rename old new is. (arena_follows g.P.Ptr.numbers rename g.U.Recast.held g.U.Recast.refill old new is).1

pub returns-clause-direct : goal.returns-clause-direct
returns-clause-direct g c = λ rename old new is.
    let follows = direct_follows g.P.Ptr.numbers rename g.U.Recast.held g.U.Recast.refill old new is in
    let stay = keys_stay g.P.Ptr.numbers rename g.U.Recast.held g.U.Recast.refill g.met.U.Recast.held_refill old.slots new.slots follows.0 in
    let follow = values_follow g.P.Ptr.numbers rename g.U.Recast.held g.U.Recast.refill g.met.U.Recast.held_refill old.slots new.slots follows.0 in
    (stay, follow, found_there g.P.Ptr.numbers rename g.U.Recast.held g.U.Recast.refill old.slots new.slots stay follow, follows.1)

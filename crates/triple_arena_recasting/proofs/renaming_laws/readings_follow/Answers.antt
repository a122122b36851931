use Rattle.triple_arena_traits.specs.Entries.{look_up}
use Rattle.triple_arena_recasting.specs.laws.RenamingLaws.{keys_stay, values_follow, found_there, arena_follows, found_read}
use Rattle.triple_arena_recasting.proofs.renaming_laws.readings_follow.Goals as goal

pub returns-clause-found : goal.returns-clause-found
returns-clause-found g c = λ rename before after is.
    found_read g.P.Ptr.numbers g.U.Recast.held g.U.Recast.refill g.U.Reading.read g.U.Reading.renamed g.met.U.Reading.follows rename before after is

pub returns-clause-arenas : goal.returns-clause-arenas
returns-clause-arenas g c = λ rename old new is q.
    let slots = (arena_follows g.P.Ptr.numbers rename g.U.Recast.held g.U.Recast.refill old new is).0 in
    let stay = keys_stay g.P.Ptr.numbers rename g.U.Recast.held g.U.Recast.refill g.met.U.Recast.held_refill old.slots new.slots slots in
    let follow = values_follow g.P.Ptr.numbers rename g.U.Recast.held g.U.Recast.refill g.met.U.Recast.held_refill old.slots new.slots slots in
    returns-clause-found g c rename (look_up old.slots q) (look_up new.slots q) (found_there g.P.Ptr.numbers rename g.U.Recast.held g.U.Recast.refill old.slots new.slots stay follow q)

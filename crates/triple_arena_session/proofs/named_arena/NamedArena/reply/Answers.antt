use Rattle.triple_arena_session.proofs.named_arena.NamedArena.reply.Goals as goal

pub returns-in-Insert : goal.returns-in-Insert
returns-in-Insert g c = rw c.in-Insert.is c.insert.ensures

pub returns-in-InsertWithin : goal.returns-in-InsertWithin
returns-in-InsertWithin g c = rw c.in-InsertWithin.is c.insert_within.ensures

pub returns-in-Get : goal.returns-in-Get
returns-in-Get g c = rw c.in-Get.is c.get.ensures

pub returns-in-Set : goal.returns-in-Set
returns-in-Set g c = rw c.in-Set.is c.set.ensures

pub returns-in-Remove : goal.returns-in-Remove
returns-in-Remove g c = rw c.in-Remove.is c.remove.ensures

pub returns-in-Invalidate : goal.returns-in-Invalidate
returns-in-Invalidate g c = rw c.in-Invalidate.is c.invalidate.ensures

pub returns-in-Clear : goal.returns-in-Clear
returns-in-Clear g c = rw c.in-Clear.is c.clear.ensures

pub returns-in-Compact : goal.returns-in-Compact
returns-in-Compact g c = rw c.in-Compact.is c.compact.ensures

pub returns-in-Reserve : goal.returns-in-Reserve
returns-in-Reserve g c = rw c.in-Reserve.is c.reserve.ensures

pub returns-in-Show : goal.returns-in-Show
returns-in-Show g c = rw c.in-Show.is c.show.ensures

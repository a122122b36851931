use Rattle.triple_arena_direct_uses.proofs.netlist.Netlist.add.Goals as goal

pub returns-clause-found : goal.returns-clause-found
returns-clause-found g c = c.insert.ensures.found

pub returns-clause-others : goal.returns-clause-others
returns-clause-others g c = rw (← c.self.view_is) c.insert.ensures.others

pub returns-clause-free : goal.returns-clause-free
returns-clause-free g c = rw (← c.self.view_is) c.insert.ensures.free

pub returns-clause-refused : goal.returns-clause-refused
returns-clause-refused g c = rw (← c.self.view_is) c.insert.ensures.refused

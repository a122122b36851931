use Rattle.triple_arena_traits.specs.Histories.{begun_with}
use Rattle.triple_arena_traits.specs.Walks.{keys}
use Rattle.triple_arena_direct.specs.laws.GoneLaws.{up_to-fits}
use Rattle.triple_arena_snapshot.proofs.StrictFiles.{fits_strictly}
use Rattle.triple_arena_snapshot.proofs.strict_arenas.StrictArenaSavedStrictly.write_file.Goals as goal

pub returns-clause-written : goal.returns-clause-written
returns-clause-written g c = rw (← c.arena.ensures) c.save_arena_as.ensures.written

pub returns-clause-fits : goal.returns-clause-fits
returns-clause-fits g c =
    rw (← c.arena.ensures) (fits_strictly g.T.Codec.content g.P.Gen.PtrGen.generations.counting _ c.arena.result.now c.save_arena_as.result
    (λ counts. up_to-fits (begun_with (keys c.arena.result.now.slots)) c.arena.result.now (rw c.arena.ensures (c.generation-counter.ensures.history counts)))
    c.save_arena_as.ensures.fits)

pub returns-clause-refused : goal.returns-clause-refused
returns-clause-refused g c = rw (← c.arena.ensures) c.save_arena_as.ensures.refused

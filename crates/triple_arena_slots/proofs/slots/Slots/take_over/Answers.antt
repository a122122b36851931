use Rattle.std.proofs.Common.{◌∙◌}
use Rattle.triple_arena_slots.proofs.Resizing.{room_kept}
use Rattle.triple_arena_slots.proofs.slots.Slots.take_over.Goals as goal

pub uncounted_take_over-requires-clause-fits : goal.uncounted_take_over-requires-clause-fits
uncounted_take_over-requires-clause-fits g c κs within = room_kept _ _ _ _ _ c.clear.ensures.room c.clear.ensures.limit c.requires.fits

pub returns-clause-transferred : goal.returns-clause-transferred
returns-clause-transferred g c = c.uncounted_take_over.ensures.transferred

pub returns-clause-room : goal.returns-clause-room
returns-clause-room g c = c.uncounted_take_over.ensures.room ∙ c.clear.ensures.room

pub returns-clause-limit : goal.returns-clause-limit
returns-clause-limit g c = c.uncounted_take_over.ensures.limit ∙ c.clear.ensures.limit

use Rattle.triple_arena_snapshot.proofs.ArenaParts.{fits_unlimited}
use Rattle.triple_arena_snapshot.proofs.arenas.ArenaCodec.encode.Goals as goal

pub returns-clause-fits : goal.returns-clause-fits
returns-clause-fits g c = fits_unlimited c.encode_arena.result _ _ c.args.self.now.limit _ _ c.encode_arena.ensures.fits

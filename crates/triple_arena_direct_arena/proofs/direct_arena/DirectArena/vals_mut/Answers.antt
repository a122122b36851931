use Rattle.std.proofs.Common.{◌∙◌, map, refl, ap}
use Rattle.std.proofs.lemmas.List.{length-map}
use Rattle.triple_arena_direct_arena.proofs.direct_arena.DirectArena.vals_mut.Goals as goal

pub returns : goal.returns
returns g c = (
  (refl, λ w. refl),
  record {
    writes_back = tt;
    keeps = c.iter_mut.ensures.keeps;
    rest = ap (map (λ e. e.1)) c.iter_mut.ensures.rest;
    len = length-map _ _ ∙ c.iter_mut.ensures.len;
    fits = c.iter_mut.ensures.fits;
  },
)

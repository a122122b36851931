use Rattle.std.proofs.Common.{◌==◌, ap, ◌∙◌}
use Rattle.triple_arena_traits.specs.ArenaState.{arena_len}
use Rattle.triple_arena_session.proofs.Shown.{len-shown, capacity-shown, fits-shown}
use Rattle.triple_arena_session.proofs.named_arena.NamedArena.is_full.Goals as goal

pub returns-clause-full : goal.returns-clause-full
returns-clause-full g c =
    ap (λ m. m == c.capacity.result) (c.len.ensures.value ∙ len-shown g.P.Ptr.numbers (g.A.SessionArena.state c.self.inside.arena) c.self.inside.table.items c.self.inside.table.room c.args.self.now c.self.view_is)
    ∙ ap (λ n. arena_len c.args.self.now.arena == n) (c.capacity.ensures.value ∙ capacity-shown g.P.Ptr.numbers (g.A.SessionArena.state c.self.inside.arena) c.self.inside.table.items c.self.inside.table.room c.args.self.now c.self.view_is)

pub returns-clause-fits : goal.returns-clause-fits
returns-clause-fits g c = fits-shown g.P.Ptr.numbers (g.A.SessionArena.state c.self.inside.arena) c.self.inside.table.items c.self.inside.table.room c.args.self.now c.self.view_is c.len.ensures.fits

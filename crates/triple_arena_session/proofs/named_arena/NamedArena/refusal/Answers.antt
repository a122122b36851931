use Rattle.std.proofs.Common.{◌≡◌, ◌≤◌, ◌<◌, false, refl, sym, ◌∙◌}
use Rattle.triple_arena_traits.specs.ArenaState.{arena_len, capacity}
use Rattle.triple_arena_commands.specs.Limits.{is_at_limit}
use Rattle.triple_arena_session.proofs.Shown.{refusal-shown, fits-shown, greatest-shown, has_place, at_limit, at_greatest, may_grow, reaches_limit, past_limit}
use Rattle.triple_arena_session.proofs.named_arena.NamedArena.refusal.Goals as goal
use Rattle.triple_arena_session.proofs.named_arena.NamedArena.refusal.Goals.{in_default-via-in-Some+else-limit-capacity, in_default-via-in_default}

pub returns-then-len-capacity-clause-why : goal.returns-then-len-capacity-clause-why
returns-then-len-capacity-clause-why g c =
    let a = (g.A.SessionArena.state c.self.inside.arena) in
    let place : arena_len a < capacity a = rw (← c.len.ensures.value, ← c.capacity-capacity.ensures.value) c.if-len-capacity.true in
    has_place a place ∙ refusal-shown g.P.Ptr.numbers (g.A.SessionArena.state c.self.inside.arena) c.self.inside.table.items c.self.inside.table.room c.args.self.now c.self.view_is

pub returns-in-Some-clause-why : goal.returns-in-Some-clause-why
returns-in-Some-clause-why g c =
    let a = (g.A.SessionArena.state c.self.inside.arena) in
    let full : capacity a ≤ arena_len a = rw (← c.len.ensures.value, ← c.capacity-capacity.ensures.value) c.if-len-capacity.false in
    let le : c.in-Some.limit ≤ capacity a = rw (← c.capacity-capacity.ensures.value) c.if-limit-capacity.true in
    at_limit a c.len.ensures.fits full (reaches_limit a.limit c.in-Some.limit (capacity a) (sym c.in-Some.ensures.value) le) ∙ refusal-shown g.P.Ptr.numbers (g.A.SessionArena.state c.self.inside.arena) c.self.inside.table.items c.self.inside.table.room c.args.self.now c.self.view_is

pub returns-in_default-clause-why : goal.returns-in_default-clause-why
returns-in_default-clause-why g c =
    let a = (g.A.SessionArena.state c.self.inside.arena) in
    let full : capacity a ≤ arena_len a = rw (← c.len.ensures.value, ← c.capacity-capacity.ensures.value) c.if-len-capacity.false in
    let below : is_at_limit a.limit (capacity a) ≡ false = elim c.in_default.branch [
      | in_default-via-in-Some+else-limit-capacity w ↦ past_limit a.limit w.in-Some.limit (capacity a) (sym w.in-Some.ensures.value) (rw (← c.capacity-capacity.ensures.value) w.if-limit-capacity.false)
      | in_default-via-in_default w ↦ rw (← c.max_capacity.ensures.value, w.in_default.is) refl
    ] in
    let last : capacity a ≡ a.greatest = sym c.capacity-capacity.ensures.value ∙ c.if-capacity-get.true ∙ c.get.ensures.value ∙ c.max_index.ensures ∙ sym c.capacity-capacity.ensures.greatest in
    at_greatest a c.len.ensures.fits full below last ∙ refusal-shown g.P.Ptr.numbers (g.A.SessionArena.state c.self.inside.arena) c.self.inside.table.items c.self.inside.table.room c.args.self.now c.self.view_is

pub returns-in_default-2-clause-why : goal.returns-in_default-2-clause-why
returns-in_default-2-clause-why g c =
    let a = (g.A.SessionArena.state c.self.inside.arena) in
    let full : capacity a ≤ arena_len a = rw (← c.len.ensures.value, ← c.capacity-capacity.ensures.value) c.if-len-capacity.false in
    let below : is_at_limit a.limit (capacity a) ≡ false = elim c.in_default.branch [
      | in_default-via-in-Some+else-limit-capacity w ↦ past_limit a.limit w.in-Some.limit (capacity a) (sym w.in-Some.ensures.value) (rw (← c.capacity-capacity.ensures.value) w.if-limit-capacity.false)
      | in_default-via-in_default w ↦ rw (← c.max_capacity.ensures.value, w.in_default.is) refl
    ] in
    may_grow a c.len.ensures.fits full below (λ last. c.if-capacity-get.false (c.capacity-capacity.ensures.value ∙ last ∙ c.capacity-capacity.ensures.greatest ∙ sym c.max_index.ensures ∙ sym c.get.ensures.value)) ∙ refusal-shown g.P.Ptr.numbers (g.A.SessionArena.state c.self.inside.arena) c.self.inside.table.items c.self.inside.table.room c.args.self.now c.self.view_is

pub returns-then-len-capacity-clause-fits : goal.returns-then-len-capacity-clause-fits
returns-then-len-capacity-clause-fits g c = fits-shown g.P.Ptr.numbers (g.A.SessionArena.state c.self.inside.arena) c.self.inside.table.items c.self.inside.table.room c.args.self.now c.self.view_is c.len.ensures.fits

pub returns-then-len-capacity-clause-greatest : goal.returns-then-len-capacity-clause-greatest
returns-then-len-capacity-clause-greatest g c = sym (greatest-shown g.P.Ptr.numbers (g.A.SessionArena.state c.self.inside.arena) c.self.inside.table.items c.self.inside.table.room c.args.self.now c.self.view_is) ∙ c.capacity-capacity.ensures.greatest

pub returns-in-Some-clause-fits : goal.returns-in-Some-clause-fits
returns-in-Some-clause-fits g c = fits-shown g.P.Ptr.numbers (g.A.SessionArena.state c.self.inside.arena) c.self.inside.table.items c.self.inside.table.room c.args.self.now c.self.view_is c.len.ensures.fits

pub returns-in-Some-clause-greatest : goal.returns-in-Some-clause-greatest
returns-in-Some-clause-greatest g c = sym (greatest-shown g.P.Ptr.numbers (g.A.SessionArena.state c.self.inside.arena) c.self.inside.table.items c.self.inside.table.room c.args.self.now c.self.view_is) ∙ c.capacity-capacity.ensures.greatest

pub returns-in_default-clause-fits : goal.returns-in_default-clause-fits
returns-in_default-clause-fits g c = fits-shown g.P.Ptr.numbers (g.A.SessionArena.state c.self.inside.arena) c.self.inside.table.items c.self.inside.table.room c.args.self.now c.self.view_is c.len.ensures.fits

pub returns-in_default-clause-greatest : goal.returns-in_default-clause-greatest
returns-in_default-clause-greatest g c = sym (greatest-shown g.P.Ptr.numbers (g.A.SessionArena.state c.self.inside.arena) c.self.inside.table.items c.self.inside.table.room c.args.self.now c.self.view_is) ∙ c.capacity-capacity.ensures.greatest

pub returns-in_default-2-clause-fits : goal.returns-in_default-2-clause-fits
returns-in_default-2-clause-fits g c = fits-shown g.P.Ptr.numbers (g.A.SessionArena.state c.self.inside.arena) c.self.inside.table.items c.self.inside.table.room c.args.self.now c.self.view_is c.len.ensures.fits

pub returns-in_default-2-clause-greatest : goal.returns-in_default-2-clause-greatest
returns-in_default-2-clause-greatest g c = sym (greatest-shown g.P.Ptr.numbers (g.A.SessionArena.state c.self.inside.arena) c.self.inside.table.items c.self.inside.table.room c.args.self.now c.self.view_is) ∙ c.capacity-capacity.ensures.greatest

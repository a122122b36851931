use Rattle.std.proofs.Common.{◌≤◌, ◌∙◌, [], ◌∷◌, None, refl, sym, ap, subst}
use Rattle.triple_arena_ptr.specs.Pointers.{Pointer}
use Rattle.triple_arena.specs.ArenaState.{ArenaState}
use Rattle.triple_arena.specs.Insertion.{next_pointer}
use Rattle.triple_arena_direct.specs.DirectState.{direct_capacity, inserted_at}
use Rattle.triple_arena_direct.specs.Mirrors.{Makes}
use Rattle.triple_arena_direct.specs.Mirrors.Change.{comes}
use Rattle.triple_arena_uses.specs.declared.entity_table.Entity.{Entity}
use Rattle.triple_arena_direct_uses.proofs.side_table.NotedEntities.spawn.Goals as goal

pub invariant_of-self : goal.invariant_of-self
invariant_of-self c =
    let entities : ArenaState Entity = c.self.inside.entities in
    let notes = c.self.inside.notes in
    let entity : Entity = record { health = c.args.health; parent = None } in
    let law = c.mirror_keeps_pointers.ensures in
    law.kept entities.slots notes (comes (next_pointer entities) ∷ []) _ _ c.self.invariant
    (_, subst (λ (s : ArenaState Entity). Makes entities.slots (comes (next_pointer entities)) s.slots) (sym c.insert_reserved.ensures.inserted) (law.insertion entities entity c.insert_reserved.ensures.valid), refl)
    (_, (c.args.note, c.direct_insert_reserved.ensures.inserted ∙ ap (λ q. inserted_at notes q c.args.note) c.next_ptr-p.ensures.pointer), refl)

pub returns-then-not-can_direct_insert-clause-succeeds : goal.returns-then-not-can_direct_insert-clause-succeeds
returns-then-not-can_direct_insert-clause-succeeds c =
    let entities : ArenaState Entity = c.self.inside.entities in
    let notes = c.self.inside.notes in
    let within = λ (p : Pointer). p.0 ≤ direct_capacity notes in
    rw (← c.self.view_is)
    (λ _ reaches. sym c.if-not-can_direct_insert.true
    ∙ c.can_direct_insert.ensures.1 (c.mirror_keeps_pointers.ensures.has_place entities.slots notes _ c.self.invariant c.next_ptr-p.ensures.free (subst within (sym c.next_ptr-p.ensures.pointer) reaches)))

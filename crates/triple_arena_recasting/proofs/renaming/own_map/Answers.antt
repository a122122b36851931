use Rattle.std.proofs.Common.{rules, ℕ, ◌∙◌, Ok, Err, inl, inr, refl, ap, arith}
use Rattle.triple_arena_base.specs.declared.errors.CloneFromError.TheVariants.{Reallocation}
use Rattle.triple_arena_traits.specs.Entries.{look_up}
use Rattle.triple_arena_traits.specs.FreeList.{last_index}
use Rattle.triple_arena_traits.specs.Walks.{keys}
use Rattle.triple_arena_recasting.proofs.OwnMaps.{own_copied, own_image, same_pointer, last_counts, wants_memory, none_shortened}
use Rattle.triple_arena_recasting.proofs.renaming.own_map.Goals as goal

pub returns-in-Ok-clause-keys : goal.returns-in-Ok-clause-keys
returns-in-Ok-clause-keys g c =
    let k = c.in-Ok.ensures.cloned (Ok tt) refl in
    ap (λ s. keys s.slots) k.2 ∙ (own_copied g.P.Ptr.numbers _ _ (g.A.ArenaStates.slots c.args.this.now) k.0 (λ a m b r. search rules) k.1).0

pub returns-in-Ok-clause-own : goal.returns-in-Ok-clause-own
returns-in-Ok-clause-own g c p =
    let slots = g.A.ArenaStates.slots c.args.this.now in
    let k = c.in-Ok.ensures.cloned (Ok tt) refl in
    let copied = own_copied g.P.Ptr.numbers _ _ slots k.0 (λ a m b r. search rules) k.1 in
    let apart = same_pointer g.P.Ptr.numbers g.P.Ptr.index_of g.P.Ptr.generation_of g.P.Inx.PtrInx.number g.P.Gen.PtrGen.number g.met.P.Ptr.numbers_of g.met.P.Inx.PtrInx.distinct g.met.P.Gen.PtrGen.distinct g.met.P.Ptr.distinct in
    ap (λ s. look_up s.slots (g.P.Ptr.numbers p)) k.2 ∙ own_image g.P.Ptr.numbers apart slots k.0 copied.0 copied.1 p

pub returns-in-Err-Reallocation-clause-refusal : goal.returns-in-Err-Reallocation-clause-refusal
returns-in-Err-Reallocation-clause-refusal g c unlimited =
    let e = c.in-Err-Reallocation.ensures in
    let short = e.short (rw c.in-Err-Reallocation.field-0-is tt) in (
      wants_memory c.in-Err-Reallocation.refusal (λ is. rw (c.empty_map-all.ensures.limit, unlimited) at (e.beyond.0 (ap Err (c.in-Err-Reallocation.field-0-is ∙ ap Reallocation is))).1),
      last_counts (g.A.ArenaStates.slots c.args.this.now) (omega (arith, short)),
    )

pub returns-in-Err-Reallocation-clause-with_memory : goal.returns-in-Err-Reallocation-clause-with_memory
returns-in-Err-Reallocation-clause-with_memory g c there =
    let e = c.in-Err-Reallocation.ensures in
    elim c.empty_map-all.ensures.room [
      | inl same ↦ absurd (e.with_memory (rw c.empty_map-all.ensures.limit there.0) (rw (c.empty_map-all.ensures.slots, same, none_shortened {A = ℕ × g.row.P.Denot} (last_index (g.A.ArenaStates.slots c.args.this.now))) there.1) (rw c.in-Err-Reallocation.field-0-is tt))
      | inr fits ↦ absurd (omega (arith, fits, e.short (rw c.in-Err-Reallocation.field-0-is tt)))
    ]

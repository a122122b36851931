use Rattle.std.proofs.Common.{◌∙◌, length, sym, ap, subst, arith}
use Rattle.std.proofs.lemmas.List.{length-map}
use Rattle.std.specs.Int.NonZero.{non_zero_usize_get}
use Rattle.std.specs.Option.{option_map}
use Rattle.triple_arena_traits.specs.Entries.{entry_count}
use Rattle.triple_arena_traits.specs.FreeList.{gaps}
use Rattle.triple_arena_slots.specs.Slot.{entry_of}
use Rattle.triple_arena_slots.specs.Layout.{IsLinked}
use Rattle.triple_arena_slots.proofs.Refused.{copies_seen}
use Rattle.triple_arena_slots.proofs.Resizing.{room_kept}
use Rattle.triple_arena_slots.proofs.Tidying.{linked_full}
use Rattle.triple_arena_slots.proofs.slots.Slots.copy.Goals.{then-count-len, else-count-len}
use Rattle.triple_arena_slots.proofs.slots.Slots.copy.Goals as goal

pub uncounted_copy-count-requires-clause-empty : goal.uncounted_copy-count-requires-clause-empty
uncounted_copy-count-requires-clause-empty g c κs within = c.clear.ensures.items

pub uncounted_copy-count-requires-clause-fits : goal.uncounted_copy-count-requires-clause-fits
uncounted_copy-count-requires-clause-fits g c κs within = room_kept _ _ _ _ _ c.clear.ensures.room c.clear.ensures.limit c.requires.fits

pub relink-requires-after_bounds : goal.relink-requires-after_bounds
relink-requires-after_bounds g c κs within = omega (arith, c.uncounted_copy-count.ensures.ends, c.requires.indexed)

pub returns-clause-ends : goal.returns-clause-ends
returns-clause-ends g c =
    elim c.if-count-len.branch [
      | then-count-len w ↦ rw w.self-is (omega (arith, c.uncounted_copy-count.ensures.ends, ap length w.relink.ensures.slots, length-map (g.S.NonZeroInxGenericStack.items w.relink.new.self.slots.stack) (entry_of g.P.Gen.PtrGen.number), length-map (g.S.NonZeroInxGenericStack.items c.uncounted_copy-count.new.self.stack) (entry_of g.P.Gen.PtrGen.number)))
      | else-count-len w ↦ rw w.self-is c.uncounted_copy-count.ensures.ends
    ]

pub returns-clause-copied : goal.returns-clause-copied
returns-clause-copied g c =
    elim c.if-count-len.branch [
      | then-count-len w ↦ rw w.self-is (copies_seen _ _ c.args.f _ c.uncounted_copy-count.result.1 _ _ w.relink.ensures.slots c.uncounted_copy-count.ensures.copied)
      | else-count-len w ↦ rw w.self-is c.uncounted_copy-count.ensures.copied
    ]

pub returns-clause-linked : goal.returns-clause-linked
returns-clause-linked g c =
    elim c.if-count-len.branch [
      | then-count-len w ↦ rw w.self-is (subst (λ slots. IsLinked (g.S.NonZeroInxGenericStack.items w.relink.new.self.slots.stack) (option_map non_zero_usize_get w.relink.new.self.root) (gaps 1 slots)) (sym w.relink.ensures.slots) w.relink.ensures.linked)
      | else-count-len w ↦ rw w.self-is (linked_full g.P.Gen.PtrGen.number (g.S.NonZeroInxGenericStack.items c.uncounted_copy-count.new.self.stack) (option_map non_zero_usize_get c.clear.new.self.root) (omega (arith, w.if-count-len.false, c.len.ensures, c.uncounted_copy-count.ensures.count)) (ap (option_map non_zero_usize_get) c.clear.ensures.root))
    ]

pub returns-clause-count : goal.returns-clause-count
returns-clause-count g c =
    elim c.if-count-len.branch [
      | then-count-len w ↦ rw w.self-is (c.uncounted_copy-count.ensures.count ∙ ap entry_count (sym w.relink.ensures.slots))
      | else-count-len w ↦ rw w.self-is c.uncounted_copy-count.ensures.count
    ]

pub returns-clause-room : goal.returns-clause-room
returns-clause-room g c =
    elim c.if-count-len.branch [
      | then-count-len w ↦ rw w.self-is (w.relink.ensures.room ∙ c.uncounted_copy-count.ensures.room ∙ c.clear.ensures.room)
      | else-count-len w ↦ rw w.self-is (c.uncounted_copy-count.ensures.room ∙ c.clear.ensures.room)
    ]

pub returns-clause-limit : goal.returns-clause-limit
returns-clause-limit g c =
    elim c.if-count-len.branch [
      | then-count-len w ↦ rw w.self-is (w.relink.ensures.limit ∙ c.uncounted_copy-count.ensures.limit ∙ c.clear.ensures.limit)
      | else-count-len w ↦ rw w.self-is (c.uncounted_copy-count.ensures.limit ∙ c.clear.ensures.limit)
    ]

use Rattle.std.proofs.Common.{◌≡◌, ◌∙◌, map, not, is_some, refl, sym}
use Rattle.std.specs.Int.NonZero.{non_zero_usize_get}
use Rattle.triple_arena_slots.specs.Slot.{entry_of}
use Rattle.triple_arena_snapshot.proofs.ArenaBytes.{map_twice}
use Rattle.triple_arena_snapshot.proofs.FreeLists.{one_more, decided}
use Rattle.triple_arena_snapshot.proofs.free_lists.are_free.Goals as goal

pub returns-then-not-take_all : goal.returns-then-not-take_all
returns-then-not-take_all g c =
    let entry = entry_of g.P.Gen.PtrGen.number in
    let marks = c.in_ok-unnamed.unnamed.items in
    let is : marks ≡ map (λ slot. not (is_some slot)) (map entry c.args.slots.now) = c.in_ok-unnamed.ensures ∙ map_twice (λ slot. not (is_some slot)) entry c.args.slots.now in
    let more = c.take_all.ensures.refused c.if-not-take_all.true in
    sym (one_more (map entry c.args.slots.now) marks marks is (map non_zero_usize_get c.args.free.now) more.0 more.1)

pub returns : goal.returns
returns g c =
    let entry = entry_of g.P.Gen.PtrGen.number in
    let marks = c.in_ok-unnamed.unnamed.items in
    let is : marks ≡ map (λ slot. not (is_some slot)) (map entry c.args.slots.now) = c.in_ok-unnamed.ensures ∙ map_twice (λ slot. not (is_some slot)) entry c.args.slots.now in
    decided (map entry c.args.slots.now) marks c.take_all.new.marks.items c.deref.result.now (map non_zero_usize_get c.args.free.now) _ c.contains.result c.contains.ensures.value c.deref.ensures.value refl refl is (c.take_all.ensures.taken c.if-not-take_all.false)

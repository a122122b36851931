use Rattle.std.proofs.Common.{◌≡◌, map, Ok, sym, ap, ◌∙◌}
use Rattle.std.specs.Option.{option_map}
use Rattle.triple_arena_ptr.specs.Numbers.{greatest_index}
use Rattle.triple_arena_traits.specs.ArenaState.{map_entry}
use Rattle.triple_arena_direct_arena.specs.DirectSlot.{direct_slot_entry}
use Rattle.triple_arena_snapshot.specs.Codings.{list_within}
use Rattle.triple_arena_snapshot.specs.Layouts.{option, both}
use Rattle.triple_arena_snapshot.specs.ArenaCodings.{most_slots, header_at_front}
use Rattle.triple_arena_snapshot.proofs.ArenaBytes.{map_twice, read_behind}
use Rattle.triple_arena_snapshot.proofs.direct_arenas.decode_direct_arena.Goals as goal

pub returns-clause-read : goal.returns-clause-read
returns-clause-read g c =
    let f = option_map (map_entry g.T.Codec.content) in
    let entry = direct_slot_entry g.P.Gen.PtrGen.number in
    let items = g.S.NonZeroInxGenericStack.items c.in_ok-stack.stack in
    let ss = map (λ slot. f (entry slot)) items in
    let greatest = greatest_index g.P.Inx.PtrInx.greatest in
    let limit = g.S.NonZeroInxGenericStack.limit c.args.stack in
    let decoding = (option (both g.P.Gen.GenerationCodec.numbered g.T.Codec.coding)).decoding in
    let same : greatest ≡ c.get.result = sym (c.get.ensures.value ∙ c.max_index.ensures) in
    let second : list_within (most_slots limit greatest) decoding c.in_ok-rest.rest.now ≡ Ok (ss, c.in_ok-stack.rest.now) = ap (λ m. list_within (most_slots limit m) decoding c.in_ok-rest.rest.now) same ∙ c.in_ok-stack.ensures.read in
    let slots : map f (map entry items) ≡ map f c.over_slots.result.slots = ap (map f) (sym (ap (λ s. s.slots) c.over_slots.ensures)) in
    read_behind (list_within (most_slots limit greatest) decoding) (header_at_front greatest g.P.Gen.GenerationCodec.width c.args.bytes.now) c.in_ok-rest.rest.now c.in_ok-stack.rest.now ss (map f c.over_slots.result.slots) c.in_ok-rest.ensures second (map_twice f entry items ∙ slots)

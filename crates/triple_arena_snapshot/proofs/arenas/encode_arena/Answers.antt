use Rattle.std.proofs.Common.{◌≡◌, ◌++◌, map, length, ap, ◌∙◌, arith, subst}
use Rattle.std.proofs.lemmas.List.{length-map}
use Rattle.std.proofs.lemmas.Result.{on_ok_weaker}
use Rattle.std.specs.Int.{w64, to_le_bytes}
use Rattle.std.specs.List.{AllByRecursion}
use Rattle.std.specs.Option.{option_map}
use Rattle.triple_arena_ptr.specs.Numbers.{greatest_index}
use Rattle.triple_arena_traits.specs.ArenaState.{map_entry}
use Rattle.triple_arena_slots.specs.Slot.{entry_of}
use Rattle.triple_arena_snapshot.specs.Codings.{list_bytes}
use Rattle.triple_arena_snapshot.specs.Layouts.{option, both}
use Rattle.triple_arena_snapshot.specs.ArenaLayouts.{index}
use Rattle.triple_arena_snapshot.proofs.ArenaBytes.{map_twice, within_most}
use Rattle.triple_arena_snapshot.proofs.ArenaParts.{arena_written, state_free}
use Rattle.triple_arena_snapshot.proofs.arenas.encode_arena.Goals as goal

pub returns-clause-written : goal.returns-clause-written
returns-clause-written g c =
    let f = option_map (map_entry g.T.Codec.content) in
    let entry = entry_of g.P.Gen.PtrGen.number in
    let coding = option (both g.P.Gen.GenerationCodec.numbered g.T.Codec.coding) in
    let same : map (λ slot. f (entry slot)) c.as_slice.result.now ≡ map f c.args.arena.now.slots = ap (map (λ slot. f (entry slot))) c.as_slice.ensures ∙ map_twice f entry (g.S.NonZeroInxGenericStack.items c.backing.result.now) ∙ ap (map f) c.backing.ensures.slots in
    let third = c.in_ok-encode_generation.ensures.written ∙ ap (λ n. c.encode_items.new.out.items ++ g.P.Gen.GenerationCodec.numbered.encoding n) c.generation.ensures in
    arena_written c.encode_free_list.result c.args.out.now.items c.encode_header.new.out.items c.encode_items.new.out.items c.encode_generation.new.out.items c.encode_free_list.new.out.items (to_le_bytes w64 (greatest_index g.P.Inx.PtrInx.greatest)) g.P.Gen.GenerationCodec.width (list_bytes coding.encoding (map (λ slot. f (entry slot)) c.as_slice.result.now)) (list_bytes coding.encoding (map f c.args.arena.now.slots)) (g.P.Gen.GenerationCodec.numbered.encoding c.args.arena.now.counter) (list_bytes index.encoding c.args.arena.now.free) c.in_ok-encode_header.ensures (ap (list_bytes coding.encoding) same) c.in_ok-encode_items.ensures.written third c.encode_free_list.ensures.written

pub returns-clause-fits : goal.returns-clause-fits
returns-clause-fits g c =
    let f = option_map (map_entry g.T.Codec.content) in
    let entry = entry_of g.P.Gen.PtrGen.number in
    let coding = option (both g.P.Gen.GenerationCodec.numbered g.T.Codec.coding) in
    let same : map (λ slot. f (entry slot)) c.as_slice.result.now ≡ map f c.args.arena.now.slots = ap (map (λ slot. f (entry slot))) c.as_slice.ensures ∙ map_twice f entry (g.S.NonZeroInxGenericStack.items c.backing.result.now) ∙ ap (map f) c.backing.ensures.slots in
    let fits = within_most c.args.arena.now.limit (length (map f c.args.arena.now.slots)) c.capacity-capacity.result (greatest_index g.P.Inx.PtrInx.greatest) (omega (arith, length-map c.args.arena.now.slots f, c.capacity-capacity.ensures.fits)) c.capacity-capacity.ensures.indexed c.capacity-capacity.ensures.allowed in
    let all = subst (AllByRecursion coding.fits) same c.in_ok-encode_items.ensures.fits in
    let counter = subst g.P.Gen.GenerationCodec.numbered.fits c.generation.ensures c.in_ok-encode_generation.ensures.fits in
    on_ok_weaker c.encode_free_list.result (λ free. ((fits, all), (counter, (free, state_free c.args.arena.now c.len-len.ensures.well_formed (map_entry g.T.Codec.content))))) c.encode_free_list.ensures.fits

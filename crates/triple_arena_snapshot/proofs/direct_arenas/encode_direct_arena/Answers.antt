use Rattle.std.proofs.Common.{◌≡◌, map, length, ap, ◌∙◌, arith, subst}
use Rattle.std.proofs.lemmas.List.{length-map}
use Rattle.std.proofs.lemmas.Result.{on_ok_weaker}
use Rattle.std.specs.Int.{w64, to_le_bytes}
use Rattle.std.specs.List.{AllByRecursion}
use Rattle.std.specs.Option.{option_map}
use Rattle.triple_arena_ptr.specs.Numbers.{greatest_index}
use Rattle.triple_arena_traits.specs.ArenaState.{map_entry}
use Rattle.triple_arena_direct_arena.specs.DirectSlot.{direct_slot_entry}
use Rattle.triple_arena_snapshot.specs.Codings.{list_bytes}
use Rattle.triple_arena_snapshot.specs.Layouts.{option, both}
use Rattle.triple_arena_snapshot.proofs.ArenaBytes.{map_twice, within_most, behind_header}
use Rattle.triple_arena_snapshot.proofs.direct_arenas.encode_direct_arena.Goals as goal

pub returns-clause-written : goal.returns-clause-written
returns-clause-written g c =
    let f = option_map (map_entry g.T.Codec.content) in
    let entry = direct_slot_entry g.P.Gen.PtrGen.number in
    let coding = option (both g.P.Gen.GenerationCodec.numbered g.T.Codec.coding) in
    let same : map (λ slot. f (entry slot)) c.as_slice.result.now ≡ map f c.args.arena.now.slots = ap (map (λ slot. f (entry slot))) c.as_slice.ensures ∙ map_twice f entry (g.S.NonZeroInxGenericStack.items c.backing.result.now) ∙ ap (map f) c.backing.ensures.slots in
    behind_header c.encode_items.result c.args.out.now.items c.encode_header.new.out.items c.encode_items.new.out.items (to_le_bytes w64 (greatest_index g.P.Inx.PtrInx.greatest)) g.P.Gen.GenerationCodec.width (list_bytes coding.encoding (map (λ slot. f (entry slot)) c.as_slice.result.now)) (list_bytes coding.encoding (map f c.args.arena.now.slots)) c.in_ok-encode_header.ensures (ap (list_bytes coding.encoding) same) c.encode_items.ensures.written

pub returns-clause-fits : goal.returns-clause-fits
returns-clause-fits g c =
    let f = option_map (map_entry g.T.Codec.content) in
    let entry = direct_slot_entry g.P.Gen.PtrGen.number in
    let coding = option (both g.P.Gen.GenerationCodec.numbered g.T.Codec.coding) in
    let same : map (λ slot. f (entry slot)) c.as_slice.result.now ≡ map f c.args.arena.now.slots = ap (map (λ slot. f (entry slot))) c.as_slice.ensures ∙ map_twice f entry (g.S.NonZeroInxGenericStack.items c.backing.result.now) ∙ ap (map f) c.backing.ensures.slots in
    let fits = within_most c.args.arena.now.limit (length (map f c.args.arena.now.slots)) c.capacity-capacity.result (greatest_index g.P.Inx.PtrInx.greatest) (omega (arith, length-map c.args.arena.now.slots f, c.capacity-capacity.ensures.fits)) c.capacity-capacity.ensures.indexed c.capacity-capacity.ensures.allowed in
    on_ok_weaker c.encode_items.result (λ all. (fits, subst (AllByRecursion coding.fits) same all)) c.encode_items.ensures.fits

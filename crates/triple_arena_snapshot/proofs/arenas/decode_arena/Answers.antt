use Rattle.std.proofs.Common.{◌≡◌, map, Ok, true, sym, ap, ◌∙◌, arith}
use Rattle.std.proofs.lemmas.List.{length-map}
use Rattle.std.specs.Int.NonZero.{non_zero_usize_get}
use Rattle.std.specs.Option.{option_map}
use Rattle.triple_arena_ptr.specs.Numbers.{greatest_index}
use Rattle.triple_arena_traits.specs.ArenaState.{map_entry}
use Rattle.triple_arena_slots.specs.Slot.{entry_of}
use Rattle.triple_arena_snapshot.specs.Codings.{list_within}
use Rattle.triple_arena_snapshot.specs.Layouts.{option, both, list}
use Rattle.triple_arena_snapshot.specs.ArenaCodings.{most_slots, are_free, arena_content, header_at_front}
use Rattle.triple_arena_snapshot.specs.ArenaLayouts.{index}
use Rattle.triple_arena_snapshot.proofs.ArenaBytes.{map_twice}
use Rattle.triple_arena_snapshot.proofs.ArenaParts.{are_free-mapped, arena_read, arena_unordered}
use Rattle.triple_arena_snapshot.proofs.FreeLists.{are-once, are-total}
use Rattle.triple_arena_snapshot.proofs.arenas.decode_arena.Goals as goal

pub returns-then-not-ordered-clause-read : goal.returns-then-not-ordered-clause-read
returns-then-not-ordered-clause-read g c =
    let number = g.P.Gen.PtrGen.number in
    let content = g.T.Codec.content in
    let f = map_entry content in
    let entry = entry_of number in
    let items = g.S.NonZeroInxGenericStack.items c.in_ok-stack.stack in
    let ss = map (λ slot. option_map f (entry slot)) items in
    let n = number c.in_ok-counter.counter in
    let fs = map non_zero_usize_get c.as_slice-indexes.result.now in
    let last : (list index).decoding c.in_ok-counter.rest.now ≡ Ok (fs, c.in_ok-free.behind.now) = c.in_ok-free.ensures.read ∙ ap (λ is. Ok (map non_zero_usize_get is, c.in_ok-free.behind.now)) (sym c.as_slice-indexes.ensures.value) in
    let greatest = greatest_index g.P.Inx.PtrInx.greatest in
    let most : most_slots (g.S.NonZeroInxGenericStack.limit c.args.stack) c.get.result ≡ most_slots (g.S.NonZeroInxGenericStack.limit c.args.stack) greatest = ap (most_slots (g.S.NonZeroInxGenericStack.limit c.args.stack)) (c.get.ensures.value ∙ c.max_index.ensures) in
    let slots = list_within (most_slots (g.S.NonZeroInxGenericStack.limit c.args.stack) greatest) (option (both g.P.Gen.GenerationCodec.numbered g.T.Codec.coding)).decoding in
    let second : slots c.in_ok-rest.rest.now ≡ Ok (ss, c.in_ok-stack.rest.now) = ap (λ m. list_within m (option (both g.P.Gen.GenerationCodec.numbered g.T.Codec.coding)).decoding c.in_ok-rest.rest.now) (sym most) ∙ c.in_ok-stack.ensures.read in
    let ordered : c.in_ok-ordered.ordered ≡ are_free ss fs = c.in_ok-ordered.ensures ∙ ap (λ es. are_free (map entry es) fs) c.as_slice.ensures ∙ sym (are_free-mapped f entry items fs) in
    arena_unordered slots g.P.Gen.GenerationCodec.numbered.decoding (list index).decoding (header_at_front greatest g.P.Gen.GenerationCodec.width c.args.bytes.now) c.in_ok-rest.rest.now c.in_ok-stack.rest.now c.in_ok-counter.rest.now c.in_ok-free.behind.now ss n fs c.in_ok-rest.ensures second c.in_ok-counter.ensures.read last (sym ordered ∙ c.if-not-ordered.true)

pub returns-clause-read : goal.returns-clause-read
returns-clause-read g c =
    let number = g.P.Gen.PtrGen.number in
    let content = g.T.Codec.content in
    let f = map_entry content in
    let entry = entry_of number in
    let items = g.S.NonZeroInxGenericStack.items c.in_ok-stack.stack in
    let ss = map (λ slot. option_map f (entry slot)) items in
    let n = number c.in_ok-counter.counter in
    let fs = map non_zero_usize_get c.as_slice-indexes.result.now in
    let last : (list index).decoding c.in_ok-counter.rest.now ≡ Ok (fs, c.in_ok-free.behind.now) = c.in_ok-free.ensures.read ∙ ap (λ is. Ok (map non_zero_usize_get is, c.in_ok-free.behind.now)) (sym c.as_slice-indexes.ensures.value) in
    let greatest = greatest_index g.P.Inx.PtrInx.greatest in
    let most : most_slots (g.S.NonZeroInxGenericStack.limit c.args.stack) c.get.result ≡ most_slots (g.S.NonZeroInxGenericStack.limit c.args.stack) greatest = ap (most_slots (g.S.NonZeroInxGenericStack.limit c.args.stack)) (c.get.ensures.value ∙ c.max_index.ensures) in
    let slots = list_within (most_slots (g.S.NonZeroInxGenericStack.limit c.args.stack) greatest) (option (both g.P.Gen.GenerationCodec.numbered g.T.Codec.coding)).decoding in
    let second : slots c.in_ok-rest.rest.now ≡ Ok (ss, c.in_ok-stack.rest.now) = ap (λ m. list_within m (option (both g.P.Gen.GenerationCodec.numbered g.T.Codec.coding)).decoding c.in_ok-rest.rest.now) (sym most) ∙ c.in_ok-stack.ensures.read in
    let ordered : c.in_ok-ordered.ordered ≡ are_free ss fs = c.in_ok-ordered.ensures ∙ ap (λ es. are_free (map entry es) fs) c.as_slice.ensures ∙ sym (are_free-mapped f entry items fs) in
    arena_read slots g.P.Gen.GenerationCodec.numbered.decoding (list index).decoding (header_at_front greatest g.P.Gen.GenerationCodec.width c.args.bytes.now) c.in_ok-rest.rest.now c.in_ok-stack.rest.now c.in_ok-counter.rest.now c.in_ok-free.behind.now ss n fs c.in_ok-rest.ensures second c.in_ok-counter.ensures.read last (sym ordered ∙ c.if-not-ordered.false)
    ∙ ap (λ es. Ok ((es, (n, fs)), c.in_ok-free.behind.now)) (map_twice (option_map f) entry items)
    ∙ ap (λ s. Ok (arena_content content s, c.in_ok-free.behind.now)) (sym c.over_slots.ensures.0)

pub over_slots-requires-after_bounds : goal.over_slots-requires-after_bounds
over_slots-requires-after_bounds g c κs within =
    let number = g.P.Gen.PtrGen.number in
    let content = g.T.Codec.content in
    let f = map_entry content in
    let entry = entry_of number in
    let items = g.S.NonZeroInxGenericStack.items c.in_ok-stack.stack in
    let ss = map (λ slot. option_map f (entry slot)) items in
    let n = number c.in_ok-counter.counter in
    let fs = map non_zero_usize_get c.as_slice-indexes.result.now in
    let last : (list index).decoding c.in_ok-counter.rest.now ≡ Ok (fs, c.in_ok-free.behind.now) = c.in_ok-free.ensures.read ∙ ap (λ is. Ok (map non_zero_usize_get is, c.in_ok-free.behind.now)) (sym c.as_slice-indexes.ensures.value) in
    let greatest = greatest_index g.P.Inx.PtrInx.greatest in
    let most : most_slots (g.S.NonZeroInxGenericStack.limit c.args.stack) c.get.result ≡ most_slots (g.S.NonZeroInxGenericStack.limit c.args.stack) greatest = ap (most_slots (g.S.NonZeroInxGenericStack.limit c.args.stack)) (c.get.ensures.value ∙ c.max_index.ensures) in
    let slots = list_within (most_slots (g.S.NonZeroInxGenericStack.limit c.args.stack) greatest) (option (both g.P.Gen.GenerationCodec.numbered g.T.Codec.coding)).decoding in
    let second : slots c.in_ok-rest.rest.now ≡ Ok (ss, c.in_ok-stack.rest.now) = ap (λ m. list_within m (option (both g.P.Gen.GenerationCodec.numbered g.T.Codec.coding)).decoding c.in_ok-rest.rest.now) (sym most) ∙ c.in_ok-stack.ensures.read in
    let ordered : c.in_ok-ordered.ordered ≡ are_free ss fs = c.in_ok-ordered.ensures ∙ ap (λ es. are_free (map entry es) fs) c.as_slice.ensures ∙ sym (are_free-mapped f entry items fs) in
    let are : are_free (map entry items) fs ≡ true = sym (are_free-mapped f entry items fs) ∙ sym ordered ∙ c.if-not-ordered.false in
    record {
      free_once = are-once (map entry items) fs are;
      total = are-total (map entry items) fs are;
      fits = omega (arith, length-map items entry, c.in_ok-stack.ensures.indexed, c.capacity-capacity.ensures.value, c.capacity-capacity.ensures.within, c.get.ensures.value, c.max_index.ensures);
    }

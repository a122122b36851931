use Rattle.std.proofs.Common.{◌≡◌, [], ◌∷◌, ◌++◌, sym, ap, ◌∙◌}
use Rattle.std.proofs.lemmas.Result.{err_from_is_err_and}
use Rattle.std.proofs.lemmas.List.{map_push}
use Rattle.triple_arena_snapshot.specs.MapCodings.{entries_behind}
use Rattle.triple_arena_snapshot.specs.Maps.{contents}
use Rattle.triple_arena_snapshot.proofs.MapEntries.{above_contents, inserted_last, key_falls, value_fails, entry_read}
use Rattle.triple_arena_snapshot.proofs.ordered_maps.decode_entries.Goals as goal

pub returns-then-not-is_above : goal.returns-then-not-is_above
returns-then-not-is_above g c =
    let reads = g.K.KeyCodec.keyed.decoding in
    let reads_too = g.V.Codec.coding.decoding in
    let order = g.K.KeyCodec.order in
    let es = c.loop.map.entries in
    let before = contents g.K.KeyCodec.key g.V.Codec.content es in
    let total = entries_behind order reads reads_too [] c.args.count c.args.bytes.now in
    let same = above_contents g.K.Ord.cmp g.met.K.Ord.total g.K.KeyCodec.key g.V.Codec.content order g.met.K.KeyCodec.orders es c.in_ok-key.key in
    key_falls order reads reads_too before c.args.count c.loop.counter c.loop.rest.now total c.loop.invariant c.loop-test.true (g.K.KeyCodec.key c.in_ok-key.key) c.in_ok-key.behind.now
    c.in_ok-key.ensures.read (same ∙ sym c.is_above.ensures ∙ c.if-not-is_above.true)

pub returns-in_err-value : goal.returns-in_err-value
returns-in_err-value g c =
    let p = err_from_is_err_and c.from_residual-in_err-value.result c.from_residual-in_err-value.ensures.1 in
    let reads = g.K.KeyCodec.keyed.decoding in
    let reads_too = g.V.Codec.coding.decoding in
    let order = g.K.KeyCodec.order in
    let es = c.loop.map.entries in
    let before = contents g.K.KeyCodec.key g.V.Codec.content es in
    let total = entries_behind order reads reads_too [] c.args.count c.args.bytes.now in
    let same = above_contents g.K.Ord.cmp g.met.K.Ord.total g.K.KeyCodec.key g.V.Codec.content order g.met.K.KeyCodec.orders es c.in_ok-key.key in
    rw (p.1, p.2) (value_fails order reads reads_too before c.args.count c.loop.counter c.loop.rest.now total c.loop.invariant c.loop-test.true (g.K.KeyCodec.key c.in_ok-key.key) c.in_ok-key.behind.now
    c.in_ok-key.ensures.read (same ∙ sym c.is_above.ensures ∙ c.if-not-is_above.false) c.in_err-value.field-0.0 c.in_err-value.ensures.read)

pub loop-preserved : goal.loop-preserved
loop-preserved g c =
    let reads = g.K.KeyCodec.keyed.decoding in
    let reads_too = g.V.Codec.coding.decoding in
    let order = g.K.KeyCodec.order in
    let seen = contents g.K.KeyCodec.key g.V.Codec.content in
    let es = c.loop.map.entries in
    let k = c.in_ok-key.key in
    let v = c.in_ok-value.value in
    let total = entries_behind order reads reads_too [] c.args.count c.args.bytes.now in
    let above = sym c.is_above.ensures ∙ c.if-not-is_above.false in
    let same = above_contents g.K.Ord.cmp g.met.K.Ord.total g.K.KeyCodec.key g.V.Codec.content order g.met.K.KeyCodec.orders es k in
    let e : seen c.insert.new.self.entries ≡ seen es ++ (g.K.KeyCodec.key k, g.V.Codec.content v) ∷ [] =
    ap seen (c.in_ok-insert.ensures.entries ∙ inserted_last g.K.Ord.cmp g.met.K.Ord.total es k v above) ∙ map_push _ es (k, v) in
    rw e (entry_read order reads reads_too (seen es) c.args.count c.loop.counter c.loop.rest.now total c.loop.invariant c.loop-test.true (g.K.KeyCodec.key k) c.in_ok-key.behind.now
    c.in_ok-key.ensures.read (same ∙ above) (g.V.Codec.content v) c.in_ok-value.after.now c.in_ok-value.ensures.read)

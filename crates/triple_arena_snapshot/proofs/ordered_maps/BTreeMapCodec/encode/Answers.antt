use Rattle.std.proofs.Common.{arith}
use Rattle.std.proofs.lemmas.List.{length-map}
use Rattle.std.proofs.lemmas.Result.{on_ok_weaker}
use Rattle.triple_arena_snapshot.proofs.MapEntries.{sorted_contents}
use Rattle.triple_arena_snapshot.proofs.ordered_maps.BTreeMapCodec.encode.Goals as goal

pub returns-clause-fits : goal.returns-clause-fits
returns-clause-fits g c =
    let es = c.args.self.now.entries in
    let sorted = sorted_contents g.K.Ord.cmp g.met.K.Ord.total g.K.KeyCodec.key g.V.Codec.content g.K.KeyCodec.order g.met.K.KeyCodec.orders es c.len.ensures.ordered in
    on_ok_weaker c.encode_entries.result (λ h. (omega (arith, length-map {B = g.K.KeyCodec.Key × g.V.Codec.Content} es (λ e. (g.K.KeyCodec.key e.0, g.V.Codec.content e.1)), c.len.ensures.len, c.len.ensures.small), h, sorted)) c.encode_entries.ensures.fits

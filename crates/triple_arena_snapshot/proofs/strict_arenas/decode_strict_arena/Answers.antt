use Rattle.triple_arena_snapshot.specs.ArenaLayouts.{arena_coding}
use Rattle.triple_arena_snapshot.proofs.StrictFiles.{read_strictly, read_past}
use Rattle.triple_arena_snapshot.proofs.strict_arenas.decode_strict_arena.Goals as goal

pub returns-clause-read : goal.returns-clause-read
returns-clause-read g c =
    let inside = arena_coding g.P.Inx.PtrInx.greatest g.P.Gen.GenerationCodec.width (g.S.NonZeroInxGenericStack.limit c.args.stack) g.P.Gen.GenerationCodec.numbered g.T.Codec.coding in
    read_past g.T.Codec.content g.P.Gen.PtrGen.generations.counting c.in_ok-arena.arena c.in_ok-arena.rest.now c.args.bytes.now inside.decoding c.in-Err.ensures.refusal c.in_ok-arena.ensures.read

pub returns-in-Ok-clause-read : goal.returns-in-Ok-clause-read
returns-in-Ok-clause-read g c =
    let inside = arena_coding g.P.Inx.PtrInx.greatest g.P.Gen.GenerationCodec.width (g.S.NonZeroInxGenericStack.limit c.args.stack) g.P.Gen.GenerationCodec.numbered g.T.Codec.coding in
    rw c.in-Ok.ensures.made (read_strictly g.T.Codec.content g.P.Gen.PtrGen.generations.counting c.in_ok-arena.arena c.in_ok-arena.rest.now c.args.bytes.now inside.decoding
    c.in-Ok.ensures.allowed c.in_ok-arena.ensures.read)

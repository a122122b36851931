use Rattle.std.proofs.Common.{arith}
use Rattle.std.proofs.lemmas.Str.{IsUtf8-string_bytes, is_utf8-from_IsUtf8}
use Rattle.std.specs.String.{string_bytes}
use Rattle.triple_arena_snapshot.proofs.containers.StringCodec.encode.Goals as goal

pub returns-clause-fits : goal.returns-clause-fits
returns-clause-fits c = (omega (arith, c.in_ok-encode.ensures.fits, c.len.ensures), is_utf8-from_IsUtf8 (string_bytes c.args.self.now) (IsUtf8-string_bytes c.args.self.now))

use Rattle.std.proofs.Common.{◌≡◌, ap, ◌∙◌}
use Rattle.std.proofs.lemmas.Bool.{false≢true}
use Rattle.std.specs.String.{string_bytes}
use Rattle.std.proofs.lemmas.Str.{IsUtf8-string_bytes, is_utf8-from_IsUtf8}
use Rattle.triple_arena_snapshot.proofs.Text.{text_read, text_refused, fails_test}
use Rattle.triple_arena_snapshot.proofs.containers.StringCodec.decode.Goals as goal

pub returns-in-Ok : goal.returns-in-Ok
returns-in-Ok c =
    let e : string_bytes c.in-Ok.text ≡ c.in_ok-front.front.now = ap (λ v. v.items) c.in-Ok.ensures.ok ∙ c.in_ok-from_slice.ensures.items in
    record { read = rw e (text_read c.args.bytes.now c.in_ok-count.count c.in_ok-count.rest.now c.in_ok-front.front.now c.in_ok-front.behind.now c.in_ok-count.ensures.read c.in_ok-front.ensures.read (rw (← e) (is_utf8-from_IsUtf8 (string_bytes c.in-Ok.text) (IsUtf8-string_bytes c.in-Ok.text)))); memory = tt }

pub returns : goal.returns
returns c =
    record { read = text_refused c.args.bytes.now c.in_ok-count.count c.in_ok-count.rest.now c.in_ok-front.front.now c.in_ok-front.behind.now c.in_ok-count.ensures.read c.in_ok-front.ensures.read (fails_test c.in_ok-front.front.now (λ u. false≢true (c.in-Err.ensures.succeeds (rw c.in_ok-from_slice.ensures.items u)))); memory = tt }

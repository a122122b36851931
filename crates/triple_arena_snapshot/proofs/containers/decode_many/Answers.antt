use Rattle.std.proofs.Common.{◌≡◌, ◌++◌, ◌∷◌, [], map}
use Rattle.std.proofs.lemmas.Result.{err_from_is_err_and}
use Rattle.std.proofs.lemmas.List.{map_push}
use Rattle.triple_arena_snapshot.specs.Codings.{many_at_front}
use Rattle.triple_arena_snapshot.proofs.Loop.{goes_on, ends, is_done}
use Rattle.triple_arena_snapshot.proofs.containers.decode_many.Goals as goal

pub returns-in_err-value : goal.returns-in_err-value
returns-in_err-value g c =
    let p = err_from_is_err_and c.from_residual.result c.from_residual.ensures.1 in
    let decoding = g.T.Codec.coding.decoding in
    rw (p.1, p.2) (ends decoding c.in_err-value.field-0.0 (map g.T.Codec.content c.loop.values.items) c.args.count c.loop.counter c.loop.rest.now (many_at_front decoding c.args.count c.args.bytes.now) c.loop-test.true c.in_err-value.ensures.read c.loop.invariant)

pub loop-preserved : goal.loop-preserved
loop-preserved g c =
    let decoding = g.T.Codec.coding.decoding in
    let content = g.T.Codec.content in
    let x = c.in_ok-value.value in
    let e : map content c.push.new.self.items ≡ map content c.loop.values.items ++ content x ∷ [] = rw c.in_ok-push.ensures.items (map_push _ c.loop.values.items x) in
    rw e (goes_on decoding (map content c.loop.values.items) c.args.count c.loop.counter c.loop.rest.now (content x) c.in_ok-value.after.now (many_at_front decoding c.args.count c.args.bytes.now) c.loop-test.true c.in_ok-value.ensures.read c.loop.invariant)

pub returns : goal.returns
returns g c =
    let decoding = g.T.Codec.coding.decoding in
    is_done decoding (map g.T.Codec.content c.loop.values.items) c.args.count c.loop.counter c.loop.rest.now (many_at_front decoding c.args.count c.args.bytes.now) c.loop-test.false c.loop.invariant

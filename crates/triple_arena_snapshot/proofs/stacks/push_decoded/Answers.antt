use Rattle.std.proofs.Common.{◌≡◌, ◌++◌, ◌∷◌, [], map, length, ap, ◌∙◌, arith}
use Rattle.std.proofs.lemmas.Result.{err_from_is_err_and}
use Rattle.std.proofs.lemmas.List.{map_push, length_push}
use Rattle.triple_arena_snapshot.specs.Codings.{many_at_front}
use Rattle.triple_arena_snapshot.proofs.Loop.{goes_on, ends, is_done}
use Rattle.triple_arena_snapshot.proofs.stacks.push_decoded.Goals as goal

pub returns-in_err-item-clause-read : goal.returns-in_err-item-clause-read
returns-in_err-item-clause-read g c =
    let p = err_from_is_err_and c.from_residual.result c.from_residual.ensures.1 in
    let decoding = g.X.Codec.coding.decoding in
    let front = map g.X.Codec.content (g.S.NonZeroInxGenericStack.items c.loop.stack) in
    rw (p.1, p.2) (ends decoding c.in_err-item.field-0.0 front c.args.count c.loop.counter c.loop.rest.now (many_at_front decoding c.args.count c.args.bytes.now) c.loop-test.true c.in_err-item.ensures.read c.loop.invariant.read)

pub loop-preserved : goal.loop-preserved
loop-preserved g c =
    let decoding = g.X.Codec.coding.decoding in
    let content = g.X.Codec.content in
    let items = g.S.NonZeroInxGenericStack.items c.loop.stack in
    let x = c.in_ok-item.item in
    let pushed = c.in-Ok.ensures.items in
    let e : map content (g.S.NonZeroInxGenericStack.items c.push.new.self) ≡ map content items ++ content x ∷ [] = ap (map content) pushed ∙ map_push content items x in
    record {
      read = rw e (goes_on decoding (map content items) c.args.count c.loop.counter c.loop.rest.now (content x) c.in_ok-item.after.now (many_at_front decoding c.args.count c.args.bytes.now) c.loop-test.true c.in_ok-item.ensures.read c.loop.invariant.read);
      many = omega (arith, ap length pushed, length_push items x, c.loop.invariant.many);
      within = omega (arith, c.loop-test.true);
      limit = c.push.ensures.limit ∙ c.loop.invariant.limit;
    }

pub returns-clause-read : goal.returns-clause-read
returns-clause-read g c =
    let decoding = g.X.Codec.coding.decoding in
    is_done decoding (map g.X.Codec.content (g.S.NonZeroInxGenericStack.items c.loop.stack)) c.args.count c.loop.counter c.loop.rest.now (many_at_front decoding c.args.count c.args.bytes.now) c.loop-test.false c.loop.invariant.read

pub returns-clause-many : goal.returns-clause-many
returns-clause-many g c = omega (arith, c.loop.invariant.many, c.loop.invariant.within, c.loop-test.false)

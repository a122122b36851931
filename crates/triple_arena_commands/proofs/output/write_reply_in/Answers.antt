use Rattle.std.proofs.Common.{◌≡◌, ◌-◌, [], ◌∷◌, ◌++◌, take, drop, OnErr, subst, ap, ◌∙◌, arith, take_all, length-drop}
use Rattle.triple_arena_commands.specs.ReplyText.{reply_line}
use Rattle.triple_arena_commands.specs.TextRun.{AppendsCut}
use Rattle.triple_arena_commands.proofs.output.write_reply_in.Goals as goal

pub returns-in-Ok-clause-err : goal.returns-in-Ok-clause-err
returns-in-Ok-clause-err g c =
    let start = c.put_line-start.result in
    let room = c.put_line-start.new.room in
    let left = length-drop start room in
    let long = c.put_line-start.array_long in
    let whole : take (70 - start) (drop start room) ≡ drop start room = take_all (70 - start) (drop start room) (omega (arith, left, long)) in
    let same : take (70 - start) (drop start room) ≡ reply_line c.args.reply.now = whole ∙ c.put_line-start.ensures.line ∙ ap (λ text. text ++ 10 ∷ []) c.in-Ok.ensures.text in
    subst (λ l. OnErr c.write_line.result (AppendsCut (g.W.Write.contents c.args.output.now) (g.W.Write.contents c.write_line.new.output) [] l)) same c.write_line.ensures.err

use Rattle.std.proofs.Common.{◌+◌, ◌-◌, ◌<◌, ◌∷◌, length, take, drop, sym, ap, ◌∙◌, arith, ne_eqb, take_all, length-drop}
use Rattle.triple_arena_commands.specs.Lines.{words_of}
use Rattle.triple_arena_commands.proofs.FirstWords.{ends_with_line, ends_at_space, ends_later}
use Rattle.triple_arena_commands.proofs.words.after_word.Goals as goal

pub returns-then-size-line-clause-some : goal.returns-then-size-line-clause-some
returns-then-size-line-clause-some c = ends_with_line c.args.line.now c.args.size c.if-size-line.true c.requires.1

pub returns-then-line-size-eq32-clause-some : goal.returns-then-line-size-eq32-clause-some
returns-then-line-size-eq32-clause-some c =
    let line = c.args.line.now in
    let size = c.args.size in
    let left = length-drop (size + 1) line in
    let whole = take_all (length line - (size + 1)) (drop (size + 1) line) (omega (arith, left)) in
    ends_at_space line size (omega (arith, c.requires.0, c.if-size-line.false)) c.if-line-size-eq32.true c.requires.1
    ∙ ap (λ rest. take size line ∷ words_of rest) (sym whole)

pub returns-else-line-size-eq32-clause-none : goal.returns-else-line-size-eq32-clause-none
returns-else-line-size-eq32-clause-none c =
    let within : c.args.size < length c.args.line.now = omega (arith, c.requires.0, c.if-size-line.false) in
    let on = ends_later c.args.line.now c.args.size within (ne_eqb _ 32 c.if-line-size-eq32.false) c.requires.1 in
    (on.0, on.1, within, on.2)

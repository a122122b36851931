use Rattle.std.proofs.Common.{rules, ◌≡◌, ℕ, List, [], ◌∷◌, ◌++◌, length, drop, slice_set, sym, ap, ◌∙◌, arith, append_assoc, drop_of_length-le}
use Rattle.std.proofs.lemmas.List.{drop-set}
use Rattle.triple_arena_commands.specs.ReplyText.{wrapped_text}
use Rattle.triple_arena_commands.specs.ReplyParts.{numbers_text}
use Rattle.triple_arena_commands.proofs.reply_line.put_line.Goals as goal

last_byte : (room : List ℕ) (b : ℕ) → length room ≡ 70 → drop 69 (slice_set room 69 b) ≡ b ∷ []
last_byte room b long =
    drop-set room 69 b (omega (arith, long)) ∙ ap (λ rest. b ∷ rest) (drop_of_length-le room {i = 70} (omega (arith, long)))

pub returns-clause-line : goal.returns-clause-line
returns-clause-line c =
    let word = c.args.parts.0.now in
    let numbers = numbers_text c.args.parts.1 in
    let wrapped = wrapped_text c.args.parts.2 in
    let long : length c.args.room.now ≡ 70 = search rules in
    let end = last_byte c.args.room.now 10 long in
    c.put.ensures.put
    ∙ ap (λ l. word ++ l) (c.put_numbers-end.ensures.put ∙ ap (λ l. numbers ++ l) (c.put_wrapped-end.ensures.put ∙ ap (λ l. wrapped ++ l) end))
    ∙ sym (append_assoc (word ++ numbers) wrapped (10 ∷ []) ∙ append_assoc word numbers (wrapped ++ 10 ∷ []))

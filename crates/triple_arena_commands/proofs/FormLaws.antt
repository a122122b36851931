-- The command of a line and the forms of lines agree.
use Rattle.std.proofs.Common.{◌≡◌, ℕ, ◌^◌, ◌<◌, Bool, true, false, cond, List, [], ◌∷◌, ◌++◌, Option, None, Some, sym, ◌∙◌, ap, refl, subst, arith, inl, inr, length, append_assoc}
use Rattle.std.specs.Prelude.{codes, ◌⊎◌, ◌==◌, not, All, Contains}
use Rattle.std.specs.Option.{option_map, option_and_then}
use Rattle.std.specs.Char.{is_ascii_digit}
use Rattle.std.specs.List.{list_all, slice_split, onto_first, join_with_byte}
use Rattle.std.specs.Str.{bytes_eq}
use Rattle.std.specs.Str.Parse.{AllDigits, digits_value}
use Rattle.std.proofs.lemmas.Slice.Eq.{bytes_eq-Decides}
use Rattle.std.proofs.lemmas.List.Elements.{All-nil, All-cons, All-head, All-tail, All-contains}
use Rattle.std.proofs.lemmas.List.Splits.{join_with_byte-slice_split, slice_split_at, slice_split_none, slice_split-cons_yes, slice_split-cons_no}
use Rattle.std.proofs.lemmas.Str.Parse.{tells_digits}
use Rattle.std.proofs.lemmas.Bool.Decides.{nat_tests}
use Rattle.triple_arena_commands.specs.declared.command.Command.{Command}
use Rattle.triple_arena_commands.specs.declared.command.Command.TheVariants.{Insert, InsertWithin, Get, Set, Remove, Invalidate, Clear, Compact, Len, Capacity, Reserve, Show}
use Rattle.triple_arena_commands.specs.Lines.{words_of}
use Rattle.triple_arena_commands.specs.CommandText.{command_of_words, command_of, number_of, link_of, bare_of, numbered, linked, numbered_of, insert_of}
use Rattle.triple_arena_commands.specs.Forms.{WritesNumber, WritesLink, IsNumbered, HasLink, HasForm, FormsAreExact, LinesAreExact}

true_or_false : (b : Bool) → (b ≡ true) ⊎ (b ≡ false)
true_or_false true = inl refl
true_or_false false = inr refl

is_text : (word text : List ℕ) → bytes_eq word text ≡ true → word ≡ text
is_text word text holds = (bytes_eq-Decides word text).0 holds

-- ---- numbers and links

AllDigits-is : (ds : List ℕ) → list_all is_ascii_digit ds ≡ true → AllDigits 10 ds
AllDigits-is [] all = tt
AllDigits-is (d ∷ ds) all =
    let parts : (is_ascii_digit d ≡ true) × (list_all is_ascii_digit ds ≡ true) = grind (arith, nat_tests, all) in
    tells_digits.more d ds (grind (arith, nat_tests, parts.0)) (AllDigits-is ds parts.1)

list_all-digits : (ds : List ℕ) → AllDigits 10 ds → list_all is_ascii_digit ds ≡ true
list_all-digits [] all = refl
list_all-digits (d ∷ ds) all =
    let parts = tells_digits.parts d ds all in
    let rest = list_all-digits ds all.1 in
    grind (arith, nat_tests, parts.0, rest)

pub number_of-is : (word : List ℕ) (n : ℕ) → number_of word ≡ Some n → WritesNumber word n
number_of-is word n e =
    let parts : (list_all is_ascii_digit word ≡ true) × (0 < length word) × (digits_value 10 word < 2 ^ 64) × (digits_value 10 word ≡ n) = grind (arith, nat_tests, e) in
    ((parts.1, AllDigits-is word parts.0), parts.3, subst (λ x. x < 2 ^ 64) parts.3 parts.2)

pub number_of-from : (word : List ℕ) (n : ℕ) → WritesNumber word n → number_of word ≡ Some n
number_of-from word n is =
    let all = list_all-digits word is.0.1 in
    grind (arith, nat_tests, all, is.0.0, is.1, is.2)

link-cases : (dash : Bool) (number : Option ℕ) (link : Option ℕ) → cond dash (Some None) (option_map Some number) ≡ Some link
    → ((dash ≡ true) × (None ≡ link)) ⊎ ((n : ℕ) × (number ≡ Some n) × (Some n ≡ link))
link-cases true number link e = inl (refl, cc)
link-cases false None link e = cc
link-cases false (Some n) link e = inr (n, refl, cc)

pub link_of-is : (word : List ℕ) (link : Option ℕ) → link_of word ≡ Some link → WritesLink word link
link_of-is word link e =
    elim (link-cases (bytes_eq word (codes "-")) (number_of word) link e) [
      | inl none ↦ subst (WritesLink word) none.1 (is_text word (codes "-") none.0)
      | inr some ↦ subst (WritesLink word) some.2 (number_of-is word some.0 some.1)
    ]

not_dash : (word : List ℕ) (n : ℕ) → WritesNumber word n → bytes_eq word (codes "-") ≡ false
not_dash word n is =
    elim (true_or_false (bytes_eq word (codes "-"))) [
      | inl holds ↦ let all : AllDigits 10 (codes "-") = subst (AllDigits 10) (is_text word (codes "-") holds) is.0.1 in absurd (omega arith)
      | inr fails ↦ fails
    ]

link_of-from : (word : List ℕ) (link : Option ℕ) → WritesLink word link → link_of word ≡ Some link
link_of-from word None is = rw is refl
link_of-from word (Some name) is = rw (not_dash word name is, number_of-from word name is) refl

-- ---- the words of a line that has a form

abbrev no_space : List ℕ → Type 0
no_space word = All (λ b. (b == 32) ≡ false) word

digits_no_space : (ds : List ℕ) → AllDigits 10 ds → no_space ds
digits_no_space [] all = All-nil (λ b. (b == 32) ≡ false)
digits_no_space (d ∷ ds) all =
    let digit = (tells_digits.parts d ds all).0 in
    All-cons (λ b. (b == 32) ≡ false) d ds (grind (arith, nat_tests, digit)) (digits_no_space ds all.1)

abbrev is_verb : List ℕ → Bool
is_verb verb = list_all (λ b. not (b == 32)) verb

verb_no_space : (verb : List ℕ) → is_verb verb ≡ true → no_space verb
verb_no_space [] all = All-nil (λ b. (b == 32) ≡ false)
verb_no_space (b ∷ bs) all =
    let parts : ((b == 32) ≡ false) × (is_verb bs ≡ true) = grind (arith, nat_tests, all) in
    All-cons (λ b. (b == 32) ≡ false) b bs parts.0 (verb_no_space bs parts.1)

pub words_of-number : (word : List ℕ) (n : ℕ) → WritesNumber word n → words_of word ≡ word ∷ []
words_of-number word n is = slice_split_none (λ b. b == 32) word (digits_no_space word is.0.1)

pub words_of-link : (word : List ℕ) (link : Option ℕ) → WritesLink word link → words_of word ≡ word ∷ []
words_of-link word None is = rw is refl
words_of-link word (Some name) is = words_of-number word name is

words_of-more : (word : List ℕ) (n : ℕ) (rest : List ℕ) → WritesNumber word n → words_of (word ++ 32 ∷ rest) ≡ word ∷ words_of rest
words_of-more word n rest is = slice_split_at (λ b. b == 32) word 32 rest (digits_no_space word is.0.1) refl

words_of-bare : (verb : List ℕ) → is_verb verb ≡ true → words_of verb ≡ verb ∷ []
words_of-bare verb ok = slice_split_none (λ b. b == 32) verb (verb_no_space verb ok)

words_of-verb : (verb rest : List ℕ) → is_verb verb ≡ true → words_of (verb ++ 32 ∷ rest) ≡ verb ∷ words_of rest
words_of-verb verb rest ok = slice_split_at (λ b. b == 32) verb 32 rest (verb_no_space verb ok) refl

with_space : (verb word : List ℕ) → verb ++ codes " " ++ word ≡ verb ++ (32 ∷ word)
with_space verb word = simp append_assoc

with_spaces : (verb first second : List ℕ) → verb ++ codes " " ++ first ++ codes " " ++ second ≡ verb ++ (32 ∷ (first ++ 32 ∷ second))
with_spaces verb first second = simp append_assoc

set_spaced : (name rest : List ℕ) → (codes "set " ++ name) ++ rest ≡ codes "set" ++ (32 ∷ (name ++ rest))
set_spaced name rest = simp append_assoc

words_of-two : (datum link : List ℕ) (n : ℕ) (l : Option ℕ) → WritesNumber datum n → WritesLink link l → words_of (datum ++ 32 ∷ link) ≡ datum ∷ link ∷ []
words_of-two datum link n l number is = words_of-more datum n link number ∙ ap (λ z. datum ∷ z) (words_of-link link l is)

words_of-numbered : (verb line word : List ℕ) (n : ℕ) → is_verb verb ≡ true → line ≡ verb ++ codes " " ++ word → WritesNumber word n → words_of line ≡ verb ∷ word ∷ []
words_of-numbered verb line word n ok e number =
    ap words_of (e ∙ with_space verb word) ∙ words_of-verb verb word ok ∙ ap (λ z. verb ∷ z) (words_of-number word n number)

words_of-linked : (verb line datum link : List ℕ) (n : ℕ) (l : Option ℕ) → is_verb verb ≡ true → line ≡ verb ++ codes " " ++ datum ++ codes " " ++ link → WritesNumber datum n → WritesLink link l → words_of line ≡ verb ∷ datum ∷ link ∷ []
words_of-linked verb line datum link n l ok e number is =
    ap words_of (e ∙ with_spaces verb datum link) ∙ words_of-verb verb (datum ++ 32 ∷ link) ok ∙ ap (λ z. verb ∷ z) (words_of-two datum link n l number is)

words_of-set : (line name datum link : List ℕ) (k n : ℕ) (l : Option ℕ) → line ≡ (codes "set " ++ name) ++ codes " " ++ datum ++ codes " " ++ link → WritesNumber name k → WritesNumber datum n → WritesLink link l → words_of line ≡ codes "set" ∷ name ∷ datum ∷ link ∷ []
words_of-set line name datum link k n l e named number is =
    ap words_of (e ∙ with_spaces (codes "set " ++ name) datum link ∙ set_spaced name (32 ∷ (datum ++ 32 ∷ link)))
    ∙ words_of-verb (codes "set") (name ++ 32 ∷ (datum ++ 32 ∷ link)) refl
    ∙ ap (λ z. codes "set" ∷ z) (words_of-more name k (datum ++ 32 ∷ link) named)
    ∙ ap (λ z. codes "set" ∷ name ∷ z) (words_of-two datum link n l number is)

-- ---- the forms

-- the first of two choices, or the other
pick : {A : Type 0} {rest : Option A} (Holds : A → Type 0) (b : Bool) (x c : A) → cond b (Some x) rest ≡ Some c → (b ≡ true → Holds x) → (rest ≡ Some c → Holds c) → Holds c
pick Holds true x c e here there = let same : x ≡ c = cc in subst Holds same (here refl)
pick Holds false x c e here there = there e

no_choice : {A : Type 0} (Holds : A → Type 0) (c : A) → None ≡ Some c → Holds c
no_choice Holds c e = absurd (cc)

-- what was made of a value that is there
made_of : {A B : Type 0} (f : A → Option B) (o : Option A) (c : B) → option_and_then f o ≡ Some c → (x : A) × (o ≡ Some x) × (f x ≡ Some c)
made_of f None c e = absurd (cc)
made_of f (Some x) c e = (x, refl, e)

abbrev joined : List (List ℕ) → List ℕ
joined words = join_with_byte 32 words

bare-is : (x : List ℕ) (command : Command ℕ) → bare_of x ≡ Some command → HasForm x command
bare-is x command e =
    pick (HasForm x) (bytes_eq x (codes "clear")) Clear command e (is_text x (codes "clear"))
    (λ e. pick (HasForm x) (bytes_eq x (codes "compact")) Compact command e (is_text x (codes "compact"))
    (λ e. pick (HasForm x) (bytes_eq x (codes "len")) Len command e (is_text x (codes "len"))
    (λ e. pick (HasForm x) (bytes_eq x (codes "capacity")) Capacity command e (is_text x (codes "capacity"))
    (λ e. pick (HasForm x) (bytes_eq x (codes "show")) Show command e (is_text x (codes "show")) (no_choice (HasForm x) command)))))

has_verb : (x y verb : List ℕ) → bytes_eq x verb ≡ true → joined (x ∷ y ∷ []) ≡ verb ++ codes " " ++ y
has_verb x y verb is = ap (λ z. joined (z ∷ y ∷ [])) (is_text x verb is) ∙ sym (with_space verb y)

numbered-is : (x y : List ℕ) (n : ℕ) (command : Command ℕ) → WritesNumber y n → numbered x n ≡ Some command → HasForm (joined (x ∷ y ∷ [])) command
numbered-is x y n command writes e =
    pick (HasForm (joined (x ∷ y ∷ []))) (bytes_eq x (codes "get")) (Get n) command e (λ is. (y, has_verb x y (codes "get") is, writes))
    (λ e. pick (HasForm (joined (x ∷ y ∷ []))) (bytes_eq x (codes "remove")) (Remove n) command e (λ is. (y, has_verb x y (codes "remove") is, writes))
    (λ e. pick (HasForm (joined (x ∷ y ∷ []))) (bytes_eq x (codes "invalidate")) (Invalidate n) command e (λ is. (y, has_verb x y (codes "invalidate") is, writes))
    (λ e. pick (HasForm (joined (x ∷ y ∷ []))) (bytes_eq x (codes "reserve")) (Reserve n) command e (λ is. (y, has_verb x y (codes "reserve") is, writes)) (no_choice (HasForm (joined (x ∷ y ∷ []))) command))))

has_link : (x y z verb : List ℕ) → bytes_eq x verb ≡ true → joined (x ∷ y ∷ z ∷ []) ≡ verb ++ codes " " ++ y ++ codes " " ++ z
has_link x y z verb is = ap (λ w. joined (w ∷ y ∷ z ∷ [])) (is_text x verb is) ∙ sym (with_spaces verb y z)

linked-is : (x y z : List ℕ) (n : ℕ) (l : Option ℕ) (command : Command ℕ) → WritesNumber y n → WritesLink z l → linked x n l ≡ Some command → HasForm (joined (x ∷ y ∷ z ∷ [])) command
linked-is x y z n l command number link e =
    pick (HasForm (joined (x ∷ y ∷ z ∷ []))) (bytes_eq x (codes "insert")) (Insert n l) command e (λ is. (y, z, has_link x y z (codes "insert") is, number, link))
    (λ e. pick (HasForm (joined (x ∷ y ∷ z ∷ []))) (bytes_eq x (codes "within")) (InsertWithin n l) command e (λ is. (y, z, has_link x y z (codes "within") is, number, link)) (no_choice (HasForm (joined (x ∷ y ∷ z ∷ []))) command))

has_set : (x k y z : List ℕ) → bytes_eq x (codes "set") ≡ true → joined (x ∷ k ∷ y ∷ z ∷ []) ≡ (codes "set " ++ k) ++ codes " " ++ y ++ codes " " ++ z
has_set x k y z is =
    ap (λ w. joined (w ∷ k ∷ y ∷ z ∷ [])) (is_text x (codes "set") is) ∙ sym (with_spaces (codes "set " ++ k) y z ∙ set_spaced k (32 ∷ (y ++ 32 ∷ z)))

command_of_words-is : (words : List (List ℕ)) (command : Command ℕ) → command_of_words words ≡ Some command → HasForm (joined words) command
command_of_words-is [] command e = cc
command_of_words-is (x ∷ []) command e = bare-is x command e
command_of_words-is (x ∷ y ∷ []) command e =
    let n = made_of (numbered x) (number_of y) command e in
    numbered-is x y n.0 command (number_of-is y n.0 n.1) n.2
command_of_words-is (x ∷ y ∷ z ∷ []) command e =
    let n = made_of (λ d. option_and_then (linked x d) (link_of z)) (number_of y) command e in
    let l = made_of (linked x n.0) (link_of z) command n.2 in
    linked-is x y z n.0 l.0 command (number_of-is y n.0 n.1) (link_of-is z l.0 l.1) l.2
command_of_words-is (x ∷ k ∷ y ∷ z ∷ []) command e =
    let m = made_of (λ a. option_and_then (λ d. option_and_then (λ l. cond (bytes_eq x (codes "set")) (Some (Set a d l)) None) (link_of z)) (number_of y)) (number_of k) command e in
    let n = made_of (λ d. option_and_then (λ l. cond (bytes_eq x (codes "set")) (Some (Set m.0 d l)) None) (link_of z)) (number_of y) command m.2 in
    let l = made_of (λ l. cond (bytes_eq x (codes "set")) (Some (Set m.0 n.0 l)) None) (link_of z) command n.2 in
    pick (HasForm (joined (x ∷ k ∷ y ∷ z ∷ []))) (bytes_eq x (codes "set")) (Set m.0 n.0 l.0) command l.2
    (λ is. (k, (y, z, has_set x k y z is, number_of-is y n.0 n.1, link_of-is z l.0 l.1), number_of-is k m.0 m.1)) (no_choice (HasForm (joined (x ∷ k ∷ y ∷ z ∷ []))) command)
command_of_words-is (x ∷ k ∷ y ∷ z ∷ w ∷ words) command e = cc

bare-from : (line verb : List ℕ) → is_verb verb ≡ true → line ≡ verb → command_of line ≡ bare_of verb
bare-from line verb ok e = ap command_of e ∙ ap command_of_words (words_of-bare verb ok)

numbered-from : (line verb : List ℕ) (n : ℕ) → is_verb verb ≡ true → IsNumbered line verb n → command_of line ≡ numbered verb n
numbered-from line verb n ok (a, e, number) =
    ap command_of_words (words_of-numbered verb line a n ok e number) ∙ ap (numbered_of verb) (number_of-from a n number)

linked-from : (line verb : List ℕ) (n : ℕ) (l : Option ℕ) → is_verb verb ≡ true → HasLink line verb n l → command_of line ≡ linked verb n l
linked-from line verb n l ok (a, b, e, number, is) =
    ap command_of_words (words_of-linked verb line a b n l ok e number is) ∙ ap (λ o. insert_of verb o (link_of b)) (number_of-from a n number) ∙ ap (λ o. insert_of verb (Some n) o) (link_of-from b l is)

command_of-from : (line : List ℕ) (command : Command ℕ) → HasForm line command → command_of line ≡ Some command
command_of-from line (Insert datum link) form = linked-from line (codes "insert") datum link refl form
command_of-from line (InsertWithin datum link) form = linked-from line (codes "within") datum link refl form
command_of-from line (Get name) form = numbered-from line (codes "get") name refl form
command_of-from line (Set name datum link) (k, (a, b, e, number, is), named) =
    ap command_of_words (words_of-set line k a b name datum link e named number is) ∙ rw (number_of-from k name named, number_of-from a datum number, link_of-from b link is) refl
command_of-from line (Remove name) form = numbered-from line (codes "remove") name refl form
command_of-from line (Invalidate name) form = numbered-from line (codes "invalidate") name refl form
command_of-from line Clear form = bare-from line (codes "clear") refl form
command_of-from line Compact form = bare-from line (codes "compact") refl form
command_of-from line Len form = bare-from line (codes "len") refl form
command_of-from line Capacity form = bare-from line (codes "capacity") refl form
command_of-from line (Reserve number) form = numbered-from line (codes "reserve") number refl form
command_of-from line Show form = bare-from line (codes "show") refl form

pub forms : FormsAreExact
forms line command = (
  λ e. subst (λ z. HasForm z command) (join_with_byte-slice_split 32 line) (command_of_words-is (words_of line) command e),
  command_of-from line command,
)

-- ---- lines

abbrev lacks : (ℕ → Bool) → List ℕ → Type 0
lacks p part = All (λ x. p x ≡ false) part

apart-onto : (p : ℕ → Bool) (x : ℕ) (parts : List (List ℕ)) → p x ≡ false → All (lacks p) parts → All (lacks p) (onto_first x parts)
apart-onto p x [] is all = All-cons (lacks p) (x ∷ []) [] (All-cons (λ y. p y ≡ false) x [] is (All-nil (λ y. p y ≡ false))) (All-nil (lacks p))
apart-onto p x (part ∷ parts) is all =
    All-cons (lacks p) (x ∷ part) parts (All-cons (λ y. p y ≡ false) x part is (All-head (lacks p) part parts all)) (All-tail (lacks p) part parts all)

apart : (p : ℕ → Bool) (xs : List ℕ) → All (lacks p) (slice_split p xs)
apart p [] = All-cons (lacks p) [] [] (All-nil (λ x. p x ≡ false)) (All-nil (lacks p))
apart p (x ∷ xs) =
    elim (true_or_false (p x)) [
      | inl is ↦ subst (All (lacks p)) (sym (slice_split-cons_yes p x xs is)) (All-cons (lacks p) [] (slice_split p xs) (All-nil (λ y. p y ≡ false)) (apart p xs))
      | inr is ↦ subst (All (lacks p)) (sym (slice_split-cons_no p x xs is)) (apart-onto p x (slice_split p xs) is (apart p xs))
    ]

lacks-is : (part : List ℕ) → lacks (λ b. b == 10) part → ¬ (Contains part 10)
lacks-is part lack has = let found = All-contains (λ x. (x == 10) ≡ false) part 10 lack has in cc

pub lines : LinesAreExact
lines text = (join_with_byte-slice_split 10 text, λ k d h. lacks-is _ (apart (λ b. b == 10) text k d h))

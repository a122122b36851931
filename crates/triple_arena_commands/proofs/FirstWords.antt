-- The first word of a line, by the bytes at the front, and what commands make of it.
use Rattle.std.proofs.Common.{◌≡◌, ℕ, ◌+◌, ◌-◌, ◌*◌, ◌^◌, ◌<◌, ◌≤◌, Bool, true, false, cond, List, [], ◌∷◌, ◌++◌, Option, None, Some, suc, length, take, drop, slice_index, sym, ap, ◌∙◌, refl, subst, arith, nat_eq, take_all, take-append-drop, length-take-le, true≢false}
use Rattle.std.specs.Prelude.{◌≢◌, codes, ◌||◌}
use Rattle.std.specs.Option.{option_map, option_and_then}
use Rattle.std.specs.Char.{is_ascii_digit, digit_value}
use Rattle.std.specs.Int.{IsInRange}
use Rattle.std.specs.List.{list_any, onto_first, join_with_byte}
use Rattle.std.specs.Str.{bytes_eq}
use Rattle.std.specs.Str.Parse.{AllDigits, digits_value}
use Rattle.std.proofs.Math.Nat.{pow-le-pow_right}
use Rattle.std.proofs.Math.Seq.{split_at, take-append_seam}
use Rattle.std.proofs.lemmas.Bool.Decides.{nat_tests}
use Rattle.std.proofs.lemmas.Int.Digits.{digits_more, digits_value_more, digits_value-lt}
use Rattle.std.proofs.lemmas.List.Splits.{slice_split-cons_no, join_with_byte-slice_split}
use Rattle.std.proofs.lemmas.Slice.Eq.{bytes_eq-Decides}
use Rattle.std.proofs.lemmas.Str.{digit_value_digit}
use Rattle.std.proofs.lemmas.Str.Parse.{tells_digits, digits_value-take-le}
use Rattle.triple_arena_commands.specs.declared.command.Command.{Command}
use Rattle.triple_arena_commands.specs.declared.command.Command.TheVariants.{Insert, Get, Set, Remove}
use Rattle.triple_arena_commands.specs.Lines.{words_of}
use Rattle.triple_arena_commands.specs.CommandText.{number_of, link_of, linked, numbered, numbered_of, insert_of, set_of, command_of_words, command_of}
use Rattle.triple_arena_commands.specs.Forms.{WritesNumber}
use Rattle.triple_arena_commands.specs.Words.{FirstIsNone}
use Rattle.triple_arena_commands.proofs.FormLaws.{number_of-is, number_of-from, link_of-is, words_of-number, words_of-link}
use Rattle.triple_arena_commands.proofs.Splits.{parts-some}

abbrev is_space : ℕ → Bool
is_space byte = nat_eq byte 32

-- ---- where a word ends

apart : (b : ℕ) (bs : List ℕ) → list_any is_space (b ∷ bs) ≡ false → (is_space b ≡ false) × (list_any is_space bs ≡ false)
apart b bs none = by (is_space b) refl
  where
    by : (t : Bool) → is_space b ≡ t → (is_space b ≡ false) × (list_any is_space bs ≡ false)
    by true e = absurd (true≢false (sym (ap (λ t. t || list_any is_space bs) e) ∙ none))
    by false e = (e, sym (ap (λ t. t || list_any is_space bs) e) ∙ none)

all_of : (bs : List ℕ) → list_any is_space bs ≡ false → words_of bs ≡ bs ∷ []
all_of [] none = refl
all_of (b ∷ bs) none =
    let parts = apart b bs none in
    slice_split-cons_no is_space b bs parts.0 ∙ ap (onto_first b) (all_of bs parts.1)

front_of : (bs rest : List ℕ) → list_any is_space bs ≡ false → words_of (bs ++ 32 ∷ rest) ≡ bs ∷ words_of rest
front_of [] rest none = refl
front_of (b ∷ bs) rest none =
    let parts = apart b bs none in
    slice_split-cons_no is_space b (bs ++ 32 ∷ rest) parts.0 ∙ ap (onto_first b) (front_of bs rest parts.1)

abbrev GoesOn : List ℕ → List ℕ → Type 0
GoesOn line front = (more : List ℕ) × (words : List (List ℕ)) × (words_of line ≡ (front ++ more) ∷ words)

-- the bytes at the front stand in the first word
pub goes_on : (bs rest : List ℕ) → list_any is_space bs ≡ false → GoesOn (bs ++ rest) bs
goes_on [] rest none = parts-some is_space rest
goes_on (b ∷ bs) rest none =
    let parts = apart b bs none in
    let on = goes_on bs rest parts.1 in
    (on.0, on.1, slice_split-cons_no is_space b (bs ++ rest) parts.0 ∙ ap (onto_first b) on.2)

past : (bs : List ℕ) (other : ℕ) (rest : List ℕ) → list_any is_space bs ≡ false → is_space other ≡ false
    → (more : List ℕ) × (words : List (List ℕ)) × (words_of (bs ++ other ∷ rest) ≡ (bs ++ other ∷ more) ∷ words)
past [] other rest none isnt =
    let on = parts-some is_space rest in
    (on.0, on.1, slice_split-cons_no is_space other rest isnt ∙ ap (onto_first other) on.2)
past (b ∷ bs) other rest none isnt =
    let parts = apart b bs none in
    let on = past bs other rest parts.1 isnt in
    (on.0, on.1, slice_split-cons_no is_space b (bs ++ other ∷ rest) parts.0 ∙ ap (onto_first b) on.2)

pub ends_with_line : (line : List ℕ) (n : ℕ) → n ≡ length line → list_any is_space (take n line) ≡ false → words_of line ≡ take n line ∷ []
ends_with_line line n e none =
    let all : take n line ≡ line = take_all n line (omega (arith, e)) in
    subst (λ word. list_any is_space word ≡ false → words_of line ≡ word ∷ []) (sym all) (all_of line) none

pub ends_at_space : (line : List ℕ) (n : ℕ) → n < length line → slice_index line n ≡ 32 → list_any is_space (take n line) ≡ false → words_of line ≡ take n line ∷ words_of (drop (n + 1) line)
ends_at_space line n within space none =
    let on : suc n ≡ n + 1 = omega arith in
    ap words_of (split_at line n 0 within)
    ∙ ap (λ b. words_of (take n line ++ b ∷ drop (suc n) line)) space
    ∙ front_of (take n line) (drop (suc n) line) none
    ∙ ap (λ k. take n line ∷ words_of (drop k line)) on

pub ends_later : (line : List ℕ) (n : ℕ) → n < length line → is_space (slice_index line n) ≡ false → list_any is_space (take n line) ≡ false
    → (more : List ℕ) × (words : List (List ℕ)) × (words_of line ≡ (take n line ++ slice_index line n ∷ more) ∷ words)
ends_later line n within isnt none =
    let on = past (take n line) (slice_index line n) (drop (suc n) line) none isnt in
    (on.0, on.1, ap words_of (split_at line n 0 within) ∙ on.2)

-- ---- digits

pub no_space : (ds : List ℕ) → AllDigits 10 ds → list_any is_space ds ≡ false
no_space [] all = refl
no_space (d ∷ ds) all =
    let parts = tells_digits.parts d ds all in
    let here : is_space d ≡ false = grind (arith, nat_tests, parts.0) in
    ap (λ t. t || list_any is_space ds) here ∙ no_space ds parts.1

-- one more digit
pub one_more : (text : List ℕ) (count number : ℕ) → count < length text → is_ascii_digit (slice_index text count) ≡ true → AllDigits 10 (take count text) → digits_value 10 (take count text) ≡ number
    → AllDigits 10 (take (count + 1) text) × (digits_value 10 (take (count + 1) text) ≡ number * 10 + (slice_index text count - 48))
one_more text count number within digit all value =
    let b = slice_index text count in
    let range : IsInRange 48 57 b = grind (arith, nat_tests, digit) in
    let is = digit_value_digit b range in
    let below : digit_value b < 10 = omega (arith, is, range.1) in
    (digits_more 10 text count within all below, omega (arith, digits_value_more 10 text count within, value, is))

-- so few write a number that fits, with one digit more
pub nineteen_fit : (text : List ℕ) (count number : ℕ) → count ≤ length text → count < 19 → AllDigits 10 (take count text) → digits_value 10 (take count text) ≡ number → number * 10 + 9 < 2 ^ 64
nineteen_fit text count number within few all value =
    let below = digits_value-lt 10 (take count text) all in
    let long : length (take count text) ≡ count = length-take-le count text within in
    let most : 10 ^ length (take count text) ≤ 10 ^ 18 = pow-le-pow_right {n = 10} (omega arith) {j = 18} (omega (arith, long, few)) in
    omega (arith, below, most, value)

writes_none : (word : List ℕ) → ((n : ℕ) → WritesNumber word n → ⊥) → number_of word ≡ None
writes_none word isnt = by (number_of word) refl
  where
    by : (o : Option ℕ) → number_of word ≡ o → o ≡ None
    by None e = refl
    by (Some n) e = absurd (isnt n (number_of-is word n e))

-- digits alone write their value
pub is_number : (line : List ℕ) (count n : ℕ) → AllDigits 10 (take count line) → 0 < count → count ≤ length line → digits_value 10 (take count line) ≡ n → n < 2 ^ 64 → number_of (take count line) ≡ Some n
is_number line count n all some within value fits =
    let long : length (take count line) ≡ count = length-take-le count line within in
    number_of-from (take count line) n ((omega (arith, long), all), value, fits)

-- a value that is too large makes no number, whatever follows
pub is_large : (ds more : List ℕ) → 2 ^ 64 ≤ digits_value 10 ds → number_of (ds ++ more) ≡ None
is_large ds more large =
    writes_none (ds ++ more) (λ n is.
    let least : digits_value 10 (take (length ds) (ds ++ more)) ≤ digits_value 10 (ds ++ more) = digits_value-take-le 10 (ds ++ more) (length ds) (omega arith) in
    let same : digits_value 10 (take (length ds) (ds ++ more)) ≡ digits_value 10 ds = ap (digits_value 10) (take-append_seam ds more) in
    omega (arith, least, same, is.1, is.2, large))

behind : (ds es : List ℕ) → AllDigits 10 (ds ++ es) → AllDigits 10 es
behind [] es all = all
behind (d ∷ ds) es all = behind ds es all.1

-- nor does a word with another byte
pub is_other : (ds : List ℕ) (b : ℕ) (more : List ℕ) → is_ascii_digit b ≡ false → number_of (ds ++ b ∷ more) ≡ None
is_other ds b more isnt =
    writes_none (ds ++ b ∷ more) (λ n is.
    let digit = (tells_digits.parts b more (behind ds (b ∷ more) is.0.1)).0 in
    let yes : is_ascii_digit b ≡ true = grind (arith, nat_tests, digit) in
    true≢false (sym yes ∙ isnt))

-- nor one without a digit
pub no_digit : (line : List ℕ) (count : ℕ) → count ≡ 0 → (count < length line → is_ascii_digit (slice_index line count) ≡ false) → FirstIsNone number_of line
no_digit [] count none other = ([], [], refl, refl)
no_digit (b ∷ bs) count none other =
    let isnt : is_ascii_digit b ≡ false = subst (λ k. is_ascii_digit (slice_index (b ∷ bs) k) ≡ false) none (other (omega (arith, none))) in
    by (is_space b) refl isnt
  where
    by : (t : Bool) → is_space b ≡ t → is_ascii_digit b ≡ false → FirstIsNone number_of (b ∷ bs)
    by true e isnt = ([], words_of bs, ap (λ t. cond t ([] ∷ words_of bs) (onto_first b (words_of bs))) e, refl)
    by false e isnt = let on = past [] b bs refl e in (b ∷ on.0, on.1, on.2, is_other [] b on.0 isnt)

-- ---- one word

pub word_none : (word : List ℕ) (count : ℕ) → (count < length word → is_ascii_digit (slice_index word count) ≡ false) → count < length word → number_of word ≡ None
word_none word count other within =
    ap number_of (split_at word count 0 within) ∙ is_other (take count word) (slice_index word count) (drop (suc count) word) (other within)

pub word_empty : (word : List ℕ) → length word ≡ 0 → number_of word ≡ None
word_empty [] none = refl
word_empty (b ∷ bs) none = absurd (omega (arith, none))

pub word_large : (word : List ℕ) (count : ℕ) → 2 ^ 64 ≤ digits_value 10 (take count word) → number_of word ≡ None
word_large word count large = sym (ap number_of (take-append-drop count word)) ∙ is_large (take count word) (drop count word) large

pub word_is : (word : List ℕ) (count n : ℕ) → AllDigits 10 (take count word) → 0 < count → count ≡ length word → digits_value 10 (take count word) ≡ n → n < 2 ^ 64 → number_of word ≡ Some n
word_is word count n all some whole value fits =
    sym (ap number_of (take_all count word (omega (arith, whole)))) ∙ is_number word count n all some (omega (arith, whole)) value fits

pub first_large : (line : List ℕ) (count : ℕ) → AllDigits 10 (take count line) → 2 ^ 64 ≤ digits_value 10 (take count line) → FirstIsNone number_of line
first_large line count all large =
    let on = goes_on (take count line) (drop count line) (no_space (take count line) all) in
    (take count line ++ on.0, on.1, sym (ap words_of (take-append-drop count line)) ∙ on.2, is_large (take count line) on.0 large)

-- ---- links

-- what a link says of its word as a number
pub number_of-link : (word : List ℕ) (o : Option (Option ℕ)) → link_of word ≡ o → number_of word ≡ option_and_then (λ link. link) o
number_of-link word o e = by (bytes_eq word (codes "-")) refl
  where
    flat : (n : Option ℕ) → n ≡ option_and_then (λ link. link) (option_map Some n)
    flat None = refl
    flat (Some n) = refl

    by : (dash : Bool) → bytes_eq word (codes "-") ≡ dash → number_of word ≡ option_and_then (λ link. link) o
    by true dash =
        ap number_of ((bytes_eq-Decides word (codes "-")).0 dash)
        ∙ ap (option_and_then (λ link. link)) (sym (ap (λ t. cond t (Some None) (option_map Some (number_of word))) dash) ∙ e)
    by false dash =
        flat (number_of word)
        ∙ ap (option_and_then (λ link. link)) (sym (ap (λ t. cond t (Some None) (option_map Some (number_of word))) dash) ∙ e)

-- ---- what is made of a verb and the words after it

-- where a datum is due, a dash makes none
pub datum_none : (verb first word rest : List ℕ) (n : ℕ) → number_of first ≡ Some n → link_of word ≡ Some None → None ≡ command_of_words (verb ∷ first ∷ word ∷ words_of rest)
datum_none verb first word rest n is dash =
    let some = parts-some is_space rest in
    by some.0 some.1 ∙ sym (ap (λ words. command_of_words (verb ∷ first ∷ word ∷ words)) some.2)
  where
    by : (link : List ℕ) (words : List (List ℕ)) → None ≡ command_of_words (verb ∷ first ∷ word ∷ link ∷ words)
    by link [] = sym (ap (λ name. set_of verb name (number_of word) (link_of link)) is ∙ ap (λ d. set_of verb (Some n) d (link_of link)) (number_of-link word (Some None) dash))
    by link (a ∷ words) = refl

-- no command has five words
pub five_none : (verb first word last rest after : List ℕ) → words_of rest ≡ last ∷ words_of after → None ≡ command_of_words (verb ∷ first ∷ word ∷ words_of rest)
five_none verb first word last rest after e =
    let some = parts-some is_space after in
    sym (ap (λ words. command_of_words (verb ∷ first ∷ word ∷ words)) (e ∙ ap (λ words. last ∷ words) some.2))

-- ---- a verb, and a text that is its one word, or its last

alone : (text word : List ℕ) → words_of text ≡ word ∷ [] → text ≡ word
alone text word e = sym (join_with_byte-slice_split 32 text) ∙ ap (join_with_byte 32) e

-- a text of more words writes neither number nor link
more_no_number : (text first second : List ℕ) (words : List (List ℕ)) → words_of text ≡ first ∷ second ∷ words → number_of text ≡ None
more_no_number text first second words e = writes_none text (λ n is. let one = sym (words_of-number text n is) ∙ e in cc)

more_no_link : (text first second : List ℕ) (words : List (List ℕ)) → words_of text ≡ first ∷ second ∷ words → link_of text ≡ None
more_no_link text first second words e = by (link_of text) refl
  where
    by : (o : Option (Option ℕ)) → link_of text ≡ o → o ≡ None
    by None is = refl
    by (Some link) is = let one = sym (words_of-link text link (link_of-is text link is)) ∙ e in absurd (cc)

-- what another verb than `set` makes of three words, and one that takes no link of two
no_set : (verb : List ℕ) → bytes_eq verb (codes "set") ≡ false → (k d : Option ℕ) (l : Option (Option ℕ)) → None ≡ set_of verb k d l
no_set verb other None d l = refl
no_set verb other (Some k) None l = refl
no_set verb other (Some k) (Some d) None = refl
no_set verb other (Some k) (Some d) (Some l) = sym (ap (λ is. cond is (Some (Set k d l)) None) other)

no_insert : (verb : List ℕ) → ((d : ℕ) (l : Option ℕ) → linked verb d l ≡ None) → (d : Option ℕ) (l : Option (Option ℕ)) → None ≡ insert_of verb d l
no_insert verb none None l = refl
no_insert verb none (Some d) None = refl
no_insert verb none (Some d) (Some l) = sym (none d l)

-- a verb that takes a number alone
module _ (verb : List ℕ) (made : ℕ → Command ℕ) (takes : (n : ℕ) → numbered verb n ≡ Some (made n)) (none : (d : ℕ) (l : Option ℕ) → linked verb d l ≡ None) (other : bytes_eq verb (codes "set") ≡ false) where
  takes_number : (o : Option ℕ) → option_map made o ≡ numbered_of verb o
  takes_number None = refl
  takes_number (Some n) = sym (takes n)

  by_words : (text word : List ℕ) (words : List (List ℕ)) → words_of text ≡ word ∷ words → option_map made (number_of text) ≡ command_of_words (verb ∷ word ∷ words)
  by_words text word [] e = takes_number (number_of text) ∙ ap (λ w. numbered_of verb (number_of w)) (alone text word e)
  by_words text word (second ∷ []) e = ap (option_map made) (more_no_number text word second [] e) ∙ no_insert verb none (number_of word) (link_of second)
  by_words text word (second ∷ third ∷ []) e = ap (option_map made) (more_no_number text word second (third ∷ []) e) ∙ no_set verb other (number_of word) (number_of second) (link_of third)
  by_words text word (second ∷ third ∷ fourth ∷ words) e = ap (option_map made) (more_no_number text word second (third ∷ fourth ∷ words) e)

  number_after : (text : List ℕ) → option_map made (number_of text) ≡ command_of_words (verb ∷ words_of text)
  number_after text = let some = parts-some is_space text in by_words text some.0 some.1 some.2 ∙ sym (ap (λ words. command_of_words (verb ∷ words)) some.2)

pub get_line : (line text : List ℕ) → line ≡ codes "get " ++ text → option_map Get (number_of text) ≡ command_of line
get_line line text e = number_after (codes "get") Get (λ n. refl) (λ d l. refl) refl text ∙ sym (ap command_of e ∙ ap command_of_words (front_of (codes "get") text refl))

pub remove_line : (line text : List ℕ) → line ≡ codes "remove " ++ text → option_map Remove (number_of text) ≡ command_of line
remove_line line text e = number_after (codes "remove") Remove (λ n. refl) (λ d l. refl) refl text ∙ sym (ap command_of e ∙ ap command_of_words (front_of (codes "remove") text refl))

-- the datum of an insertion, and the text after it
pub link_after : (word text : List ℕ) (d : ℕ) → number_of word ≡ Some d → option_map (Insert d) (link_of text) ≡ command_of_words (codes "insert" ∷ word ∷ words_of text)
link_after word text d is =
    let some = parts-some is_space text in by some.0 some.1 some.2 ∙ sym (ap (λ words. command_of_words (codes "insert" ∷ word ∷ words)) some.2)
  where
    takes_link : (o : Option (Option ℕ)) → option_map (Insert d) o ≡ insert_of (codes "insert") (Some d) o
    takes_link None = refl
    takes_link (Some l) = refl

    by : (link : List ℕ) (words : List (List ℕ)) → words_of text ≡ link ∷ words → option_map (Insert d) (link_of text) ≡ command_of_words (codes "insert" ∷ word ∷ link ∷ words)
    by link [] e = takes_link (link_of text) ∙ ap (λ w. insert_of (codes "insert") (Some d) (link_of w)) (alone text link e) ∙ sym (ap (λ o. insert_of (codes "insert") o (link_of link)) is)
    by link (second ∷ []) e = ap (option_map (Insert d)) (more_no_link text link second [] e) ∙ no_set (codes "insert") refl (number_of word) (number_of link) (link_of second)
    by link (second ∷ third ∷ words) e = ap (option_map (Insert d)) (more_no_link text link second (third ∷ words) e)

-- ---- the verb of a line that doesn't begin with a text and a space

pub other_verb : (line text verb word : List ℕ) (words : List (List ℕ)) → ((rest : List ℕ) → line ≢ text ++ 32 ∷ rest) → words_of line ≡ verb ∷ word ∷ words → bytes_eq verb text ≡ false
other_verb line text verb word words begins e = by (bytes_eq verb text) refl
  where
    by : (same : Bool) → bytes_eq verb text ≡ same → same ≡ false
    by true same =
        let whole : line ≡ verb ++ 32 ∷ join_with_byte 32 (word ∷ words) = sym (join_with_byte-slice_split 32 line) ∙ ap (join_with_byte 32) e in
        absurd (begins (join_with_byte 32 (word ∷ words)) (whole ∙ ap (λ v. v ++ 32 ∷ join_with_byte 32 (word ∷ words)) ((bytes_eq-Decides verb text).0 same)))
    by false same = refl

-- The run of a text, line by line.
use Rattle.std.proofs.Common.{◌≡◌, ℕ, ◌+◌, ◌-◌, Bool, true, false, List, [], ◌∷◌, ◌++◌, Option, None, Some, Result, Ok, Err, length, take, drop, map, sym, ◌∙◌, ap, refl, subst, arith, slice_get, inl, inr, zero, suc, append_assoc, append-nil}
use Rattle.std.specs.Prelude.{filter, IfSome, ◌⊎◌}
use Rattle.std.specs.Io.KnownBytes.{Appends, Keeps, append_known}
use Rattle.std.proofs.KnownBytes.{Appends-nil, Appends-trans, Appends-kept, Keeps-refl, Keeps-trans}
use Rattle.std.proofs.lemmas.List.{map-append, take-append-drop, take_all}
use Rattle.std.proofs.lemmas.List.Elements.{filter-append, All-append}
use Rattle.std.proofs.lemmas.Grind.{flat_map-append}
use Rattle.triple_arena_commands.specs.declared.command.Command.{Command}
use Rattle.triple_arena_commands.specs.declared.reply.Reply.{Reply}
use Rattle.triple_arena_commands.specs.declared.text_error.TextError.{TextError}
use Rattle.triple_arena_commands.specs.declared.text_error.TextError.TheVariants as error
use Rattle.triple_arena_commands.specs.Lines.{has_bytes, lines_of}
use Rattle.triple_arena_commands.specs.CommandText.{command_of}
use Rattle.triple_arena_commands.specs.ReplyText.{tells_of_wrap, reply_line, reply_lines}
use Rattle.triple_arena_commands.specs.Runs.{TellsOfNoWrap, EndsInWrap}
use Rattle.triple_arena_commands.specs.TextRun.{AppendsCut, AppendsFront, StandFor, RunsLines, AnswersLines, AnswersToWrap, RunsThrough, StopsAtReply, IsTextRun, RunsSome, IsFlushedRun, IsFlushed}
use Rattle.triple_arena_commands.specs.laws.RunLaws.{IsRun-append, TellsOfNoWrap-nil, TellsOfNoWrap-push}

StandFor-append : (xs ys : List (List ℕ)) (cs ds : List (Command ℕ)) → StandFor xs cs → StandFor ys ds → StandFor (xs ++ ys) (cs ++ ds)
StandFor-append xs ys cs ds first second =
    ap (map command_of) (filter-append has_bytes xs ys) ∙ map-append command_of (filter has_bytes xs) (filter has_bytes ys)
    ∙ ap (λ z. z ++ map command_of (filter has_bytes ys)) first ∙ ap (λ z. map Some cs ++ z) second ∙ sym (map-append Some cs ds)

Appends-lines : (a b c : Option (List ℕ)) (rs qs : List (Reply ℕ)) → Appends a b (reply_lines rs) → Appends b c (reply_lines qs) → Appends a c (reply_lines (rs ++ qs))
Appends-lines a b c rs qs first second =
    subst (Appends a c) (sym (flat_map-append reply_line rs qs)) (Appends-trans a b c (reply_lines rs) (reply_lines qs) first second)

pub Appends-one : (a b : Option (List ℕ)) (reply : Reply ℕ) → Appends a b (reply_line reply) → Appends a b (reply_lines (reply ∷ []))
Appends-one a b reply wrote = subst (Appends a b) (sym (append-nil (reply_line reply))) wrote

TellsOfNoWrap-append : (rs qs : List (Reply ℕ)) → TellsOfNoWrap rs → TellsOfNoWrap qs → TellsOfNoWrap (rs ++ qs)
TellsOfNoWrap-append = All-append (λ reply. tells_of_wrap reply ≡ false)

pub append_known-nil : (known : Option (List ℕ)) → append_known known [] ≡ known
append_known-nil None = refl
append_known-nil (Some bytes) = ap Some (append-nil bytes)

-- what was cut short after bs
pub AppendsCut-after : (a b c : Option (List ℕ)) (bs last : List ℕ) → Appends a b bs → AppendsCut b c [] last → AppendsCut a c bs last
AppendsCut-after a b c bs last first (front, rest, whole, some, wrote) = (front, rest, whole, some, Appends-trans a b c bs front first wrote)

-- where a front of xs ++ ys was written, and then a front of it kept, a front of it is there
AppendsFront-cut : (a b c : Option (List ℕ)) (bs ys left : List ℕ) → Appends a b bs → Keeps b (append_known c left) → AppendsFront a c (bs ++ ys)
AppendsFront-cut None b c bs ys left wrote kept = ([], tt)
AppendsFront-cut (Some x) None c bs ys left wrote kept = absurd wrote
AppendsFront-cut (Some x) (Some y) None bs ys left wrote kept = absurd kept
AppendsFront-cut (Some x) (Some y) (Some z) bs ys left wrote kept =
    (left ++ ys, sym (append_assoc z left ys) ∙ ap (λ l. l ++ ys) (kept ∙ wrote) ∙ append_assoc x bs ys)

AppendsFront-whole : (a b c : Option (List ℕ)) (bs left : List ℕ) → Appends a b bs → Keeps b (append_known c left) → AppendsFront a c bs
AppendsFront-whole a b c bs left wrote kept = subst (AppendsFront a c) (append-nil bs) (AppendsFront-cut a b c bs [] left wrote kept)

-- the same of the lines of replies, of the last of which a front was written
AppendsFront-replies : (a b c : Option (List ℕ)) (before : List (Reply ℕ)) (last : Reply ℕ) (left : List ℕ) → AppendsCut a b (reply_lines before) (reply_line last) → Keeps b (append_known c left)
    → AppendsFront a c (reply_lines (before ++ last ∷ []))
AppendsFront-replies a b c before last left (front, rest, whole, some, wrote) kept =
    let lines : reply_lines (before ++ last ∷ []) ≡ (reply_lines before ++ front) ++ rest =
    flat_map-append reply_line before (last ∷ []) ∙ ap (λ l. reply_lines before ++ l) (append-nil (reply_line last) ∙ whole) ∙ sym (append_assoc (reply_lines before) front rest) in
    subst (AppendsFront a c) (sym lines) (AppendsFront-cut a b c (reply_lines before ++ front) rest left wrote kept)

Keeps-appended : (b c : Option (List ℕ)) → Appends b c [] → Keeps b c
Keeps-appended None c out = tt
Keeps-appended (Some x) None out = absurd out
Keeps-appended (Some x) (Some y) out = out ∙ append-nil x

Keeps-nil : (b c : Option (List ℕ)) → Keeps b c → Keeps b (append_known c [])
Keeps-nil b c kept = subst (Keeps b) (sym (append_known-nil c)) kept

-- what stands below a buffer that was taken away is a front of what stood there with it
pub AppendsFront-buffer : (a known : Option (List ℕ)) (buffer : List ℕ) → Keeps a (append_known known buffer) → AppendsFront a known []
AppendsFront-buffer a known buffer kept = AppendsFront-whole a a known [] buffer (Appends-nil a) kept

-- what a writer held with its buffer it holds without, once the buffer has no bytes
pub keeps_emptied : (old known : Option (List ℕ)) (buffer : List ℕ) → buffer ≡ [] → Keeps old (append_known known buffer) → Keeps old known
keeps_emptied old known buffer empty kept = subst (Keeps old) (ap (append_known known) empty ∙ append_known-nil known) kept

-- the front of what is left of a list
pub front-drop : (xs : List (List ℕ)) (i : ℕ) (y : List ℕ) (ys : List (List ℕ)) → drop i xs ≡ y ∷ ys
    → (take (i + 1) xs ≡ take i xs ++ y ∷ []) × (drop (i + 1) xs ≡ ys) × (slice_get xs i ≡ Some y)
front-drop [] zero y ys left = cc
front-drop [] (suc i) y ys left = cc
front-drop (x ∷ xs) zero y ys left = (cc, cc, cc)
front-drop (x ∷ xs) (suc i) y ys left =
    let more = front-drop xs i y ys left in
    let e : suc i + 1 ≡ suc (i + 1) = omega arith in
    (rw e (ap (λ z. x ∷ z) more.0), rw e more.1, more.2)

module _ {S : Type 0} (Step : S → Command ℕ → Reply ℕ → S → Type 0) where
  pub RunsLines-append : (s m t : S) (xs ys : List (List ℕ)) (rs qs : List (Reply ℕ)) → RunsLines Step xs rs s m → RunsLines Step ys qs m t → RunsLines Step (xs ++ ys) (rs ++ qs) s t
  RunsLines-append s m t xs ys rs qs first second =
      (first.0 ++ second.0, StandFor-append xs ys first.0 second.0 first.1 second.1, IsRun-append Step s m t first.0 second.0 rs qs first.2 second.2)

  pub AnswersLines-nil : (s : S) (a : Option (List ℕ)) → AnswersLines Step [] s s a a
  AnswersLines-nil s a = ([], ([], refl, refl), TellsOfNoWrap-nil, Appends-nil a)

  AnswersLines-append : (s m t : S) (xs ys : List (List ℕ)) (a b c : Option (List ℕ)) → AnswersLines Step xs s m a b → AnswersLines Step ys m t b c → AnswersLines Step (xs ++ ys) s t a c
  AnswersLines-append s m t xs ys a b c first second = (
    first.0 ++ second.0,
    RunsLines-append s m t xs ys first.0 second.0 first.1 second.1,
    TellsOfNoWrap-append first.0 second.0 first.2 second.2,
    Appends-lines a b c first.0 second.0 first.3 second.3,
  )

  AnswersToWrap-append : (s m t : S) (xs ys : List (List ℕ)) (a b c : Option (List ℕ)) → AnswersLines Step xs s m a b → AnswersToWrap Step ys m t b c → AnswersToWrap Step (xs ++ ys) s t a c
  AnswersToWrap-append s m t xs ys a b c first second =
      let end = second.2 in (
        first.0 ++ second.0,
        RunsLines-append s m t xs ys first.0 second.0 first.1 second.1,
        (first.0 ++ end.0, end.1, ap (λ z. first.0 ++ z) end.2 ∙ sym (append_assoc first.0 end.0 (end.1 ∷ [])), TellsOfNoWrap-append first.0 end.0 first.2 end.3, end.4),
        Appends-lines a b c first.0 second.0 first.3 second.3,
      )

  module _ (all : List (List ℕ)) (i : ℕ) (line : List ℕ) (after : List (List ℕ)) (left : drop i all ≡ line ∷ after) (s m t : S) (a b c : Option (List ℕ)) (first : AnswersLines Step (take i all) s m a b) where
    -- one line more
    pub AnswersLines-line : AnswersLines Step (line ∷ []) m t b c → AnswersLines Step (take (i + 1) all) s t a c
    AnswersLines-line second =
        subst (λ lines. AnswersLines Step lines s t a c) (sym (front-drop all i line after left).0) (AnswersLines-append s m t (take i all) (line ∷ []) a b c first second)

    -- the last line
    pub RunsThrough-last : after ≡ [] → AnswersLines Step (line ∷ []) m t b c → RunsThrough Step all s t a c
    RunsThrough-last none second =
        let end : drop i all ≡ line ∷ [] = left ∙ ap (λ z. line ∷ z) none in
        let whole : take i all ++ line ∷ [] ≡ all = ap (λ z. take i all ++ z) (sym end) ∙ take-append-drop i all in
        inl (subst (λ lines. AnswersLines Step lines s t a c) whole (AnswersLines-append s m t (take i all) (line ∷ []) a b c first second))

    pub RunsThrough-wrapped : AnswersToWrap Step (line ∷ []) m t b c → RunsThrough Step all s t a c
    RunsThrough-wrapped second =
        inr (
          i + 1,
          subst (λ lines. AnswersToWrap Step lines s t a c) (sym (front-drop all i line after left).0) (AnswersToWrap-append s m t (take i all) (line ∷ []) a b c first second),
        )

  -- ---- the flush after a run

  AnswersLines-kept : (lines : List (List ℕ)) (s t : S) (a b c : Option (List ℕ)) → Keeps b c → AnswersLines Step lines s t a b → AnswersLines Step lines s t a c
  AnswersLines-kept lines s t a b c kept ran = (ran.0, ran.1, ran.2, Appends-kept a b c (reply_lines ran.0) ran.3 kept)

  RunsThrough-kept : (lines : List (List ℕ)) (s t : S) (a b c : Option (List ℕ)) → Keeps b c → RunsThrough Step lines s t a b → RunsThrough Step lines s t a c
  RunsThrough-kept lines s t a b c kept (inl ran) = inl (AnswersLines-kept lines s t a b c kept ran)
  RunsThrough-kept lines s t a b c kept (inr ran) = let more = ran.1 in inr (ran.0, (more.0, more.1, more.2, Appends-kept a b c (reply_lines more.0) more.3 kept))

  IfSome-map : (known : Option (List ℕ)) (P Q : List ℕ → Type 0) → ((bytes : List ℕ) → P bytes → Q bytes) → IfSome known P → IfSome known Q
  IfSome-map None P Q f holds = tt
  IfSome-map (Some bytes) P Q f holds = f bytes holds

  -- after replies that tell of no wrap, the last one tells of none either, or the run ends in it
  wrap_at_most_last : (before : List (Reply ℕ)) (last : Reply ℕ) → TellsOfNoWrap before → TellsOfNoWrap (before ++ last ∷ []) ⊎ EndsInWrap (before ++ last ∷ [])
  wrap_at_most_last before last none = by_test (tells_of_wrap last) refl
    where
      by_test : (b : Bool) → tells_of_wrap last ≡ b → TellsOfNoWrap (before ++ last ∷ []) ⊎ EndsInWrap (before ++ last ∷ [])
      by_test true told = inr (before, last, refl, none, told)
      by_test false told = inl (TellsOfNoWrap-push before last none told)

  RunsSome-through : (lines : List (List ℕ)) (s t : S) (a b c : Option (List ℕ)) (left : List ℕ) → RunsThrough Step lines s t a b → Keeps b (append_known c left) → RunsSome Step lines s t a c
  RunsSome-through lines s t a b c left (inl ran) kept =
      (length lines, ran.0, subst (λ xs. RunsLines Step xs ran.0 s t) (sym (take_all (length lines) lines (omega arith))) ran.1, inl ran.2, AppendsFront-whole a b c (reply_lines ran.0) left ran.3 kept)
  RunsSome-through lines s t a b c left (inr ran) kept = let more = ran.1 in (ran.0, more.0, more.1, inr more.2, AppendsFront-whole a b c (reply_lines more.0) left more.3 kept)

  RunsSome-stopped : (lines : List (List ℕ)) (s t : S) (a b c : Option (List ℕ)) (left : List ℕ) → StopsAtReply Step lines s t a b → Keeps b (append_known c left) → RunsSome Step lines s t a c
  RunsSome-stopped lines s t a b c left stops kept =
      (stops.0, stops.1 ++ stops.2 ∷ [], stops.3, wrap_at_most_last stops.1 stops.2 stops.4, AppendsFront-replies a b c stops.1 stops.2 left stops.5 kept)

  IsFlushedRun-flushed : (known : Option (List ℕ)) (r : Result (Unit {0}) TextError) (s t : S) (a b c : Option (List ℕ)) → IsTextRun Step known r s t a b → Keeps b c → IsFlushedRun Step known r s t a c
  IsFlushedRun-flushed known (Ok x) s t a b c ran kept = IfSome-map known _ _ (λ bytes. RunsThrough-kept (lines_of bytes) s t a b c kept) ran
  IsFlushedRun-flushed known (Err (error.Malformed n)) s t a b c ran kept = IfSome-map known _ _ (λ bytes stops. (stops.0, AnswersLines-kept (take (n - 1) (lines_of bytes)) s t a b c kept stops.1)) ran
  IsFlushedRun-flushed known (Err error.Write) s t a b c ran kept = IfSome-map known _ _ (λ bytes stops. RunsSome-stopped (lines_of bytes) s t a b c [] stops (Keeps-nil b c kept)) ran
  IsFlushedRun-flushed known (Err error.Read) s t a b c ran kept = (ran.0, Keeps-trans a b c ran.1 kept)
  IsFlushedRun-flushed known (Err error.NoMemory) s t a b c ran kept = (ran.0, Keeps-trans a b c ran.1 kept)

  RunsSome-none : (known : Option (List ℕ)) (s t : S) (a b c : Option (List ℕ)) (left : List ℕ) → t ≡ s → Keeps a b → Keeps b (append_known c left) → IfSome known (λ bytes. RunsSome Step (lines_of bytes) s t a c)
  RunsSome-none None s t a b c left same before kept = tt
  RunsSome-none (Some bytes) s t a b c left same before kept =
      (0, [], ([], refl, same), inl TellsOfNoWrap-nil, AppendsFront-buffer a c left (Keeps-trans a b (append_known c left) before kept))

  IsFlushedRun-failed : (known : Option (List ℕ)) (r : Result (Unit {0}) TextError) (s t : S) (a b c : Option (List ℕ)) → IsTextRun Step known r s t a b → AppendsFront b c [] → IsFlushedRun Step known (Err error.Write) s t a c
  IsFlushedRun-failed known r s t a b c ran (left, out) = by_outcome r ran
    where
      kept : Keeps b (append_known c left)
      kept = Keeps-appended b (append_known c left) out

      by_outcome : (r : Result (Unit {0}) TextError) → IsTextRun Step known r s t a b → IsFlushedRun Step known (Err error.Write) s t a c
      by_outcome (Ok x) ran = IfSome-map known _ _ (λ bytes through. RunsSome-through (lines_of bytes) s t a b c left through kept) ran
      by_outcome (Err (error.Malformed n)) ran = IfSome-map known _ _ (λ bytes stops. let before = stops.1 in (n - 1, before.0, before.1, inl before.2, AppendsFront-whole a b c (reply_lines before.0) left before.3 kept)) ran
      by_outcome (Err error.Write) ran = IfSome-map known _ _ (λ bytes stops. RunsSome-stopped (lines_of bytes) s t a b c left stops kept) ran
      by_outcome (Err error.Read) ran = RunsSome-none known s t a b c left ran.0 ran.1 kept
      by_outcome (Err error.NoMemory) ran = RunsSome-none known s t a b c left ran.0 ran.1 kept

  -- a run, and the flush after it
  pub IsFlushedRun-after : (known : Option (List ℕ)) (r q : Result (Unit {0}) TextError) (s t : S) (a b c : Option (List ℕ)) → IsTextRun Step known r s t a b → IsFlushed r q b c → IsFlushedRun Step known q s t a c
  IsFlushedRun-after known r q s t a b c ran (inl flushed) = subst (λ z. IsFlushedRun Step known z s t a c) (sym flushed.0) (IsFlushedRun-flushed known r s t a b c ran flushed.1)
  IsFlushedRun-after known r q s t a b c ran (inr failed) = subst (λ z. IsFlushedRun Step known z s t a c) (sym failed.0) (IsFlushedRun-failed known r s t a b c ran failed.1)

  -- where there was no memory to begin, nothing ran
  pub IsFlushedRun-not_begun : (known : Option (List ℕ)) (q : Result (Unit {0}) TextError) (s : S) (a c : Option (List ℕ)) → IsFlushed (Err error.NoMemory) q a c → IsFlushedRun Step known q s s a c
  IsFlushedRun-not_begun known q s a c flushed = IsFlushedRun-after known (Err error.NoMemory) q s s a a c (refl, Keeps-refl a) flushed

-- Runs one after another.
use Rattle.std.proofs.Common.{◌≡◌, ◌+◌, ◌<◌, ℕ, zero, suc, true, false, List, [], ◌∷◌, ◌++◌, length, take, get_or, subst, sym, ap, ◌∙◌, refl, inr, arith}
use Rattle.std.proofs.lemmas.Grind.{take_at_read}
use Rattle.std.proofs.lemmas.List.{length_push}
use Rattle.std.proofs.lemmas.List.Elements.{All-push, All-cons}
use Rattle.triple_arena_commands.specs.declared.reply.Reply.{Reply}
use Rattle.triple_arena_commands.specs.ReplyText.{tells_of_wrap}
use Rattle.triple_arena_commands.specs.Runs.{IsRun, TellsOfNoWrap, RunsToWrap}

module _ {S C R : Type 0} (Step : S → C → R → S → Type 0) where
  pub IsRun-append : (s m t : S) (cs ds : List C) (rs qs : List R) → IsRun Step s cs rs m → IsRun Step m ds qs t → IsRun Step s (cs ++ ds) (rs ++ qs) t
  IsRun-append s m t [] ds [] qs first second = subst (λ x. IsRun Step x ds qs t) first second
  IsRun-append s m t [] ds (r ∷ rs) qs first second = absurd first
  IsRun-append s m t (c ∷ cs) ds [] qs first second = absurd first
  IsRun-append s m t (c ∷ cs) ds (r ∷ rs) qs first second = (first.0, first.1, IsRun-append first.0 m t cs ds rs qs first.2 second)

  -- a front of a run is a run
  pub IsRun-front : (s t : S) (cs : List C) (rs : List R) (n : ℕ) → IsRun Step s cs rs t → (m : S) × IsRun Step s (take n cs) (take n rs) m
  IsRun-front s t cs rs zero run = (s, refl)
  IsRun-front s t [] [] (suc n) run = (s, refl)
  IsRun-front s t [] (r ∷ rs) (suc n) run = absurd run
  IsRun-front s t (c ∷ cs) [] (suc n) run = absurd run
  IsRun-front s t (c ∷ cs) (r ∷ rs) (suc n) run =
      let rest = IsRun-front run.0 t cs rs n run.2 in
      (rest.0, (run.0, run.1, rest.1))

  -- one more command
  pub IsRun-more : (s m t : S) (all : List C) (i : ℕ) (d : C) (replies : List R) (reply : R) → i < length all → IsRun Step s (take i all) replies m → Step m (get_or all i d) reply t → IsRun Step s (take (i + 1) all) (replies ++ reply ∷ []) t
  IsRun-more s m t all i d replies reply within ran step =
      rw ((take_at_read all i d within).1) (IsRun-append s m t (take i all) (get_or all i d ∷ []) replies (reply ∷ []) ran (t, step, refl))

module _ {X : Type 0} where
  pub TellsOfNoWrap-nil : TellsOfNoWrap {X = X} []
  TellsOfNoWrap-nil = λ k d h. absurd (omega arith)

  pub TellsOfNoWrap-push : (replies : List (Reply X)) (reply : Reply X) → TellsOfNoWrap replies → tells_of_wrap reply ≡ false → TellsOfNoWrap (replies ++ reply ∷ [])
  TellsOfNoWrap-push replies reply none last = All-push (λ r. tells_of_wrap r ≡ false) replies reply none last

  pub TellsOfNoWrap-first : (reply : Reply X) (replies : List (Reply X)) → tells_of_wrap reply ≡ false → TellsOfNoWrap replies → TellsOfNoWrap (reply ∷ replies)
  TellsOfNoWrap-first reply replies first rest = All-cons (λ r. tells_of_wrap r ≡ false) reply replies first rest

module _ {S C X : Type 0} (Step : S → C → Reply X → S → Type 0) where
  -- a run that ends with a reply that tells of a wrap
  pub RunsToWrap-wrapped : (s m t : S) (all : List C) (i : ℕ) (d : C) (replies : List (Reply X)) (reply : Reply X) → i < length all → length replies ≡ i → IsRun Step s (take i all) replies m → Step m (get_or all i d) reply t → TellsOfNoWrap replies → tells_of_wrap reply ≡ true → RunsToWrap Step s all (replies ++ reply ∷ []) t
  RunsToWrap-wrapped s m t all i d replies reply within count ran step none told =
      let long : length (replies ++ reply ∷ []) ≡ i + 1 = length_push replies reply ∙ ap (λ n. n + 1) count in
      let Runs : ℕ → Type 0 = λ n. IsRun Step s (take n all) (replies ++ reply ∷ []) t in
      (subst Runs (sym long) (IsRun-more Step s m t all i d replies reply within ran step), inr (replies, reply, refl, none, told))

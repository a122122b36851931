-- Commands one after another.
use Rattle.std.specs.Prelude.{◌≡◌, true, false, List, [], ◌∷◌, ◌++◌, length, take, ◌⊎◌, All}
use Rattle.triple_arena_commands.specs.declared.reply.Reply.{Reply}
use Rattle.triple_arena_commands.specs.ReplyText.{tells_of_wrap}

module _ {S C R : Type 0} (Step : S → C → R → S → Type 0) where
  -- the commands ran one after another from s, gave these replies, one each, and left t.
  abbrev pub IsRun : S → List C → List R → S → Type 0
  IsRun s [] [] t = t ≡ s
  IsRun s (command ∷ commands) (reply ∷ replies) t = (m : S) × Step s command reply m × IsRun m commands replies t
  IsRun s commands replies t = ⊥

module _ {X : Type 0} where
  -- no reply tells of a wrap.
  abbrev pub TellsOfNoWrap : List (Reply X) → Type 0
  TellsOfNoWrap replies = All (λ reply. tells_of_wrap reply ≡ false) replies

  -- the last reply tells of a wrap, and no other does.
  abbrev pub EndsInWrap : List (Reply X) → Type 0
  EndsInWrap replies = (before : List (Reply X)) × (last : Reply X) × (replies ≡ before ++ last ∷ []) × TellsOfNoWrap before × (tells_of_wrap last ≡ true)

-- the first commands ran, one reply each: all of them and no reply told of a wrap, or those up to the first wrap
abbrev pub RunsToWrap : {S C X : Type 0} → (S → C → Reply X → S → Type 0) → S → List C → List (Reply X) → S → Type 0
RunsToWrap Step s commands replies t =
    IsRun Step s (take (length replies) commands) replies t × ((TellsOfNoWrap replies × (length replies ≡ length commands)) ⊎ EndsInWrap replies)

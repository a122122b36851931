-- Strict steps: those of a session or of a store which refuses what would raise its counter where no raise is left.
use Rattle.std.specs.Prelude.{◌≡◌, ℕ, ◌+◌, ◌==◌, ◌&&◌, nat_lt, cond, Bool, true, false, is_some}
use Rattle.triple_arena_commands.specs.declared.command.Command.{Command}
use Rattle.triple_arena_commands.specs.declared.command.Command.TheVariants.{Remove, Invalidate, Clear, Compact}
use Rattle.triple_arena_commands.specs.declared.reply.Reply.{Reply}
use Rattle.triple_arena_commands.specs.declared.reply.Reply.TheVariants.{Given, Removed, Cleared, Compacted, Exhausted}
use Rattle.triple_arena_commands.specs.NameStore.{Store, row_count, row, IsStoreStep}

-- whether a command raises the counter where it succeeds: it acts on a live name, or on all of so many entries, if there
-- are any
abbrev pub raises : {X : Type 0} → (ℕ → Bool) → ℕ → Command X → Bool
raises is_live count (Remove name) = is_live name
raises is_live count (Invalidate name) = is_live name
raises is_live count Clear = nat_lt 0 count
raises is_live count Compact = nat_lt 0 count
raises is_live count command = false

module _ {X : Type 0} where
  -- a reply which tells that such a command succeeded
  abbrev pub tells_success : Reply X → Bool
  tells_success (Given name wrapped) = true
  tells_success (Removed datum link wrapped) = true
  tells_success (Cleared wrapped) = true
  tells_success (Compacted wrapped) = true
  tells_success reply = false

  abbrev pub tells_exhausted : Reply X → Bool
  tells_exhausted Exhausted = true
  tells_exhausted reply = false

  -- a step, or in its place the refusal, which changes nothing
  abbrev pub UnlessExhausted : {S : Type 0} → Bool → Type 0 → Reply X → S → S → Type 0
  UnlessExhausted true Step reply s t = (reply ≡ Exhausted) × (t ≡ s)
  UnlessExhausted false Step reply s t = Step

-- of any kind of session or store: the refusal where a command is to be refused so, and else a step
abbrev pub IsStrictly : {S X : Type 0} → (S → Command X → Bool) → (S → Command X → Reply X → S → Type 0) → S → Command X → Reply X → S → Type 0
IsStrictly refuses Step s command reply t = UnlessExhausted (refuses s command) (Step s command reply t) reply s t

-- a store of names, and how many raises are left to its counter
pub record StrictStore (X : Type 0) : Type 0 where
  pub store : Store X
  pub left : ℕ

module _ {X : Type 0} where
  -- whether a command to a store raises the counter where it succeeds
  abbrev pub raises_row : Store X → Command X → Bool
  raises_row s command = raises (λ name. is_some (row s name)) (row_count s) command

  -- how many raises a command used that was answered so
  abbrev pub used : Store X → Command X → Reply X → ℕ
  used s command reply = cond (raises_row s command && tells_success reply) 1 0

  -- whether a command needs a raise, and none is left
  abbrev pub is_spent : StrictStore X → Command X → Bool
  is_spent s command = (s.left == 0) && raises_row s.store command

  -- a step of the store; the raise that it used is left no more
  abbrev pub IsCountedStep : StrictStore X → Command X → Reply X → StrictStore X → Type 0
  IsCountedStep s command reply t = IsStoreStep s.store command reply t.store × (t.left + used s.store command reply ≡ s.left)

  -- a step of the strict store: refused exactly where the command needs a raise and none is left
  abbrev pub IsStrictStoreStep : (before : StrictStore X) (command : Command X) (reply : Reply X) (after : StrictStore X) → Type 0
  IsStrictStoreStep = IsStrictly is_spent IsCountedStep

-- A session that is known to be sound stays so until a reply tells of a wrap.
use Rattle.std.proofs.Common.{◌≡◌, ℕ, ◌&&◌, Bool, true, false, not, refl, sym, true≢false}
use Rattle.std.proofs.lemmas.Bool.{and_parts}
use Rattle.triple_arena_ptr.specs.Numbers.{Generations}
use Rattle.triple_arena_stack.specs.StackKind.{StackKind}
use Rattle.triple_arena_commands.specs.declared.command.Command.{Command}
use Rattle.triple_arena_commands.specs.declared.reply.Reply.{Reply}
use Rattle.triple_arena_commands.specs.ReplyText.{tells_of_wrap}
use Rattle.triple_arena_session.specs.SessionState.{SessionState}
use Rattle.triple_arena_session.specs.SessionRun.{IsStep}
use Rattle.triple_arena_session.specs.Shown.{IsSound, IsArenaOver}
use Rattle.triple_arena_session.proofs.Soundness.{sound_over}
use Rattle.triple_arena_session.proofs.StoreLaws.{StepIsStores}

not_told : (b : Bool) → not b ≡ true → b ≡ false
not_told true e = absurd (true≢false (sym e))
not_told false e = refl

module _ {X : Type 0} (kind : StackKind) (has_memory : ℕ → Type 0) (generations : Generations) (s : SessionState X) (command : Command X) (reply : Reply X) (t : SessionState X) (over : IsArenaOver kind s.arena) (step : IsStep kind has_memory generations s command reply t) where
  -- what is known after it
  pub still_known : (known : Bool) → (known ≡ true → (generations.counting ≡ true) × IsSound s) → (known && not (tells_of_wrap reply)) ≡ true → (generations.counting ≡ true) × IsSound t
  still_known known knew is =
      let parts = and_parts known (not (tells_of_wrap reply)) is in
      let before = knew parts.0 in
      (before.0, ((StepIsStores kind has_memory generations before.0 s command reply t (sound_over kind s before.1 over) step).sound (not_told (tells_of_wrap reply) parts.1)).table)

-- Read first: SessionState, SessionRun and Shown; of what is handed on NameStore and StoreRuns.
pub mod NodeText
pub mod SessionState
pub mod SessionLayout
pub mod Compaction
pub mod SessionRun
pub mod KindRun
pub mod ProgramRun
pub mod Shown
pub mod StrictSession
pub mod StrictText
pub mod SessionCalls
pub mod StoreRun
pub mod StoreText
pub mod ElevenCommands
-- What clauses of callers name of the inner crate behind this door: commands, their texts, the store of names, and the
-- types whose variants they name.
pub use Rattle.triple_arena_commands.specs.Lines
pub use Rattle.triple_arena_commands.specs.Words
pub use Rattle.triple_arena_commands.specs.CommandText
pub use Rattle.triple_arena_commands.specs.Forms
pub use Rattle.triple_arena_commands.specs.ReplyText
pub use Rattle.triple_arena_commands.specs.ReplyParts
pub use Rattle.triple_arena_commands.specs.Runs
pub use Rattle.triple_arena_commands.specs.TextRun
pub use Rattle.triple_arena_commands.specs.ErrorText
pub use Rattle.triple_arena_commands.specs.Program
pub use Rattle.triple_arena_commands.specs.Limits
pub use Rattle.triple_arena_commands.specs.NameStore
pub use Rattle.triple_arena_commands.specs.StoreRuns
pub use Rattle.triple_arena_commands.specs.StrictStore
pub use Rattle.triple_arena_commands.specs.PointerNames
pub use Rattle.triple_arena_commands.specs.NameLayout
pub use Rattle.triple_arena_commands.specs.laws
pub use Rattle.triple_arena_commands.specs.declared.arguments.Kind
pub use Rattle.triple_arena_commands.specs.declared.arguments.Outcome
pub use Rattle.triple_arena_commands.specs.declared.command.Command
pub use Rattle.triple_arena_commands.specs.declared.reply.Reply
pub use Rattle.triple_arena_commands.specs.declared.text_error.TextError
-- What they name of the arenas, pointers and stacks that a session begins over.
pub use Rattle.triple_arena_ptr.specs.Numbers
pub use Rattle.triple_arena_ptr.specs.Pointers
pub use Rattle.triple_arena_stack.specs.StackKind
pub use Rattle.triple_arena_traits.specs.ArenaState

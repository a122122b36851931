-- Read first: CommandText, ReplyText, NameStore and StoreRuns.
pub mod Lines
pub mod Words
pub mod CommandText
pub mod Forms
pub mod ReplyText
pub mod ReplyParts
pub mod Runs
pub mod TextRun
pub mod ErrorText
pub mod Program
pub mod Limits
pub mod NameStore
pub mod StoreRuns
pub mod StrictStore
pub mod PointerNames
pub mod NameLayout
pub mod laws

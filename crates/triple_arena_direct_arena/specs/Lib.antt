-- Read first: DirectState.
pub mod DirectState
pub mod DirectSlot
pub mod DirectLayout
pub mod DirectValues
pub mod Mirrors
pub mod DirectInsertEntry
pub mod laws

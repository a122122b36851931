-- Read first: Held and Invalidation.
pub mod Held
pub mod HeldLists
pub mod HeldPairs
pub mod HeldVecs
pub mod Readings
pub mod Invalidation
pub mod NonZeroRange
pub mod laws

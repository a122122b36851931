-- Read first: Slot and Link.
pub mod Link
pub mod Slot
pub mod Layout
pub mod Lends
pub mod Shown
pub mod laws

pub mod Entering
pub mod Exchanging
pub mod Leasing
pub mod Naming
pub mod Notes
pub mod Reading
pub mod Rewiring

pub mod Ordering
pub mod Turning
pub mod Caching

pub mod Pairs
pub mod Keeping
pub mod Cloned
mod Touched
mod Growing

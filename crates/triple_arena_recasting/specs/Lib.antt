-- Read first: Holding and Renaming.
pub mod Compacted
pub mod Concrete
pub mod Extending
pub mod HeldThree
pub mod Holding
pub mod Renaming
pub mod RenamingBoth
pub mod Retaining
pub mod laws

-- What follows from the definitions.
pub mod RenamingLaws
pub mod ImageLaws
pub mod NameLaws
pub mod RenamingBothLaws
pub mod RetainLaws

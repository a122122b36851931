-- What follows from the definitions.
pub mod HeldLaws
pub mod ReadingLaws

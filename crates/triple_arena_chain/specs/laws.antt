-- What follows from the definitions.
pub mod NodeLaws
pub mod LinkLaws
pub mod RunLaws
pub mod RestLaws
pub mod OnceLaws
pub mod ResultLaws
pub mod TellingLaws

-- Read first: the file of the user that is read.
pub mod Entities
pub mod FirstHistory
pub mod Guests
pub mod Ports

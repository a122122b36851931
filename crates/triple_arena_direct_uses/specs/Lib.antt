-- Read first: the file of the user that is read.
pub mod Circuit
pub mod Elements
pub mod Holders
pub mod Labels
pub mod Names
pub mod NamesBesideTwo
pub mod Notes
pub mod Netlist
pub mod Office
pub mod Tickets
pub mod Unchanged

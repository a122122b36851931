pub mod Loop
pub mod Text
pub mod Whole
pub mod Marks
pub mod ArenaBytes
pub mod FreeLists
pub mod LinkBytes
pub mod ArenaParts
pub mod Writes
pub mod ShapeBytes
pub mod Loads
pub mod MapEntries
mod StrictFiles

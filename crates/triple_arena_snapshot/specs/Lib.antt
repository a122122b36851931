-- Read first: Coding.
pub mod Coding
pub mod Codings
pub mod Layouts
pub mod FloatCodings
pub mod Floats
pub mod Arrays
pub mod MapCodings
pub mod Maps
pub mod Checksum
pub mod Marks
pub mod Shapes
pub mod Files
pub mod ArenaCodings
pub mod ArenaLayouts
pub mod StrictFiles
pub mod laws

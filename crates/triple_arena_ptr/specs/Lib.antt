-- Read first: Numbers and Pointers.
pub mod Numbers
pub mod NonZeroValues
pub mod Pointers
pub mod PointerText
pub mod PairComparisons

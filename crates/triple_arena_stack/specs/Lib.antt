-- Read first: StackKind, StackState and Capacity.
pub mod StackKind
pub mod StackState
pub mod Capacity
pub mod Disjoint
pub mod PushEntry

pub mod Places
pub mod BreadthFirst
pub mod Searching
pub mod Whole
pub mod Interning
pub mod KeyedStates
pub mod Listing

pub mod Building
pub mod Instances
pub mod Grouping
pub mod Tasks
pub mod Finishing
pub mod Recursion
pub mod Constructing

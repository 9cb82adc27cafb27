pub mod Between
pub mod Tables
pub mod Combining
pub mod Nodes
pub mod Built
pub mod SomePositions

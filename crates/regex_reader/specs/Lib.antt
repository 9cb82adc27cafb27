pub mod Expressions
pub mod Readers
pub mod Marks
pub mod Parts
pub mod Growth

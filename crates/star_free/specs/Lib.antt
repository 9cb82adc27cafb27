pub mod Loops
pub mod Answer

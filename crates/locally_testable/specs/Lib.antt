pub mod Witness
pub mod Answer

pub mod OptionRows
pub mod Lines
pub mod Ranges
mod Filled
pub mod Taken

pub mod Repeats
pub mod Places
pub mod Widths
pub mod ComputedKeys
pub mod Numbering

pub mod GreenClasses
pub mod EggBoxes
pub mod Classes
pub mod Pairs
pub mod Numbering
pub mod Layout
pub mod Chains

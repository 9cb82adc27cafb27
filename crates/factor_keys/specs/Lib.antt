pub mod Keys
pub mod WordParts
pub mod SameKeys
pub mod FactorKeys
pub mod Walls

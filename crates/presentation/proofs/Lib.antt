pub mod LeftSides
pub mod RuleLists
pub mod Reduced

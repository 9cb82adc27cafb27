pub mod Sides
pub mod Witness
pub mod Commuting
pub mod Rounds
pub mod Partings
pub mod SubwordKeys
pub mod Answers

pub mod Telling
pub mod Sources
pub mod Elements
pub mod Outcomes
pub mod Verdicts
pub mod Workers

pub mod Needed
pub mod OnePruning
pub mod Factors
pub mod PrunedLetters

pub mod Refinement
pub mod Splitting
pub mod SplittingState

pub mod Totals
pub mod Refining
pub mod Rounds
pub mod Firsts
pub mod Chains
pub mod SplitLists
pub mod ClosedSplits

pub mod StarFree
pub mod LocalDivisor
pub mod Instance
pub mod Construction
pub mod Treating
pub mod Pruning
pub mod Examples

pub mod CayleyGraphs
pub mod Links
pub mod LeftRows
pub mod Tables

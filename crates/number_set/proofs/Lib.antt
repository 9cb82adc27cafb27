pub mod Combining
pub mod Packing
pub mod Walking

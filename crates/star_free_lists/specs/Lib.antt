pub mod SfList
pub mod Pruning
pub mod Accepting

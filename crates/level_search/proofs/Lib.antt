pub mod Starting
pub mod Pairing
pub mod Fixing
pub mod Decisions
pub mod Answering

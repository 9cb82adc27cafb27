pub mod StateMaps
pub mod Raising
pub mod Found

pub mod States
pub mod Search
pub mod Interning
pub mod NumberedKeys
pub mod Listing

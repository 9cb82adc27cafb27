pub mod OneMonoid
pub mod Searches
pub mod Acting
pub mod Contexts
pub mod Semigroup

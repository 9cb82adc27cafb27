pub mod PowerNodes
pub mod Looping
pub mod Constructed
pub mod Answering
pub mod OneList

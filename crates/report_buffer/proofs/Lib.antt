pub mod Channels
pub mod Separated
pub mod Pieces

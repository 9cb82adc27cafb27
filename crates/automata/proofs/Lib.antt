pub mod StepsBack
pub mod Steps
pub mod Rows
pub mod Moves
pub mod ClosedRows

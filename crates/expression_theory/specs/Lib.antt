pub mod Expression
pub mod Positions
pub mod FirstLast
pub mod Grammar
pub mod Frames
pub mod Scan
pub mod Polish
pub mod Examples

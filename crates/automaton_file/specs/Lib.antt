pub mod LineText
pub mod ExprText
pub mod Parts
pub mod FileText
pub mod Reading
pub mod Examples

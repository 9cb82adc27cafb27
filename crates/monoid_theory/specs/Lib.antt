pub mod Products
pub mod Presentation
pub mod Green
pub mod Separation
pub mod Powers
pub mod Examples

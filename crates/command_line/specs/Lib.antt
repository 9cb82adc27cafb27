pub mod Tables
pub mod Parsing
pub mod Line

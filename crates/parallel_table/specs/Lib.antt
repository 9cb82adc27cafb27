pub mod ProductTables
pub mod Runs

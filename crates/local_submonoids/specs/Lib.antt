pub mod LocalSubmonoids
pub mod Witness
pub mod LocalTables

pub mod Counting
mod Giving
mod Taking

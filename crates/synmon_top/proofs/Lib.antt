pub mod Deciding
pub mod Statuses
pub mod Truths

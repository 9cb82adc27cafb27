pub mod Witnesses
pub mod LeastWitnesses
pub mod OneAnswer
pub mod Agreeing
pub mod Telling

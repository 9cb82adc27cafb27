pub mod StepsBack
pub mod Nfa
pub mod Closures

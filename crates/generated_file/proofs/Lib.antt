pub mod LineEnds
pub mod Words
pub mod StepReading
pub mod StepOrder
pub mod Spelling

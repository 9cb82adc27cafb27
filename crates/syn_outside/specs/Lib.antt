pub mod Calls
pub mod Counts
pub mod Files
pub mod FilesInMemory
pub mod NamedFiles
pub mod Reading
pub mod SinkInMemory
pub mod Sinks

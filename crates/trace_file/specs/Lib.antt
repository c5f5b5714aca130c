pub mod Records
pub mod TraceText
pub mod Pieces
pub mod Errors
pub mod Reading
pub mod Laws
pub mod Private

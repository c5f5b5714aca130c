-- What a reader has to believe.
pub mod Fields
pub mod Headers
pub mod Image
pub mod Reading
pub mod Segments
pub mod Symbols
pub mod Tests
pub mod Private

-- What a reader has to believe.
pub mod Encoding
pub mod Fields
pub mod Table
pub mod Private

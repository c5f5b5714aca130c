-- What a reader has to believe.
pub mod Guest
pub mod Image
pub mod Private

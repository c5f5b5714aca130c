-- What private functions promise one another. No public clause rests on it.
pub mod Adding
pub mod Leaving
pub mod Taking
pub mod Ways
pub mod Pending
pub mod Pasts

-- What private functions promise one another. No public clause rests on it.
pub mod FirstSymbols
pub mod Layout
pub mod Places
pub mod Checks

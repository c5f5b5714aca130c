-- What private functions promise one another. No public clause rests on it.
pub mod Lines

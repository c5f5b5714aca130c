-- What private functions promise one another. No public clause rests on it.
pub mod Watched
pub mod CurrentTurn
pub mod Steps
pub mod Going

pub mod CallerLemmas
pub mod PlainSteps
pub mod Reach

-- What private functions promise one another. No public clause rests on it.
pub mod Demos
pub mod Ending
pub mod Jobs
pub mod LastTexts
pub mod Loading
pub mod Names
pub mod Preparing
pub mod Totals

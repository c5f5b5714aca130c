-- What private functions promise one another, and the laws of the state's parts. No public clause rests on it.
pub mod Parts
pub mod StateTicks
pub mod StateThreads
pub mod StateRows
pub mod StateWords
pub mod StateTold
pub mod StateEvents
pub mod Reading
pub mod Writing
pub mod Ending

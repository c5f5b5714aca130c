-- What private functions promise one another. No public clause rests on it.
pub mod Made
pub mod Seen
pub mod Steps
pub mod RecordParts

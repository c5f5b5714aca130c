pub mod Links
pub mod Calls
pub mod CallStacks
pub mod Missed
pub mod ThreadCalls

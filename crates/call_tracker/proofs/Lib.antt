pub mod KeptCalls
pub mod Followed
pub mod Searched

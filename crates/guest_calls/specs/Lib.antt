-- What a reader has to believe.
pub mod Clock
pub mod Clone
pub mod Files
pub mod Futex
pub mod Lawful
pub mod Laws
pub mod Outcome
pub mod Pages
pub mod Results
pub mod Search
pub mod Table
pub mod Threads
pub mod Vectors
pub mod Private

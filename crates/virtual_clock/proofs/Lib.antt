pub mod FirstOnes
pub mod Threads

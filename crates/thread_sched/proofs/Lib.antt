pub mod Read
pub mod Threads

pub mod CallerLemmas
mod Changes
mod Directories
mod Filled
mod Fresh
mod Lookups
mod Places

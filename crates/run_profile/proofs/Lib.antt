pub mod Profiles
mod KeptPoints
mod ManyContexts

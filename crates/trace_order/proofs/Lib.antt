pub mod Live
pub mod Progressing

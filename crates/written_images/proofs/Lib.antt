mod Entries
mod Files
mod Headers
mod Least
mod Named
mod Names
mod Sections

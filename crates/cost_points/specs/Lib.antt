-- What a reader has to believe.
pub mod Keys
pub mod Points
pub mod Merging
pub mod Search
pub mod Joined
pub mod Places
pub mod Indexes
pub mod LentItem
pub mod Contents
pub mod Valid
pub mod Private

-- What a reader has to believe.
pub mod Contexts
pub mod Numbers
pub mod Order
pub mod Points
pub mod Links
pub mod Branches
pub mod Trees
pub mod Laws
pub mod Private

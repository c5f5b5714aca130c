pub mod Directory
pub mod Pages
pub mod Lending

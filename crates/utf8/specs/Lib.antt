pub mod Letters
pub mod Ranges
pub mod Reading
pub mod Laws

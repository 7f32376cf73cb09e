pub mod Rows
pub mod Names
pub mod Pieces
pub mod Newer
pub mod Changes
pub mod Laws
pub mod Fronts

pub mod Comparing
pub mod Names
pub mod Deciding
pub mod Keeping
pub mod Rows
pub mod Fronts
pub mod Asking

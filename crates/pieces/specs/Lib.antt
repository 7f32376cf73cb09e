pub mod Runs
pub mod Ranks

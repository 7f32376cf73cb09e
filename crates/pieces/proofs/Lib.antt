pub mod Ranking
pub mod Finding

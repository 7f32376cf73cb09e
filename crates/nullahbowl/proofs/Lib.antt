pub mod Entering
pub mod Growing
pub mod Progress
pub mod Tables
pub mod Words

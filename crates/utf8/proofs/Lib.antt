pub mod Numbers
pub mod Letters
pub mod Counting
pub mod Lawful

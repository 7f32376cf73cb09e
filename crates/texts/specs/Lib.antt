pub mod Parts
pub mod Numerals
pub mod Lines
pub mod Forms
pub mod Written
pub mod Laws

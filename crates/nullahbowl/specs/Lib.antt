pub mod Answers
pub mod Arguments
pub mod Comparing
pub mod Failing
pub mod Sessions
pub mod Writing

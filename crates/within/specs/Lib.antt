pub mod Counting
pub mod Calls

pub mod Calls
pub mod Searching

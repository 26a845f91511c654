pub mod Nine
pub mod Calls

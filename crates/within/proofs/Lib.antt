pub mod Above
pub mod Counting
pub mod Calling

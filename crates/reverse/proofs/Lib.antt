pub mod Growing
pub mod Reversing
pub mod Calling

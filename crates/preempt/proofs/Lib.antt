pub mod Barring
pub mod Reading
pub mod Calls
pub mod Paper
pub mod Filling

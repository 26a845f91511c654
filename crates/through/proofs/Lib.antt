pub mod Collecting
pub mod Covering
pub mod Weighing
pub mod Writing
pub mod Calling

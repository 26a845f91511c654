pub mod Tasks
pub mod Paper

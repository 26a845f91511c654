pub mod Parts
pub mod Merge
pub mod Written
pub mod Touched
pub mod Carried

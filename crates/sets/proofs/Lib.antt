pub mod Sets
pub mod Choosing
pub mod Columns
pub mod Maps
pub mod Paths
pub mod Turning

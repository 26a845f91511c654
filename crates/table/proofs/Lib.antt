pub mod Counts
pub mod Places
pub mod Pairing
pub mod Closed
pub mod Judging
pub mod Tables
pub mod KindsRead
pub mod Finding

pub mod First
pub mod Held
pub mod InTurn
pub mod Write

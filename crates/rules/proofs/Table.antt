-- What an accepted table gives: its records by kind, in order and in range, and the transactions and tasks that they name.
pub mod Kinds
pub mod Ranges
pub mod Order
pub mod Shape
pub mod Listed
pub mod Standing

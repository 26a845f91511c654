pub mod Tally
pub mod Numbers
pub mod Precedence
pub mod Judged

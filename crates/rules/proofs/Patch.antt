-- Laws of patches: what makes a list of records a table or a patch, which records stand in an outcome, the reverse of a patch,
-- when a patch is accepted, what it leaves untouched, the map that it makes, a run of patches, and a patch that is taken off again.
pub mod Members
pub mod Valid
pub mod Turned
pub mod WellFormed
pub mod Ways
pub mod Rising
pub mod Reversed
pub mod Restored
pub mod Outcome
pub mod Exactly
pub mod Untouched
pub mod TrueMap
pub mod Run
pub mod TakenOff

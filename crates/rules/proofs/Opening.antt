-- The rule of opening: it has exactly one outcome, a bound call with a limit answers by it, it never opens more chains than the
-- product over the priorities, and the best in the end is the heaviest chain.
pub mod Unique
pub mod Ends
pub mod Calls
pub mod Thirteen
pub mod Most
pub mod Best

-- The chains that contain one task: what they are made of, how far the task may grow, and what the calls say of
-- them.
pub mod Near
pub mod Growing
pub mod Unique
pub mod Figures
pub mod Shown
pub mod Both
pub mod Answered

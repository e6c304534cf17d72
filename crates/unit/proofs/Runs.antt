-- The laws of the run, and of what it counts.
pub mod Tallies
pub mod Takes
pub mod Fronts
pub mod Applied
pub mod Going
pub mod Starting
pub mod Steps
pub mod Codes
pub mod InTurn
pub mod Stops

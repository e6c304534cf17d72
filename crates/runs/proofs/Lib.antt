pub mod Counts
pub mod Going
pub mod OneAnswer

pub mod Holdings
pub mod ByRow
pub mod Turns
pub mod Cells
pub mod Drawn
pub mod OneAnswer
pub mod Again

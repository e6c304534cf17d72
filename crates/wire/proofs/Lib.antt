pub mod Tests
pub mod Blocks
pub mod Padded
pub mod Numbered
pub mod OneAnswer
pub mod Distinct

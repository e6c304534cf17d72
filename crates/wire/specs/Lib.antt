pub mod Refusals
pub mod Bytes
pub mod Blocks
pub mod Orders
pub mod Sums
pub mod Codes

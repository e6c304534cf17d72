pub mod Places
pub mod Table
pub mod Turns
pub mod Cells

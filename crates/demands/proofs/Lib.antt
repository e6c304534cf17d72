pub mod Doors
pub mod Demands
pub mod FromNumbers
pub mod OfMachines

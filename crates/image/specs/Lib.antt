pub mod Images
pub mod Calls
pub mod Rescue
pub mod Bodies
pub mod RescueExamples
pub mod RescueWords
pub mod Mends

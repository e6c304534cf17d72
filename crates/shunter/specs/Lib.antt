pub mod Queues
pub mod Shunting
pub mod Sending
pub mod ShunterRuns
pub mod ShunterHistories
pub mod ShunterExamples
pub mod ShunterSums
pub mod ShunterGoings

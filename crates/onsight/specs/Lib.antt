pub mod Cases
pub mod Numbers
pub mod Procedures
pub mod Histories
pub mod Instances
pub mod HistoryWords

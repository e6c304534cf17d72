pub mod Calls
pub mod Starts
pub mod Along
pub mod Shown
pub mod AlongWords

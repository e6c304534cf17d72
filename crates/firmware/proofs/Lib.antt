pub mod Again
pub mod Numbers
pub mod Calling
pub mod Starting
pub mod Following
pub mod Reading
pub mod OneAnswer

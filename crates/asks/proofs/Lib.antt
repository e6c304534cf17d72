pub mod Asking
pub mod AskShown
pub mod OneAnswer

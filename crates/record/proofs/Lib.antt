pub mod Partners
pub mod Ranges
pub mod ByKind
pub mod OneAnswer
pub mod Named
pub mod Bodies
pub mod Takes
pub mod Told

pub mod Marks
pub mod Beginning
pub mod Building
pub mod Lookup
pub mod LogMarks
pub mod MarkExamples
pub mod MarkWords

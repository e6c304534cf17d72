pub mod Texts
pub mod Sheets
pub mod SheetExample
pub mod Making
pub mod Pages
pub mod Lines

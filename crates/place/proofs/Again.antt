-- The documents' sentences once more, as laws of the definitions. The folder comes first by its name, so that a wrong edit of a
-- definition is refused first at the sentence that it breaks.
pub mod Limit
pub mod Losses
pub mod Numbered
pub mod Rows
pub mod Tries
pub mod Versions

-- The sentences of request Q-9 once more, as laws of the definitions. The folder comes first by its name, so that a wrong edit of a
-- definition is refused first at the sentence that it breaks.
pub mod Accepted
pub mod Changed
pub mod Faults
pub mod Meanings
pub mod Numbered
pub mod Own
pub mod Readers
pub mod Refused
pub mod Shown

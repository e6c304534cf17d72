-- The documents' sentences once more, as laws of the definitions. The folder comes first by its name, so that a wrong edit of a
-- definition is refused first at the sentence that it breaks.
pub mod Answers
pub mod ImageWords
pub mod Meanings
pub mod Seen
pub mod Shown

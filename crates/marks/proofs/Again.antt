-- The sentences of request Q-12 once more, as laws of the definitions. The folder comes first by its name, so that a wrong edit of a
-- definition is refused first at the sentence that it breaks.
pub mod Afresh
pub mod Built
pub mod Covered
pub mod Found
pub mod Kept
pub mod Layout
pub mod Meanings
pub mod Refused
pub mod Shown
pub mod Unfound

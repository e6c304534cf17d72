-- The sentences of request Q-1 once more, as laws of the definitions, and what each test means. The folder comes early, so that a
-- wrong edit of a definition is refused first at the sentence that it breaks.
pub mod Each
pub mod Rows
pub mod Tests
pub mod Meanings

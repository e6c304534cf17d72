-- The documents' sentences once more, as laws of the definitions. The folder comes first by its name, so that a wrong edit of a
-- definition is refused first at the sentence that it breaks.
pub mod Buffers
pub mod Heads
pub mod Listed
pub mod Mended
pub mod Reading
pub mod Rescues
pub mod Tails
pub mod ThereAndBack
pub mod Writing

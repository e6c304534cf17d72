-- The documents' sentences once more, as laws of the definitions. The folder comes first by its name, so that a wrong edit of a
-- definition is refused first at the sentence that it breaks.
pub mod Answers
pub mod Causes
pub mod Closings
pub mod ExampleBytes
pub mod Examples
pub mod Found
pub mod Lowest
pub mod Meant
pub mod Noted
pub mod Precedence
pub mod Records
pub mod Refusals
pub mod Soundness
pub mod Standings
pub mod Starts
pub mod Stays
pub mod Turned
pub mod Words
pub mod Writing

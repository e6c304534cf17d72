-- Only private contracts use what stands here: a text put into a buffer.
-- Defines: put_at, HasRoom, Put.
use Rattle.std.specs.Prelude.{ℕ, ◌+◌, ◌≤◌, ◌≡◌, List, ◌++◌, length, take, drop}

-- a buffer with a text at this place; what stands before and after it stays
unfoldable pub put_at : List ℕ → ℕ → List ℕ → List ℕ
put_at text at buffer = take at buffer ++ (text ++ drop (at + length text) buffer)

-- room for a text at this place
abbrev pub HasRoom : List ℕ → ℕ → List ℕ → Type 0
HasRoom text at buffer = at + length text ≤ length buffer

-- the place after a text, and the buffer with it
abbrev pub Put : List ℕ → ℕ → List ℕ → ℕ → List ℕ → Type 0
Put text at buffer next after = (next ≡ at + length text) × (after ≡ put_at text at buffer)

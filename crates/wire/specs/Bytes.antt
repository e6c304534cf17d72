-- Bytes of a record, an image or a log.
-- Defines: byte, is_empty, bit, flag, as_bit.
use Rattle.std.specs.Prelude.{ℕ, Bool, true, false, cond, List, [], ◌∷◌, leb, eqb, get_or}

-- the byte at a place, the first standing at 0; 0 past the end
abbrev pub byte : List ℕ → ℕ → ℕ
byte s i = get_or s i 0

-- a record or an image with no byte
abbrev pub is_empty : List ℕ → Bool
is_empty [] = true
is_empty (b ∷ rest) = false

-- a field of 0 or 1
abbrev pub bit : ℕ → Bool
bit b = leb b 1

-- the field is 1
abbrev pub flag : ℕ → Bool
flag b = eqb b 1

-- 1 for what is so, 0 for what is not: a mark's byte, and how a test counts
abbrev pub as_bit : Bool → ℕ
as_bit b = cond b 1 0

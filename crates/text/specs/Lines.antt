-- Cross-checks only: nobody has to believe what stands here.
-- Document 01, "Run over a log", the part on the program `sheet`: a sheet taken apart again, into lines, fields and numbers.
-- Defines: number_of, spaced, begun, lines_of.
use Rattle.std.specs.Prelude.{ℕ, ◌+◌, ◌*◌, ◌-◌, ◌^◌, cond, List, [], ◌∷◌, ◌++◌, eqb, length}

-- "numbers are decimal": the number that a row of digits means, each ten times the next; the character of the digit 0 is 48
unfoldable pub number_of : List ℕ → ℕ
number_of [] = 0
number_of (c ∷ cs) = (c - 48) * 10 ^ length cs + number_of cs

-- "Fields are separated by one space": one between each two, none at the ends
unfoldable pub spaced : List (List ℕ) → List ℕ
spaced [] = []
spaced (field ∷ []) = field
spaced (field ∷ next ∷ fields) = field ++ (32 ∷ spaced (next ∷ fields))

-- lines, the first of which begins with one more character
unfoldable pub begun : ℕ → List (List ℕ) → List (List ℕ)
begun c [] = (c ∷ []) ∷ []
begun c (line ∷ lines) = (c ∷ line) ∷ lines

-- the lines of a text, each with the newline, 10, that ends it
unfoldable pub lines_of : List ℕ → List (List ℕ)
lines_of [] = []
lines_of (c ∷ cs) = cond (eqb c 10) ((c ∷ []) ∷ lines_of cs) (begun c (lines_of cs))

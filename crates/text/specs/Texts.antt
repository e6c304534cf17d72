-- Document 01, "Run over a log", the part on the program `sheet`: the text of a number, of a line and of the end.
-- Defines: newline, space, slash, digit_zero, colon, digits, most_digits, decimal, partner_number, action_text, line_text, end_text,
-- placed.
use Rattle.std.specs.Prelude.{ℕ, zero, suc, ◌+◌, ◌*◌, ◌/◌, ◌%◌, cond, List, [], ◌∷◌, ◌++◌, ltb, leb, length}
use Rattle.std.specs.Prelude.{drop}
use Rattle.wire.specs.Blocks.{blocks}
use Rattle.record.specs.declared.partner.Partner.{Partner}
use Rattle.unit.specs.declared.answer.Action.{Action}

-- the characters of a sheet
abbrev pub newline : ℕ
newline = 10

abbrev pub space : ℕ
space = 32

abbrev pub slash : ℕ
slash = 47

abbrev pub digit_zero : ℕ
digit_zero = 48

abbrev pub colon : ℕ
colon = 58

-- the decimal digits of a number, highest first, at most so many
unfoldable pub digits : ℕ → ℕ → List ℕ
digits zero n = []
digits (suc k) n = cond (ltb n 10) ((digit_zero + n) ∷ []) (digits k (n / 10) ++ ((digit_zero + n % 10) ∷ []))

-- no number of a sheet has more than ten
abbrev pub most_digits : ℕ
most_digits = 10

-- "numbers are decimal"
abbrev pub decimal : ℕ → List ℕ
decimal n = digits most_digits n

-- a partner's 24-bit number
abbrev pub partner_number : Partner → ℕ
partner_number p = p.high * 65536 + p.middle * 256 + p.low

-- "each action as number:type/partner", after the space that separates it
unfoldable pub action_text : Action → List ℕ
action_text a =
    (space ∷ decimal a.number) ++ ((colon ∷ decimal a.partner.kind) ++ (slash ∷ decimal (partner_number a.partner)))

-- "one line a record (number from 1, kind, 0 or refusal, each action ..)"
unfoldable pub line_text : ℕ → ℕ → ℕ → List Action → List ℕ
line_text number kind code acts =
    decimal number ++ ((space ∷ decimal kind) ++ ((space ∷ decimal code) ++ (blocks action_text acts ++ (newline ∷ []))))

-- "and `end`, stop, records read"
unfoldable pub end_text : ℕ → ℕ → List ℕ
end_text stop read = (101 ∷ 110 ∷ 100 ∷ space ∷ []) ++ (decimal stop ++ ((space ∷ decimal read) ++ (newline ∷ [])))

-- a text put to the front of a lent buffer, where it has room; later bytes stay
unfoldable pub placed : List ℕ → List ℕ → List ℕ
placed text buffer = cond (leb (length text) (length buffer)) (text ++ drop (length text) buffer) buffer

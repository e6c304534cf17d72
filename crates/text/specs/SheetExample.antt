-- Examples only: nobody has to believe what stands here.
-- Document 01, "Run over a log": the sheet that is printed there, its input and its output, whole; and one with refusals, with two
-- actions for a record, and with a record that is cut.
-- Defines: example_input, example_text, refusals_input, refusals_text, to.
use Rattle.std.specs.Prelude.{ℕ, List, [], ◌∷◌}
use Rattle.unit.specs.declared.answer.Action.{Action}

-- "Input, hex", a record a line
unfoldable pub example_input : List ℕ
example_input =
    0x05 ∷ 0x00 ∷ 0x00 ∷ 0x00 ∷ 0x05 ∷ 0x01 ∷ 0x01
    ∷ 0x08 ∷ 0x00 ∷ 0x00 ∷ 0x00 ∷ 0x05
    ∷ 0x0B ∷ 0x00 ∷ 0x00 ∷ 0x00 ∷ 0x05 ∷ 0x20 ∷ 0x11
    ∷ 0x06 ∷ 0x00 ∷ 0x00 ∷ 0x00 ∷ 0x05
    ∷ 0x0B ∷ 0x00 ∷ 0x00 ∷ 0x00 ∷ 0x05 ∷ 0x27 ∷ 0x00
    ∷ []

-- "Output, whole": `rec kind code actions`, `1 5 0 21:0/5`, `2 8 0 155:0/5`, `3 11 0 159:0/5`, `4 6 0 156:0/5`, `5 11 0 22:0/5`,
-- `end 0 5`
unfoldable pub example_text : List ℕ
example_text =
    114 ∷ 101 ∷ 99 ∷ 32 ∷ 107 ∷ 105 ∷ 110 ∷ 100 ∷ 32
    ∷ 99 ∷ 111 ∷ 100 ∷ 101 ∷ 32 ∷ 97 ∷ 99 ∷ 116 ∷ 105 ∷ 111 ∷ 110 ∷ 115 ∷ 10
    ∷ 49 ∷ 32 ∷ 53 ∷ 32 ∷ 48 ∷ 32 ∷ 50 ∷ 49 ∷ 58 ∷ 48 ∷ 47 ∷ 53 ∷ 10
    ∷ 50 ∷ 32 ∷ 56 ∷ 32 ∷ 48 ∷ 32 ∷ 49 ∷ 53 ∷ 53 ∷ 58 ∷ 48 ∷ 47 ∷ 53 ∷ 10
    ∷ 51 ∷ 32 ∷ 49 ∷ 49 ∷ 32 ∷ 48 ∷ 32 ∷ 49 ∷ 53 ∷ 57 ∷ 58 ∷ 48 ∷ 47 ∷ 53 ∷ 10
    ∷ 52 ∷ 32 ∷ 54 ∷ 32 ∷ 48 ∷ 32 ∷ 49 ∷ 53 ∷ 54 ∷ 58 ∷ 48 ∷ 47 ∷ 53 ∷ 10
    ∷ 53 ∷ 32 ∷ 49 ∷ 49 ∷ 32 ∷ 48 ∷ 32 ∷ 50 ∷ 50 ∷ 58 ∷ 48 ∷ 47 ∷ 53 ∷ 10
    ∷ 101 ∷ 110 ∷ 100 ∷ 32 ∷ 48 ∷ 32 ∷ 53 ∷ 10
    ∷ []

-- a hole left outside one; a call from an RIU; an order to an RIU, its connection up, a version that is not supported; a call from RBC
-- 66051; an order that lacks its last byte
unfoldable pub refusals_input : List ℕ
refusals_input =
    0x04 ∷ 0x00
    ∷ 0x0B ∷ 0x01 ∷ 0x02 ∷ 0x03 ∷ 0x04 ∷ 0x26 ∷ 0x00
    ∷ 0x05 ∷ 0x01 ∷ 0x00 ∷ 0x00 ∷ 0x02 ∷ 0x01 ∷ 0x01
    ∷ 0x08 ∷ 0x01 ∷ 0x00 ∷ 0x00 ∷ 0x02
    ∷ 0x0B ∷ 0x01 ∷ 0x00 ∷ 0x00 ∷ 0x02 ∷ 0x20 ∷ 0x30
    ∷ 0x0B ∷ 0x00 ∷ 0x01 ∷ 0x02 ∷ 0x03 ∷ 0x26 ∷ 0x00
    ∷ 0x05 ∷ 0x00 ∷ 0x00 ∷ 0x00 ∷ 0x05 ∷ 0x01
    ∷ []

-- `rec kind code actions`, `1 4 7`, `2 11 9`, `3 5 0 21:1/2`, `4 8 0 155:1/2`, `5 11 0 154:1/2 156:1/2`, `6 11 0 159:0/66051`, `end 2 6`
unfoldable pub refusals_text : List ℕ
refusals_text =
    114 ∷ 101 ∷ 99 ∷ 32 ∷ 107 ∷ 105 ∷ 110 ∷ 100 ∷ 32
    ∷ 99 ∷ 111 ∷ 100 ∷ 101 ∷ 32 ∷ 97 ∷ 99 ∷ 116 ∷ 105 ∷ 111 ∷ 110 ∷ 115 ∷ 10
    ∷ 49 ∷ 32 ∷ 52 ∷ 32 ∷ 55 ∷ 10
    ∷ 50 ∷ 32 ∷ 49 ∷ 49 ∷ 32 ∷ 57 ∷ 10
    ∷ 51 ∷ 32 ∷ 53 ∷ 32 ∷ 48 ∷ 32 ∷ 50 ∷ 49 ∷ 58 ∷ 49 ∷ 47 ∷ 50 ∷ 10
    ∷ 52 ∷ 32 ∷ 56 ∷ 32 ∷ 48 ∷ 32 ∷ 49 ∷ 53 ∷ 53 ∷ 58 ∷ 49 ∷ 47 ∷ 50 ∷ 10
    ∷ 53 ∷ 32 ∷ 49 ∷ 49 ∷ 32 ∷ 48
    ∷ 32 ∷ 49 ∷ 53 ∷ 52 ∷ 58 ∷ 49 ∷ 47 ∷ 50 ∷ 32 ∷ 49 ∷ 53 ∷ 54 ∷ 58 ∷ 49 ∷ 47 ∷ 50 ∷ 10
    ∷ 54 ∷ 32 ∷ 49 ∷ 49 ∷ 32 ∷ 48 ∷ 32 ∷ 49 ∷ 53 ∷ 57 ∷ 58 ∷ 48 ∷ 47 ∷ 54 ∷ 54 ∷ 48 ∷ 53 ∷ 49 ∷ 10
    ∷ 101 ∷ 110 ∷ 100 ∷ 32 ∷ 50 ∷ 32 ∷ 54 ∷ 10
    ∷ []

-- an action with this number to the RBC with this one
abbrev pub to : ℕ → ℕ → Action
to number low = record { number = number; partner = record { kind = 0; high = 0; middle = 0; low = low } }

-- Examples only: nobody has to believe what stands here.
-- Document 01, "Marked examples", in bytes: what each record of P1 to P10 leaves in a buffer of 20 bytes that was all 255, by "Actions are
-- five bytes: number, partner" and "later bytes stay".
-- Defines: lent, sent_bytes, got_bytes, want_bytes.
use Rattle.std.specs.Prelude.{ℕ, List, [], ◌∷◌, ◌++◌, map, length, drop, replicate}
use Rattle.unit.specs.OnRecords.{action_room, written}
use Rattle.unit.specs.Examples.{Line, got}

-- the buffer before each record
abbrev pub lent : List ℕ
lent = replicate action_room 255

-- P1: "the five records above"
p1_bytes : List (List ℕ)
p1_bytes =
    (21 ∷ 0 ∷ 0 ∷ 0 ∷ 5 ∷ [])
    ∷ (155 ∷ 0 ∷ 0 ∷ 0 ∷ 5 ∷ [])
    ∷ (159 ∷ 0 ∷ 0 ∷ 0 ∷ 5 ∷ [])
    ∷ (156 ∷ 0 ∷ 0 ∷ 0 ∷ 5 ∷ [])
    ∷ (22 ∷ 0 ∷ 0 ∷ 0 ∷ 5 ∷ [])
    ∷ []

-- P2: "21, 21, 21, 22"
p2_bytes : List (List ℕ)
p2_bytes =
    (21 ∷ 0 ∷ 0 ∷ 0 ∷ 5 ∷ [])
    ∷ (21 ∷ 0 ∷ 0 ∷ 0 ∷ 5 ∷ [])
    ∷ (21 ∷ 0 ∷ 0 ∷ 0 ∷ 5 ∷ [])
    ∷ (22 ∷ 0 ∷ 0 ∷ 0 ∷ 5 ∷ [])
    ∷ []

-- P3: "154, 156"
p3_bytes : List (List ℕ)
p3_bytes =
    (21 ∷ 0 ∷ 0 ∷ 0 ∷ 5 ∷ [])
    ∷ (155 ∷ 0 ∷ 0 ∷ 0 ∷ 5 ∷ [])
    ∷ (154 ∷ 0 ∷ 0 ∷ 0 ∷ 5 ∷ 156 ∷ 0 ∷ 0 ∷ 0 ∷ 5 ∷ [])
    ∷ []

-- P4: version 128 is refused, so no byte; then "159"
p4_bytes : List (List ℕ)
p4_bytes =
    (21 ∷ 0 ∷ 0 ∷ 0 ∷ 5 ∷ [])
    ∷ (155 ∷ 0 ∷ 0 ∷ 0 ∷ 5 ∷ [])
    ∷ []
    ∷ (159 ∷ 0 ∷ 0 ∷ 0 ∷ 5 ∷ [])
    ∷ []

-- P5: a 159 for each call taken, no byte for the two refused
p5_bytes : List (List ℕ)
p5_bytes =
    (159 ∷ 0 ∷ 0 ∷ 0 ∷ 1 ∷ [])
    ∷ (159 ∷ 0 ∷ 0 ∷ 0 ∷ 2 ∷ [])
    ∷ (159 ∷ 0 ∷ 0 ∷ 0 ∷ 3 ∷ [])
    ∷ (159 ∷ 0 ∷ 0 ∷ 0 ∷ 4 ∷ [])
    ∷ []
    ∷ []
    ∷ []

-- P6: "then" a third refusal
p6_bytes : List (List ℕ)
p6_bytes =
    (159 ∷ 0 ∷ 0 ∷ 0 ∷ 1 ∷ [])
    ∷ (159 ∷ 0 ∷ 0 ∷ 0 ∷ 2 ∷ [])
    ∷ (159 ∷ 0 ∷ 0 ∷ 0 ∷ 3 ∷ [])
    ∷ (159 ∷ 0 ∷ 0 ∷ 0 ∷ 4 ∷ [])
    ∷ []
    ∷ []
    ∷ []
    ∷ []

-- P7: "156:0/1, then 21:0/3"
p7_bytes : List (List ℕ)
p7_bytes =
    (159 ∷ 0 ∷ 0 ∷ 0 ∷ 1 ∷ [])
    ∷ (21 ∷ 1 ∷ 0 ∷ 0 ∷ 2 ∷ [])
    ∷ (155 ∷ 1 ∷ 0 ∷ 0 ∷ 2 ∷ [])
    ∷ (159 ∷ 1 ∷ 0 ∷ 0 ∷ 2 ∷ [])
    ∷ (156 ∷ 0 ∷ 0 ∷ 0 ∷ 1 ∷ 21 ∷ 0 ∷ 0 ∷ 0 ∷ 3 ∷ [])
    ∷ []

-- P8: "level 1 gives 4, level 2 gives 21"
p8_bytes : List (List ℕ)
p8_bytes =
    []
    ∷ []
    ∷ []
    ∷ []
    ∷ (21 ∷ 0 ∷ 0 ∷ 0 ∷ 5 ∷ [])
    ∷ []

-- P9: "order cause 4: 21", and no byte for the second
p9_bytes : List (List ℕ)
p9_bytes =
    []
    ∷ []
    ∷ []
    ∷ (21 ∷ 0 ∷ 0 ∷ 0 ∷ 5 ∷ [])
    ∷ []
    ∷ []

-- P10: "eleven actions"
p10_bytes : List (List ℕ)
p10_bytes =
    (21 ∷ 0 ∷ 0 ∷ 0 ∷ 5 ∷ [])
    ∷ (21 ∷ 0 ∷ 0 ∷ 0 ∷ 5 ∷ [])
    ∷ (21 ∷ 0 ∷ 0 ∷ 0 ∷ 5 ∷ [])
    ∷ (155 ∷ 0 ∷ 0 ∷ 0 ∷ 5 ∷ [])
    ∷ (155 ∷ 0 ∷ 0 ∷ 0 ∷ 5 ∷ [])
    ∷ (155 ∷ 0 ∷ 0 ∷ 0 ∷ 5 ∷ [])
    ∷ (159 ∷ 0 ∷ 0 ∷ 0 ∷ 5 ∷ [])
    ∷ (156 ∷ 0 ∷ 0 ∷ 0 ∷ 5 ∷ [])
    ∷ (156 ∷ 0 ∷ 0 ∷ 0 ∷ 5 ∷ [])
    ∷ (156 ∷ 0 ∷ 0 ∷ 0 ∷ 5 ∷ [])
    ∷ (22 ∷ 0 ∷ 0 ∷ 0 ∷ 5 ∷ [])
    ∷ []

-- the bytes that each record of P1 to P10 sends
unfoldable pub sent_bytes : List (List (List ℕ))
unfolding p1_bytes p2_bytes p3_bytes p4_bytes p5_bytes p6_bytes p7_bytes p8_bytes p9_bytes p10_bytes
sent_bytes =
    p1_bytes ∷ p2_bytes ∷ p3_bytes ∷ p4_bytes ∷ p5_bytes ∷ p6_bytes ∷ p7_bytes ∷ p8_bytes ∷ p9_bytes ∷ p10_bytes ∷ []

-- what the defined step leaves in the buffer after each record of an example
unfoldable pub got_bytes : List Line → List (List ℕ)
unfolding got
got_bytes lines = map (λ o. written o.actions lent) (got lines)

-- those bytes, and the buffer's own behind them
unfoldable pub want_bytes : List (List ℕ) → List (List ℕ)
want_bytes rows = map (λ bytes. bytes ++ drop (length bytes) lent) rows

-- Examples only: nobody has to believe what stands here.
-- Calls that are written out, to show that the promises over calls can be met.
-- From the image that a cold start with X 1 to 2 and n tries wrote, into a buffer of 50 bytes. RBC 5 is the partner that waits.
-- Defines: shown_start, shown_before, shown_image, shown_others, shown_rounds, shown_short, shown_calls.
use Rattle.std.specs.Prelude.{ℕ, zero, suc, ◌-◌, List, [], ◌∷◌, ◌++◌, replicate}
use Rattle.history.specs.Reaching.{order5, up5, lost5, timeout5, call5}
use Rattle.firmware.specs.Along.{Lent, seen_along, last_image}
use Rattle.firmware.specs.AlongWords.{lent_with}
use Rattle.firmware.specs.AlongWords.{first_image}

-- the image of the cold start
abbrev pub shown_start : ℕ → List ℕ
shown_start n = first_image 1 2 n (replicate 50 1)

-- RBC 5 is ordered and its connection is up, so it waits in Contacting; RIU 7 is ordered
abbrev pub shown_before : List Lent
shown_before = lent_with (replicate 20 0) (order5 ∷ up5 ∷ (5 ∷ 1 ∷ 0 ∷ 0 ∷ 7 ∷ 1 ∷ 1 ∷ []) ∷ [])

-- the image after that
unfoldable pub shown_image : ℕ → List ℕ
shown_image n = last_image (shown_start n) (seen_along (shown_start n) shown_before)

-- of nobody: a mode change; of others: a timeout of RIU 7, a call from RBC 6; refused with 1, 2 and 3, the number of RBC 5 in them: a
-- timeout cut short, a kind 12, a version 128
abbrev pub shown_others : List Lent
shown_others =
    lent_with (replicate 20 0)
    ((3 ∷ [])
    ∷ (10 ∷ 1 ∷ 0 ∷ 0 ∷ 7 ∷ [])
    ∷ (11 ∷ 0 ∷ 0 ∷ 0 ∷ 6 ∷ 38 ∷ 0 ∷ [])
    ∷ (10 ∷ 0 ∷ 0 ∷ 5 ∷ [])
    ∷ (12 ∷ 0 ∷ 0 ∷ 0 ∷ 5 ∷ [])
    ∷ (11 ∷ 0 ∷ 0 ∷ 0 ∷ 5 ∷ 32 ∷ 128 ∷ [])
    ∷ [])

-- so many timeouts of RBC 5, each after those of the others, with a buffer of 23 bytes
unfoldable pub shown_rounds : ℕ → List Lent
shown_rounds zero = []
shown_rounds (suc k) = shown_others ++ (record { bytes = timeout5; actions = replicate 23 9 } ∷ shown_rounds k)

-- the same up to the last timeout, which is left out
abbrev pub shown_short : ℕ → List Lent
shown_short n = shown_rounds (n - 1) ++ shown_others

-- all of it with three tries, and then a call from RBC 5 and its loss
abbrev pub shown_calls : List Lent
shown_calls = shown_before ++ (shown_rounds 3 ++ lent_with (replicate 20 0) (call5 ∷ lost5 ∷ []))

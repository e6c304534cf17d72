-- Examples only: nobody has to believe what stands here.
-- A log of 258 records with its one mark, and what is appended to it, for computed instances.
-- Defines: marked_limits, mode_log, marked_log, shown_mark, cut_log, later_part.
use Rattle.std.specs.Prelude.{ℕ, List, [], ◌∷◌, ◌++◌, replicate}
use Rattle.place.specs.declared.limits.Limits.{Limits}
use Rattle.unit.specs.States.{one_to_two}

-- X 1 to 2, three tries
abbrev pub marked_limits : Limits
marked_limits = one_to_two 3

-- so many mode changes, a byte each
abbrev pub mode_log : ℕ → List ℕ
mode_log n = replicate n 3

-- order, connection up, message 32, 253 mode changes; then drop and message 39
abbrev pub marked_log : List ℕ
marked_log =
    5 ∷ 0 ∷ 0 ∷ 0 ∷ 5 ∷ 1 ∷ 1
    ∷ 8 ∷ 0 ∷ 0 ∷ 0 ∷ 5
    ∷ 11 ∷ 0 ∷ 0 ∷ 0 ∷ 5 ∷ 32 ∷ 17
    ∷ (mode_log 253 ++ (6 ∷ 0 ∷ 0 ∷ 0 ∷ 5 ∷ 11 ∷ 0 ∷ 0 ∷ 0 ∷ 5 ∷ 39 ∷ 0 ∷ []))

-- its mark: A3, the offset 272, and A2 with RBC 5 open in place 0
abbrev pub shown_mark : List ℕ
shown_mark =
    0xA3 ∷ 0 ∷ 0 ∷ 1 ∷ 16
    ∷ 0xA2 ∷ 1 ∷ 2 ∷ 0 ∷ 0 ∷ 0 ∷ 1 ∷ 0 ∷ 0
    ∷ 3 ∷ 0 ∷ 0 ∷ 0 ∷ 0 ∷ 0 ∷ 5
    ∷ (replicate 21 0 ++ (3 ∷ 1 ∷ 0 ∷ 0 ∷ 5 ∷ []))

-- the same log with two bytes of a loss behind it: the run stops there with 2
abbrev pub cut_log : List ℕ
cut_log = marked_log ++ (9 ∷ 0 ∷ [])

-- the other three, and 256 mode changes
abbrev pub later_part : List ℕ
later_part = 0 ∷ 0 ∷ 5 ∷ mode_log 256

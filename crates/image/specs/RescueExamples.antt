-- Examples only: nobody has to believe what stands here.
-- Images for the instances of request Q-13.
-- Defines: spoilt_example, mended_example, every_example.
use Rattle.std.specs.Prelude.{ℕ, List, [], ◌∷◌}

-- an image with three tries: inside 7 beside a hole end of 1; RBC 5 with four tries, then twice good; a free place with another byte
-- than 0; the reserved RBC as the last known one
abbrev pub spoilt_example : List ℕ
spoilt_example =
    0xA2
    ∷ 1 ∷ 2 ∷ 2 ∷ 1
    ∷ 7 ∷ 0 ∷ 1 ∷ 1
    ∷ 1 ∷ 0 ∷ 4 ∷ 0 ∷ 0 ∷ 0 ∷ 5
    ∷ 3 ∷ 0 ∷ 0 ∷ 0 ∷ 0 ∷ 0 ∷ 5
    ∷ 4 ∷ 0 ∷ 1 ∷ 0 ∷ 0 ∷ 0 ∷ 5
    ∷ 0 ∷ 0 ∷ 0 ∷ 0 ∷ 0 ∷ 0 ∷ 9
    ∷ 3
    ∷ 1 ∷ 0 ∷ 63 ∷ 255
    ∷ []

abbrev pub mended_example : List ℕ
mended_example =
    0xA2
    ∷ 1 ∷ 2 ∷ 2 ∷ 1
    ∷ 0 ∷ 0 ∷ 1 ∷ 1
    ∷ 0 ∷ 0 ∷ 0 ∷ 0 ∷ 0 ∷ 0 ∷ 0
    ∷ 3 ∷ 0 ∷ 0 ∷ 0 ∷ 0 ∷ 0 ∷ 5
    ∷ 0 ∷ 0 ∷ 0 ∷ 0 ∷ 0 ∷ 0 ∷ 0
    ∷ 0 ∷ 0 ∷ 0 ∷ 0 ∷ 0 ∷ 0 ∷ 0
    ∷ 3
    ∷ 0 ∷ 0 ∷ 0 ∷ 0
    ∷ []

-- one in which every field that can change is bad
abbrev pub every_example : List ℕ
every_example =
    0xA2
    ∷ 0 ∷ 7 ∷ 5 ∷ 3
    ∷ 4 ∷ 2 ∷ 9 ∷ 255
    ∷ 1 ∷ 0 ∷ 4 ∷ 0 ∷ 0 ∷ 0 ∷ 5
    ∷ 6 ∷ 0 ∷ 1 ∷ 0 ∷ 0 ∷ 0 ∷ 6
    ∷ 3 ∷ 1 ∷ 0 ∷ 1 ∷ 0 ∷ 0 ∷ 7
    ∷ 0 ∷ 0 ∷ 0 ∷ 0 ∷ 0 ∷ 0 ∷ 8
    ∷ 3
    ∷ 0 ∷ 0 ∷ 0 ∷ 7
    ∷ []

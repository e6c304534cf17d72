-- Cross-checks only: nobody has to believe what stands here.
-- Request Q-9, what a refusal leaves: each field of the answer, and the lent room.
-- Defines: JudgeRefuses, ProduceRefuses.
use Rattle.std.specs.Prelude.{ℕ, ◌≡◌, List, length}
use Rattle.place.specs.declared.limits.Limits.{Limits}
use Rattle.judge.specs.declared.due.Due.TheVariants.{AnEvent}
use Rattle.judge.specs.declared.due.Finding.TheVariants.{Right}
use Rattle.judge.specs.declared.judge.Verdict.{Verdict}
use Rattle.judge.specs.Producing.{produced, produced_room}

-- the judge answers this number, no record and offset 0; what stands and what is due are those of an empty sheet
abbrev pub JudgeRefuses : ℕ → Verdict → Type 0
JudgeRefuses r v =
    (v.code ≡ r)
    × (v.records ≡ 0)
    × (v.point.at ≡ 0)
    × (v.point.stands ≡ Right)
    × (v.point.due ≡ AnEvent)

-- our own side answers this number, no byte, no record and stop 0; "nothing is written on a refusal"
abbrev pub ProduceRefuses : ℕ → Limits → List ℕ → List ℕ → Type 0
ProduceRefuses r l log room =
    ((produced l log (length room)).code ≡ r)
    × ((produced l log (length room)).written ≡ 0)
    × ((produced l log (length room)).records ≡ 0)
    × ((produced l log (length room)).stop ≡ 0)
    × (produced_room l log room ≡ room)

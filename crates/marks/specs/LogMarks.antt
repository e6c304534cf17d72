-- Cross-checks only: nobody has to believe what stands here.
-- Request Q-12, what the promises speak of: the run of n records from a cold start, and all marks of a log.
-- Defines: marks_of.
use Rattle.std.specs.Prelude.{ℕ, List}
use Rattle.wire.specs.Blocks.{blocks}
use Rattle.place.specs.declared.limits.Limits.{Limits}
use Rattle.unit.specs.States.{cold}
use Rattle.marks.specs.Marks.{marks_from, mark_count}

-- the bytes of all marks of a log
abbrev pub marks_of : Limits → List ℕ → List ℕ
marks_of l log = blocks (λ mark. mark) (marks_from (mark_count 0 log) (cold l) 0 log)

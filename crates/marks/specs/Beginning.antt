-- Only private contracts use what stands here: the point from which extending and a lookup begin, with the refusals that they share, and
-- what extending answers to a refusal.
-- Defines: begins_at, extend_refused.
use Rattle.std.specs.Prelude.{ℕ, cond, List, leb, length}
use Rattle.wire.specs.Refusals.{log_too_long, bad_limits}
use Rattle.record.specs.Takes.{longest_log}
use Rattle.place.specs.declared.limits.Limits.{Limits}
use Rattle.unit.specs.States.{limits_ok, cold}
use Rattle.marks.specs.declared.mark.Begun.{Begun}
use Rattle.marks.specs.declared.build.Marked.{Marked}
use Rattle.marks.specs.Marks.{begun_refused, begun_at}

-- 13, 12, and then where the mark of this number leads from a cold start
unfoldable pub begins_at : Limits → List ℕ → List ℕ → ℕ → ℕ → Begun
begins_at l log marks number missing =
    cond (limits_ok l)
    (cond (leb (length log) longest_log) (begun_at (cold l) log marks number missing) (begun_refused log_too_long))
    (begun_refused bad_limits)

-- a refused one answers its number alone
abbrev pub extend_refused : ℕ → Marked
extend_refused r = record { code = r; marks = 0 }

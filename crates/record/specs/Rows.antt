-- Only private contracts use what stands here: the fields of a record of one kind, its length known.
-- Defines: fields.
use Rattle.std.specs.Prelude.{cond, List, ℕ}
use Rattle.wire.specs.Refusals.{out_of_range}
use Rattle.record.specs.Records.{KindRow}
use Rattle.record.specs.Readings.{Reading}
use Rattle.record.specs.Readings.{Meant, Refused}

-- the fields of a record: its event where each is in its range, else refusal 3
abbrev pub fields : KindRow → List ℕ → Reading
fields r s = cond (r.ranges s) (Meant (r.means s)) (Refused out_of_range)

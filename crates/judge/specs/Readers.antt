-- Document 01, "A reader holds the sheet and the offset reached": the reader, made and moved, and what it tells.
-- Defines: opened, moved_to, reader_stands, reader_judged.
use Rattle.std.specs.Prelude.{ℕ, List}
use Rattle.std.specs.Borrow.{Bor}
use Rattle.place.specs.declared.limits.Limits.{Limits}
use Rattle.judge.specs.declared.due.Due.{Due}
use Rattle.judge.specs.declared.due.Finding.{Finding}
use Rattle.judge.specs.declared.judge.Verdict.{Verdict}
use Rattle.judge.specs.declared.reader.Reader.{Reader}
use Rattle.judge.specs.Judging.{stands_at, judge_from}

-- a reader at the beginning of a lent sheet
abbrev pub opened : Bor (List ℕ) → Reader
opened sheet = record { sheet = sheet; at = 0 }

-- the same sheet, this offset
abbrev pub moved_to : Reader → ℕ → Reader
moved_to r at = record { sheet = r.sheet; at = at }

-- what stands at the offset reached
abbrev pub reader_stands : Reader → Due → Finding
reader_stands r due = stands_at due r.sheet.now r.at

-- the judge from the offset reached on
abbrev pub reader_judged : Reader → Limits → Verdict
reader_judged r l = judge_from l r.sheet.now r.at

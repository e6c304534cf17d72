-- Examples only: nobody has to believe what stands here.
-- Request Q-9, sheets with what the judge answers them: that of document 01's five records (its P1), the same with one fault, and others.
-- Defines: shown_limits, shown_row, shown_log, shown_sheet, wrong_sheet, rbc_action, JudgedSheet, judged_as, two_closed, two_turned,
-- judged_sheets.
use Rattle.std.specs.Prelude.{ℕ, List, [], ◌∷◌, ◌++◌, take, drop}
use Rattle.record.specs.Partners.{rbc}
use Rattle.place.specs.declared.limits.Limits.{Limits}
use Rattle.unit.specs.States.{one_to_two}
use Rattle.unit.specs.declared.answer.Action.{Action}
use Rattle.judge.specs.declared.due.Due.{Due}
use Rattle.judge.specs.declared.due.Due.TheVariants.{AnEvent, TheAnswer, TheAction}
use Rattle.judge.specs.declared.due.Finding.{Finding}
use Rattle.judge.specs.declared.due.Finding.TheVariants.{Right, Wrong, Short, Missing}
use Rattle.judge.specs.declared.judge.Verdict.{Verdict}
use Rattle.judge.specs.Judging.{point_at, verdict_at}

-- X 1 to 2, three tries
abbrev pub shown_limits : Limits
shown_limits = one_to_two 3

-- order, connection up, message 32, drop, message 39
abbrev pub shown_row : List (List ℕ)
shown_row =
    (5 ∷ 0 ∷ 0 ∷ 0 ∷ 5 ∷ 1 ∷ 1 ∷ [])
    ∷ (8 ∷ 0 ∷ 0 ∷ 0 ∷ 5 ∷ [])
    ∷ (11 ∷ 0 ∷ 0 ∷ 0 ∷ 5 ∷ 32 ∷ 17 ∷ [])
    ∷ (6 ∷ 0 ∷ 0 ∷ 0 ∷ 5 ∷ [])
    ∷ (11 ∷ 0 ∷ 0 ∷ 0 ∷ 5 ∷ 39 ∷ 0 ∷ [])
    ∷ []

-- the same as a log
abbrev pub shown_log : List ℕ
shown_log =
    5 ∷ 0 ∷ 0 ∷ 0 ∷ 5 ∷ 1 ∷ 1
    ∷ 8 ∷ 0 ∷ 0 ∷ 0 ∷ 5
    ∷ 11 ∷ 0 ∷ 0 ∷ 0 ∷ 5 ∷ 32 ∷ 17
    ∷ 6 ∷ 0 ∷ 0 ∷ 0 ∷ 5
    ∷ 11 ∷ 0 ∷ 0 ∷ 0 ∷ 5 ∷ 39 ∷ 0
    ∷ []

-- each record, its answer, its action
abbrev pub shown_sheet : List ℕ
shown_sheet =
    5 ∷ 0 ∷ 0 ∷ 0 ∷ 5 ∷ 1 ∷ 1 ∷ 30 ∷ 0 ∷ 21 ∷ 0 ∷ 0 ∷ 0 ∷ 5
    ∷ 8 ∷ 0 ∷ 0 ∷ 0 ∷ 5 ∷ 30 ∷ 0 ∷ 155 ∷ 0 ∷ 0 ∷ 0 ∷ 5
    ∷ 11 ∷ 0 ∷ 0 ∷ 0 ∷ 5 ∷ 32 ∷ 17 ∷ 30 ∷ 0 ∷ 159 ∷ 0 ∷ 0 ∷ 0 ∷ 5
    ∷ 6 ∷ 0 ∷ 0 ∷ 0 ∷ 5 ∷ 30 ∷ 0 ∷ 156 ∷ 0 ∷ 0 ∷ 0 ∷ 5
    ∷ 11 ∷ 0 ∷ 0 ∷ 0 ∷ 5 ∷ 39 ∷ 0 ∷ 30 ∷ 0 ∷ 22 ∷ 0 ∷ 0 ∷ 0 ∷ 5
    ∷ []

-- the third answer says 7
abbrev pub wrong_sheet : List ℕ
wrong_sheet =
    5 ∷ 0 ∷ 0 ∷ 0 ∷ 5 ∷ 1 ∷ 1 ∷ 30 ∷ 0 ∷ 21 ∷ 0 ∷ 0 ∷ 0 ∷ 5
    ∷ 8 ∷ 0 ∷ 0 ∷ 0 ∷ 5 ∷ 30 ∷ 0 ∷ 155 ∷ 0 ∷ 0 ∷ 0 ∷ 5
    ∷ 11 ∷ 0 ∷ 0 ∷ 0 ∷ 5 ∷ 32 ∷ 17 ∷ 30 ∷ 7 ∷ 159 ∷ 0 ∷ 0 ∷ 0 ∷ 5
    ∷ 6 ∷ 0 ∷ 0 ∷ 0 ∷ 5 ∷ 30 ∷ 0 ∷ 156 ∷ 0 ∷ 0 ∷ 0 ∷ 5
    ∷ 11 ∷ 0 ∷ 0 ∷ 0 ∷ 5 ∷ 39 ∷ 0 ∷ 30 ∷ 0 ∷ 22 ∷ 0 ∷ 0 ∷ 0 ∷ 5
    ∷ []

-- an action for "RBC k"
abbrev pub rbc_action : ℕ → ℕ → Action
rbc_action number k = record { number = number; partner = record { kind = rbc; high = 0; middle = 0; low = k } }

-- a sheet, and what the judge answers it
pub record JudgedSheet : Type 0 where
  pub sheet : List ℕ
  pub answer : Verdict

-- the event records counted, what stands, at which offset, and what is due there
abbrev pub judged_as : List ℕ → ℕ → Finding → ℕ → Due → JudgedSheet
judged_as sheet records stands at due = record { sheet = sheet; answer = verdict_at records (point_at stands at due) }

-- calls of RBC 1 and RBC 2, and an order to RBC 3 that accepts no other: it closes both, the lowest place first
abbrev pub two_closed : List ℕ
two_closed =
    11 ∷ 0 ∷ 0 ∷ 0 ∷ 1 ∷ 38 ∷ 0 ∷ 30 ∷ 0 ∷ 159 ∷ 0 ∷ 0 ∷ 0 ∷ 1
    ∷ 11 ∷ 0 ∷ 0 ∷ 0 ∷ 2 ∷ 38 ∷ 0 ∷ 30 ∷ 0 ∷ 159 ∷ 0 ∷ 0 ∷ 0 ∷ 2
    ∷ 5 ∷ 0 ∷ 0 ∷ 0 ∷ 3 ∷ 0 ∷ 1 ∷ 30 ∷ 0
    ∷ 156 ∷ 0 ∷ 0 ∷ 0 ∷ 1 ∷ 156 ∷ 0 ∷ 0 ∷ 0 ∷ 2 ∷ 21 ∷ 0 ∷ 0 ∷ 0 ∷ 3
    ∷ []

-- the same with RBC 2 closed before RBC 1
abbrev pub two_turned : List ℕ
two_turned =
    11 ∷ 0 ∷ 0 ∷ 0 ∷ 1 ∷ 38 ∷ 0 ∷ 30 ∷ 0 ∷ 159 ∷ 0 ∷ 0 ∷ 0 ∷ 1
    ∷ 11 ∷ 0 ∷ 0 ∷ 0 ∷ 2 ∷ 38 ∷ 0 ∷ 30 ∷ 0 ∷ 159 ∷ 0 ∷ 0 ∷ 0 ∷ 2
    ∷ 5 ∷ 0 ∷ 0 ∷ 0 ∷ 3 ∷ 0 ∷ 1 ∷ 30 ∷ 0
    ∷ 156 ∷ 0 ∷ 0 ∷ 0 ∷ 2 ∷ 156 ∷ 0 ∷ 0 ∷ 0 ∷ 1 ∷ 21 ∷ 0 ∷ 0 ∷ 0 ∷ 3
    ∷ []

-- the shown sheet cut before its first answer and within it, before its first action and within it, without that action, with that action
-- twice, and cut within its first event record; an answer alone; P9's hole left at the cold start, which is refused with 7, and the same
-- with another answer; the two sheets above
unfoldable pub judged_sheets : List JudgedSheet
judged_sheets =
    judged_as (take 7 shown_sheet) 0 Missing 7 (TheAnswer 0)
    ∷ judged_as (take 8 shown_sheet) 0 Short 7 (TheAnswer 0)
    ∷ judged_as (take 9 shown_sheet) 0 Missing 9 (TheAction (rbc_action 21 5))
    ∷ judged_as (take 11 shown_sheet) 0 Short 9 (TheAction (rbc_action 21 5))
    ∷ judged_as (take 9 shown_sheet ++ drop 14 shown_sheet) 0 Wrong 9 (TheAction (rbc_action 21 5))
    ∷ judged_as (take 14 shown_sheet ++ drop 9 shown_sheet) 1 Wrong 14 AnEvent
    ∷ judged_as (take 3 shown_sheet) 0 Short 0 AnEvent
    ∷ judged_as (30 ∷ 0 ∷ []) 0 Wrong 0 AnEvent
    ∷ judged_as (4 ∷ 0 ∷ 30 ∷ 7 ∷ []) 1 Right 4 AnEvent
    ∷ judged_as (4 ∷ 0 ∷ 30 ∷ 0 ∷ []) 0 Wrong 2 (TheAnswer 7)
    ∷ judged_as two_closed 3 Right 52 AnEvent
    ∷ judged_as two_turned 2 Wrong 37 (TheAction (rbc_action 156 1))
    ∷ []

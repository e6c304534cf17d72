-- The cold start, the length, and then the walk.
use Rattle.std.proofs.Common.{length, sym, ap, ◌∙◌}
use Rattle.unit.specs.declared.start.Started.{Started}
use Rattle.judge.specs.Judging.{judged_from, judge_refused}
use Rattle.judge.proofs.Starting.{judge-bad-limits, judge-too-long, judge-walks}
use Rattle.judge.proofs.judge.judge_from.Goals as goal

pub returns-then-code-ne-ACCEPTED : goal.returns-then-code-ne-ACCEPTED
returns-then-code-ne-ACCEPTED c =
    let code = ap (λ (s : Started). s.code) c.cold_start-started.ensures in
    c.refused.ensures
    ∙ ap judge_refused code
    ∙ judge-bad-limits c.args.limits c.args.sheet.now c.args.at (λ ok. c.if-code-ne-ACCEPTED.true (code ∙ ok))

pub returns-then-sheet-gt-LONGEST_SHEET : goal.returns-then-sheet-gt-LONGEST_SHEET
returns-then-sheet-gt-LONGEST_SHEET c =
    let code = ap (λ (s : Started). s.code) c.cold_start-started.ensures in
    c.refused-then-sheet-gt-LONGEST_SHEET.ensures ∙ ap judge_refused c.number.ensures
    ∙ judge-too-long c.args.limits c.args.sheet.now c.args.at (sym code ∙ c.if-code-ne-ACCEPTED.false)
    c.if-sheet-gt-LONGEST_SHEET.true

pub returns : goal.returns
returns c =
    let code = ap (λ (s : Started). s.code) c.cold_start-started.ensures in
    let sheet = c.args.sheet.now in
    c.walk.ensures
    ∙ ap (λ (s : Started). judged_from (length sheet) s.state sheet c.args.at 0) c.cold_start-started.ensures
    ∙ judge-walks c.args.limits sheet c.args.at (sym code ∙ c.if-code-ne-ACCEPTED.false) c.if-sheet-gt-LONGEST_SHEET.false

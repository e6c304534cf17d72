-- A sheet while it is written: the line of one more record, and what is still to come.
-- Proves: next-line, next-page, whole_part, to-come-stop, to-come-next.
use mathlib.Core.Path.{◌≡◌, refl, sym, ap, ap₂, ◌∙◌}
use mathlib.Core.Logic.{◌⊎◌, inl, inr}
use mathlib.Core.List.{List, [], ◌∷◌, ◌++◌}
use Prim.Native.Nat.{ℕ, zero, suc, ◌+◌, ◌-◌, ◌≤◌, ◌<◌}
use native.Mathlib.Omega.{arith}
use lib.ListN.{length, take, drop, length-drop}
use lib.Seq.{drop-drop, length-take-le}
use Rattle.wire.specs.Bytes.{byte}
use Rattle.unit.specs.Forms.{packed}
use Rattle.unit.specs.OnRecords.{action_room, applied, on_record}
use Rattle.record.specs.Takes.{nothing_left, longest_log, take_one}
use Rattle.unit.specs.Runs.{stops, applies, course}
use Rattle.unit.specs.declared.answer.Answer.{Answer}
use Rattle.unit.specs.declared.state.State.{State}
use Rattle.record.specs.Readings.{Reading}
use Rattle.record.specs.Takes.{Whole, Stopped, Overlong}
use Rattle.unit.proofs.Few.{on_record-few}
use Rattle.unit.proofs.Written.{listed-take}
use Rattle.record.proofs.Takes.{taken-short}
use Rattle.unit.proofs.Runs.Going.{whole-ok}
use Rattle.text.specs.Texts.{line_text, end_text}
use Rattle.text.specs.Sheets.{most_input, sheet_budget, course_text}
use Rattle.text.specs.Pages.{outcome_of, next_line, next_page, to_come}
use Rattle.text.specs.declared.sheet.Page.{Page}

-- the line that the answer to a record gives, and the sheet with it
module _ (p : Page) (bytes : List ℕ) (answer : Answer) (made : answer ≡ packed (applied p.state bytes))
    (kind : ℕ) (first : kind ≡ byte bytes 0) where
  is-given : answer ≡ packed (outcome_of p bytes)
  unfolding on_record
  is-given = made

  pub next-line :
      line_text (p.number + 1) kind answer.code (take answer.actions.count answer.actions.items) ≡ next_line p bytes
  unfolding next_line packed
  next-line =
      let o = outcome_of p bytes in
      ap₂ (λ k (a : Answer). line_text (p.number + 1) k a.code (take a.actions.count a.actions.items)) first is-given
      ∙ ap (line_text (p.number + 1) (byte bytes 0) o.code)
      (listed-take o.actions (on_record-few p.state bytes action_room))

  pub next-page : (used : ℕ)
      → used ≡ p.used + length (next_line p bytes)
      → record { state = answer.state; at = p.at + length bytes; number = p.number + 1; used = used } ≡ next_page p bytes
  unfolding next_page packed
  next-page used size = λ i.
      record { state = (is-given i).state; at = p.at + length bytes; number = p.number + 1; used = size i }

-- a budget of at least as many records as there are bytes is not used up
course-stop : (budget : ℕ) (s : State) (rest : List ℕ) (stop : ℕ)
    → length rest ≤ budget
    → length rest ≤ longest_log
    → (take_one rest ≡ Stopped stop) ⊎ (take_one rest ≡ Overlong stop)
    → course budget s rest ≡ stops stop
unfolding course take_one
course-stop zero s [] stop few small (inl e) = let same : nothing_left ≡ stop = cc in ap stops same
course-stop zero s [] stop few small (inr e) = absurd (let z : ◌≡◌ {A = ℕ} 0 1 = cc in omega arith)
course-stop zero s (kind ∷ rest) stop few small e = absurd (omega arith)
course-stop (suc budget) s rest stop few small (inl e) = rw (taken-short rest small ∙ e) refl
course-stop (suc budget) s rest stop few small (inr e) = rw (taken-short rest small ∙ e) refl

course-step : (budget : ℕ) (s : State) (rest : List ℕ) (k : ℕ) (r : Reading)
    → 0 < length rest
    → length rest ≤ budget
    → length rest ≤ longest_log
    → take_one rest ≡ Whole k r
    → course budget s rest
    ≡ applies (take k rest) (on_record s (take k rest) action_room)
    (course (budget - 1) (on_record s (take k rest) action_room).state (drop k rest))
unfolding course
course-step zero s rest k r some few small e = absurd (omega arith)
course-step (suc budget) s rest k r some few small e =
    let same : budget ≡ suc budget - 1 = omega arith in
    let o = on_record s (take k rest) action_room in
    rw (taken-short rest small ∙ e) (ap (λ b. applies (take k rest) o (course b o.state (drop k rest))) same)

-- where a whole record stands, something is left
whole-some : (rest : List ℕ) (k : ℕ) (r : Reading) → take_one rest ≡ Whole k r → 0 < length rest
unfolding take_one
whole-some [] k r e = absurd (let z : ◌≡◌ {A = ℕ} 0 1 = cc in omega arith)
whole-some (kind ∷ rest) k r e = omega arith

module _ (p : Page) (input : List ℕ) (short : length input ≤ most_input) (counted : p.number ≤ p.at) where
  rest : List ℕ
  rest = drop p.at input

  rest-few : length rest ≤ sheet_budget - p.number
  unfolding rest
  rest-few = simp length-drop (omega arith)

  rest-short : length rest ≤ longest_log
  unfolding rest
  rest-short = simp length-drop (omega arith)

  -- at a stop the last line is to come
  pub to-come-stop : (stop : ℕ)
      → (take_one (drop p.at input) ≡ Stopped stop) ⊎ (take_one (drop p.at input) ≡ Overlong stop)
      → to_come p input ≡ end_text stop p.number
  unfolding to_come course_text rest
  to-come-stop stop e =
      ap (course_text p.number) (course-stop (sheet_budget - p.number) p.state rest stop rest-few rest-short e)

  module _ (k : ℕ) (r : Reading) (e : take_one (drop p.at input) ≡ Whole k r) where
    below : p.at < length input
    below = omega (arith, length-drop p.at input, whole-some (drop p.at input) k r e)

    -- a whole record has a byte at least, and all of it stands there
    pub whole_part : (1 ≤ k) × (p.at + k ≤ length input) × (length (take k (drop p.at input)) ≡ k)
    whole_part =
        let ok = whole-ok input p.at k r below e in (
          ok.1,
          omega (arith, ok.2, below),
          length-take-le k (drop p.at input) (omega (arith, ok.2, length-drop p.at input)),
        )

    -- at a whole record its line is to come, and then what comes after it
    pub to-come-next : (bytes : List ℕ)
        → bytes ≡ take k (drop p.at input)
        → to_come p input ≡ next_line p bytes ++ to_come (next_page p bytes) input
    unfolding to_come course_text rest next_line next_page
    to-come-next bytes lent =
        let part = take k rest in
        let o = outcome_of p part in
        let size = whole_part.2 in
        let left : sheet_budget - p.number - 1 ≡ sheet_budget - (p.number + 1) = omega arith in
        let after = drop-drop k p.at input ∙ ap (λ m. drop (p.at + m) input) (sym size) in
        ap (course_text p.number)
        (course-step (sheet_budget - p.number) p.state rest k r (whole-some rest k r e) rest-few rest-short e)
        ∙ ap₂ (λ b l. next_line p part ++ course_text (p.number + 1) (course b o.state l)) left after
        ∙ ap (λ l. next_line p l ++ to_come (next_page p l) input) (sym lent)

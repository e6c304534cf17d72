-- The run over a whole log, from a place on: what stands at its front, and what is still to come.
-- Defines: ahead.
-- Proves: stop-ahead, whole_part, step-ahead.
use mathlib.Core.Path.{◌≡◌, refl, sym, ap, ap₂, subst, ◌∙◌}
use mathlib.Core.Logic.{◌⊎◌, inl, inr}
use mathlib.Core.List.{List, [], ◌∷◌}
use Prim.Native.Nat.{ℕ, zero, suc, ◌+◌, ◌≤◌}
use native.Mathlib.Omega.{arith}
use lib.ListN.{length, take, drop, length-drop}
use lib.Seq.{drop-drop, length-take-le}
use Rattle.record.specs.Takes.{longest_log, take_one, taken, on_taken}
use Rattle.record.specs.TakeWords.{TakenOk}
use Rattle.record.specs.Readings.{Reading}
use Rattle.record.specs.Takes.{Taken}
use Rattle.record.specs.Takes.{Whole, Stopped, Overlong}
use Rattle.record.proofs.Takes.{taken-short, taken-ok}
use Rattle.unit.specs.Steps.{Outcome}
use Rattle.unit.specs.OnRecords.{action_room, on_record}
use Rattle.unit.specs.Forms.{stepped}
use Rattle.unit.specs.Runs.{Course, stops, applies, course}
use Rattle.unit.specs.declared.answer.Stepped.{Stepped}
use Rattle.unit.specs.declared.state.State.{State}

-- the run over what is left, with a record of budget for each byte
abbrev pub ahead : State → List ℕ → Course
ahead s rest = course (length rest) s rest

-- what a record taken off the front gives, and then the run goes on in this way
abbrev onward : (State → List ℕ → Course) → State → List ℕ → ℕ → Course
onward goes s rest k =
    let o : Outcome = on_record s (take k rest) action_room in
    applies (take k rest) o (goes o.state (drop k rest))

-- two runs are the same where they go on alike after a record, which has at least one byte
onward-same : (m n : ℕ) (s : State) (rest : List ℕ)
    → ((k : ℕ) (t : State) → 1 ≤ k → course m t (drop k rest) ≡ course n t (drop k rest))
    → (t : Taken)
    → TakenOk rest t
    → on_taken t stops (onward (course m) s rest) ≡ on_taken t stops (onward (course n) s rest)
onward-same m n s rest alike (Whole k r) ok =
    let o = on_record s (take k rest) action_room in
    ap (applies (take k rest) o) (alike k o.state ok.0)
onward-same m n s rest alike (Stopped stop) ok = refl
onward-same m n s rest alike (Overlong r) ok = refl

-- a budget of at least as many records as there are bytes is not used up: a larger one makes no difference
course-enough : (m n : ℕ) (s : State) (rest : List ℕ)
    → length rest ≤ m
    → length rest ≤ n
    → course m s rest ≡ course n s rest
unfolding course taken take_one
course-enough zero zero s rest in-m in-n = refl
course-enough zero (suc n) s [] in-m in-n = refl
course-enough zero (suc n) s (kind ∷ rest) in-m in-n = absurd (omega arith)
course-enough (suc m) zero s [] in-m in-n = refl
course-enough (suc m) zero s (kind ∷ rest) in-m in-n = absurd (omega arith)
course-enough (suc m) (suc n) s rest in-m in-n =
    onward-same m n s rest
    (λ k t some.
    let left = length-drop k rest in
    course-enough m n t (drop k rest) (omega arith) (omega arith))
    (taken rest)
    (taken-ok rest)

module _ (s : State) (rest : List ℕ) (short : length rest ≤ longest_log) where
  -- one record more than there are bytes
  abbrev more : ℕ
  more = suc (length rest)

  ahead_more : ahead s rest ≡ course more s rest
  ahead_more = course-enough (length rest) more s rest (omega arith) (omega arith)

  -- at a stop nothing more is read
  ahead-stop : (stop : ℕ) → (take_one rest ≡ Stopped stop) ⊎ (take_one rest ≡ Overlong stop) → ahead s rest ≡ stops stop
  unfolding course
  ahead-stop stop (inl e) = ahead_more ∙ rw (taken-short rest short ∙ e) refl
  ahead-stop stop (inr e) = ahead_more ∙ rw (taken-short rest short ∙ e) refl

  -- a whole record is applied, and the run goes on behind it
  ahead_step : (k : ℕ) (r : Reading)
      → take_one rest ≡ Whole k r
      → ahead s rest
      ≡ applies (take k rest) (on_record s (take k rest) action_room)
      (ahead (on_record s (take k rest) action_room).state (drop k rest))
  unfolding course
  ahead_step k r e =
      let o = on_record s (take k rest) action_room in
      let left = length-drop k rest in
      ahead_more
      ∙ rw (taken-short rest short ∙ e)
      (ap (applies (take k rest) o)
      (course-enough (length rest) (length (drop k rest)) o.state (drop k rest) (omega arith) (omega arith)))

-- the run from a place of a log on
module _ (log : List ℕ) (short : length log ≤ longest_log) (s : State) (at : ℕ) where
  rest-short : length (drop at log) ≤ longest_log
  rest-short = simp length-drop (omega arith)

  pub stop-ahead : (stop : ℕ)
      → (take_one (drop at log) ≡ Stopped stop) ⊎ (take_one (drop at log) ≡ Overlong stop)
      → ahead s (drop at log) ≡ stops stop
  stop-ahead = ahead-stop s (drop at log) rest-short

  module _ (k : ℕ) (r : Reading) (e : take_one (drop at log) ≡ Whole k r) where
    -- a whole record has at least one byte, and all of it stands there
    pub whole_part : (1 ≤ k) × (at + k ≤ length log) × (length (take k (drop at log)) ≡ k)
    whole_part =
        let rest = drop at log in
        let ok = subst (TakenOk rest) (taken-short rest rest-short ∙ e) (taken-ok rest) in
        let left = length-drop at log in
        (ok.0, omega (arith, ok.0, ok.1), length-take-le k rest ok.1)

    -- the step on it is made, and the run goes on behind it from the state that the step answers
    pub step-ahead : (bytes : List ℕ)
        → bytes ≡ take k (drop at log)
        → (answer : Stepped)
        → answer ≡ stepped (on_record s bytes action_room)
        → ahead s (drop at log) ≡ applies bytes (on_record s bytes action_room) (ahead answer.state (drop (at + k) log))
    unfolding stepped
    step-ahead bytes lent answer made =
        let o = on_record s bytes action_room in
        ahead_step s (drop at log) rest-short k r e
        ∙ ap (λ l. applies l (on_record s l action_room) (ahead (on_record s l action_room).state (drop k (drop at log)))) (sym lent)
        ∙ ap₂ (λ (x : Stepped) l. applies bytes o (ahead x.state l)) (sym made) (drop-drop k at log)

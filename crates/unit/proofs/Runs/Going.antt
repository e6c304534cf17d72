-- One turn of the run's loop: what stands at the front is a whole record, and the run goes on after it.
-- Proves: whole-ok, whole_ready, run-next, run_on.
use mathlib.Core.Path.{◌≡◌, refl, sym, ap, ap₂, subst, ◌∙◌}
use mathlib.Core.Bool.{true, cond}
use mathlib.Core.List.{List}
use Prim.Native.Nat.{ℕ, ◌+◌, ◌-◌, ◌≤◌, ◌<◌}
use native.Mathlib.Omega.{arith}
use lib.Dec.{leb}
use lib.ListN.{length, get_or, take, drop, length-drop}
use lib.Seq.{drop-drop}
use borrow.Author.Tests.{ltb-true, leb-true}
use Rattle.record.specs.Records.{known, length_of, reading}
use Rattle.record.specs.Ranges.{reading_ok}
use Rattle.wire.proofs.Tests.{cond-case}
use Rattle.record.proofs.Ranges.{reading-ok}
use Rattle.record.proofs.Takes.{by_kind, taken-short}
use Rattle.unit.specs.States.{sound}
use Rattle.unit.specs.OnRecords.{action_room, on_reading, on_record}
use Rattle.unit.proofs.Sound.{on_record-sound}
use Rattle.unit.proofs.Few.{on_record-few}
use Rattle.record.specs.Takes.{record_short, kind_unknown, longest_log, take_one}
use Rattle.unit.specs.Runs.{counted, go}
use Rattle.unit.specs.Counting.{Bounded}
use Rattle.unit.specs.declared.run.Tally.{Tally}
use Rattle.unit.specs.declared.run.Report.{Report}
use Rattle.record.specs.Readings.{Reading}
use Rattle.record.specs.Takes.{Taken}
use Rattle.record.specs.Takes.{Whole, Stopped, Overlong}
use Rattle.unit.proofs.Runs.Tallies.{bounded-next}
use Rattle.unit.proofs.Runs.Takes.{go_step}
use Rattle.unit.proofs.Runs.Applied.{applied-reading}

-- a whole record has its kind's length, at least one byte, all of it stands there, and it means what it reads as
abbrev WholeOk : List ℕ → ℕ → Taken → Type 0
WholeOk log at (Whole k r) =
    (k ≡ length_of (get_or log at 0)) × (1 ≤ k) × (k ≤ length log - at) × (r ≡ reading (take k (drop at log)))
WholeOk log at (Stopped stop) = Unit
WholeOk log at (Overlong r) = Unit

pub whole-ok : (log : List ℕ) (at k : ℕ) (r : Reading)
    → at < length log
    → take_one (drop at log) ≡ Whole k r
    → (k ≡ length_of (get_or log at 0)) × (1 ≤ k) × (k ≤ length log - at) × (r ≡ reading (take k (drop at log)))
whole-ok log at k r below e = subst (WholeOk log at) (sym (by_kind log at below) ∙ e) facts
  where
    l : ℕ
    l = length_of (get_or log at 0)

    whole : Taken
    whole = Whole l (reading (take l (drop at log)))

    or_short : Taken
    or_short = cond (leb l (length log - at)) whole (Stopped record_short)

    facts : WholeOk log at (cond (known (get_or log at 0)) or_short (Stopped kind_unknown))
    facts =
        cond-case (WholeOk log at) (known (get_or log at 0)) or_short (Stopped kind_unknown)
        (λ is_Known.
        cond-case (WholeOk log at) (leb l (length log - at)) whole (Stopped record_short)
        (λ fits. (refl, ltb-true 0 l is_Known, leb-true l (length log - at) fits, refl))
        (λ short. tt))
        (λ unknown. tt)

module _ (log : List ℕ) (t : Tally) (k : ℕ) (r : Reading) (below : t.offset < length log) (small : length log ≤ longest_log)
    (e : take_one (drop t.offset log) ≡ Whole k r) where
  -- what counting it asks
  pub whole_ready :
      Bounded t
      → sound t.state ≡ true
      → Bounded t × (t.offset + k ≤ longest_log) × (sound t.state ≡ true) × (reading_ok r ≡ true)
  whole_ready bounded good =
      let ok = whole-ok log t.offset k r below e in
      (bounded, omega (arith, ok.2), good, subst (λ x. reading_ok x ≡ true) (sym ok.3) (reading-ok (take k (drop t.offset log))))

  next : Tally
  next = counted t k (on_record t.state (take k (drop t.offset log)) action_room)

  module _ (good : sound t.state ≡ true) (u : Tally) (applied : u ≡ counted t k (on_reading t.state r)) where
    is-next : u ≡ next
    unfolding next
    is-next =
        let ok = whole-ok log t.offset k r below e in
        applied ∙ ap (counted t k) (sym (applied-reading t.state (take k (drop t.offset log)) good r ok.3))

    offset-next : u.offset ≡ t.offset + k
    unfolding next counted
    offset-next = ap (λ x. x.offset) is-next

    state-next : u.state ≡ (on_record t.state (take k (drop t.offset log)) action_room).state
    unfolding next counted
    state-next = ap (λ x. x.state) is-next

    -- the run goes on
    pub run-next : (left : ℕ)
        → Bounded t
        → (left ≡ 0 → ⊥)
        → (u.offset ≤ length log)
        × Bounded u
        × (sound u.state ≡ true)
        × (go left t (drop t.offset log) ≡ go (left - 1) u (drop u.offset log))
    unfolding next
    run-next left bounded some =
        let ok = whole-ok log t.offset k r below e in
        let short : length (drop t.offset log) ≤ longest_log = simp length-drop (omega (arith, small)) in (
          omega (arith, offset-next, ok.2),
          subst Bounded (sym is-next)
              (bounded-next t k (on_record t.state (take k (drop t.offset log)) action_room) bounded ok.1
              (on_record-few t.state (take k (drop t.offset log)) action_room)),
          ap (sound) state-next ∙ on_record-sound t.state (take k (drop t.offset log)) action_room good,
          go_step t left some (drop t.offset log) k r (taken-short (drop t.offset log) short ∙ e)
              ∙ ap₂ (λ x l. go (left - 1) x l) (sym is-next) (drop-drop k t.offset log ∙ ap (λ m. drop m log) (sym offset-next)),
        )

    -- and the budget counts what was read
    pub run_on : (budget : ℕ) (before : Report)
        → Bounded t
        → t.read ≤ budget
        → (t.read ≡ budget → ⊥)
        → before ≡ go (budget - t.read) t (drop t.offset log)
        → (u.offset ≤ length log)
        × Bounded u
        × (sound u.state ≡ true)
        × (u.read ≤ budget)
        × (before ≡ go (budget - u.read) u (drop u.offset log))
    unfolding next counted
    run_on budget before bounded within some so_far =
        let read : u.read ≡ t.read + 1 = ap (λ x. x.read) is-next in
        let fewer : budget - t.read - 1 ≡ budget - u.read = omega (arith, read) in
        let next = run-next (budget - t.read) bounded (λ none. some (omega (arith, within, none))) in (
          next.0,
          next.1,
          next.2,
          omega (arith, read, within, some),
          so_far ∙ next.3 ∙ ap (λ b. go b u (drop u.offset log)) fewer,
        )

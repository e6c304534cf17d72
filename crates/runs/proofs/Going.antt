-- One turn of the loop of a run: it stops, or a whole record is counted and the run goes on.
-- Defines: Going.
-- Proves: going-first, going_end, going-budget, going-stop, whole-counted, going_next.
use mathlib.Core.Path.{◌≡◌, refl, sym, ap, ap₂, subst, ◌∙◌}
use mathlib.Core.Logic.{◌⊎◌, inl, inr}
use mathlib.Core.List.{List, [], ◌∷◌}
use Prim.Native.Nat.{ℕ, zero, suc, ◌+◌, ◌-◌, ◌≤◌, ◌<◌}
use native.Mathlib.Omega.{arith}
use lib.ListN.{length, take, drop, length-drop, drop_of_length-le}
use lib.Seq.{drop-drop}
use Rattle.record.specs.Takes.{nothing_left, budget_used, longest_log, take_one, taken}
use Rattle.record.specs.Readings.{Reading}
use Rattle.record.specs.Takes.{Whole, Stopped, Overlong}
use Rattle.record.proofs.Takes.{taken-short}
use Rattle.unit.specs.Counting.{most_total, Below}
use Rattle.unit.specs.Forms.{most_actions}
use Rattle.unit.proofs.Runs.Going.{whole-ok}
use Rattle.unit.proofs.Runs.Tallies.{below_more}
use Rattle.runs.specs.Counting.{machine_tallying}
use Rattle.runs.specs.MachineRuns.{machine_fresh, machine_counted, machine_ended, machine_go}
use Rattle.runs.specs.Machines.{Applying}
use Rattle.runs.specs.Counting.{applied_of}
use Rattle.runs.specs.declared.machine.Applied.{Applied}
use Rattle.runs.specs.declared.run.MachineReport.{MachineReport}
use Rattle.runs.specs.declared.run.MachineTally.{MachineTally}
use Rattle.runs.proofs.Counts.{Counted, counted-fresh, counted_next, tallying-sent}

module _ {M : Type 0} (gives : M → List ℕ → Applying M) where
  -- the run so far, gone on with what is left of the budget and of the log, is the whole run
  abbrev pub Going : List ℕ → ℕ → MachineReport M → MachineTally M → Type 0
  Going log budget whole t =
      (t.offset ≤ length log)
      × Counted t
      × (t.read ≤ budget)
      × (whole ≡ machine_go gives (budget - t.read) t (drop t.offset log))

  -- before the first record
  pub going-first : (log : List ℕ) (budget : ℕ) (m : M) (t : MachineTally M)
      → t ≡ machine_fresh m
      → Going log budget (machine_go gives budget (machine_fresh m) log) t
  going-first log budget m t fresh =
      let all : budget ≡ budget - 0 = omega arith in
      subst (Going log budget (machine_go gives budget (machine_fresh m) log)) (sym fresh)
      (omega arith, counted-fresh m, omega arith, ap (λ b. machine_go gives b (machine_fresh m) log) all)

  -- with nothing left a run stops, whatever its budget
  go-nil : (t : MachineTally M) (budget : ℕ) → machine_ended t nothing_left ≡ machine_go gives budget t []
  unfolding machine_go taken take_one
  go-nil t zero = refl
  go-nil t (suc budget) = refl

  -- with no budget it stops where something is left
  go-none : (t : MachineTally M) (rest : List ℕ) → 0 < length rest → machine_ended t budget_used ≡ machine_go gives 0 t rest
  unfolding machine_go
  go-none t [] some = absurd (omega arith)
  go-none t (x ∷ rest) some = refl

  -- by what stands at the front it stops
  go-stop : (t : MachineTally M) (budget : ℕ) (rest : List ℕ) (stop : ℕ)
      → (budget ≡ 0 → ⊥)
      → (taken rest ≡ Stopped stop) ⊎ (taken rest ≡ Overlong stop)
      → machine_ended t stop ≡ machine_go gives budget t rest
  unfolding machine_go
  go-stop t zero rest stop some e = absurd (some refl)
  go-stop t (suc budget) rest stop some (inl e) = rw e refl
  go-stop t (suc budget) rest stop some (inr e) = rw e refl

  -- or goes on behind a record
  go_step : (t : MachineTally M) (budget : ℕ) (rest : List ℕ) (k : ℕ) (r : Reading)
      → (budget ≡ 0 → ⊥)
      → taken rest ≡ Whole k r
      → machine_go gives budget t rest ≡ machine_go gives (budget - 1) (machine_counted t k (gives t.state (take k rest))) (drop k rest)
  unfolding machine_go
  go_step t zero rest k r some e = absurd (some refl)
  go_step t (suc budget) rest k r some e =
      let same : budget ≡ suc budget - 1 = omega arith in
      rw e (ap (λ b. machine_go gives b (machine_counted t k (gives t.state (take k rest))) (drop k rest)) same)

  module _ (log : List ℕ) (budget : ℕ) (whole : MachineReport M) (t : MachineTally M) (so_far : Going log budget whole t) where
    -- where all of the log is read, the run is the whole one
    pub going_end : length log ≤ t.offset → machine_ended t nothing_left ≡ whole
    going_end all =
        go-nil t (budget - t.read)
        ∙ ap (machine_go gives (budget - t.read) t) (sym (drop_of_length-le log {i = t.offset} all))
        ∙ sym so_far.3

    module _ (under : t.offset < length log) where
      -- where the budget is used up
      pub going-budget : t.read ≡ budget → machine_ended t budget_used ≡ whole
      going-budget used =
          let none : 0 ≡ budget - t.read = omega arith in
          go-none t (drop t.offset log) (simp length-drop (omega arith))
          ∙ ap (λ b. machine_go gives b t (drop t.offset log)) none
          ∙ sym so_far.3

      module _ (small : length log ≤ longest_log) (more : t.read ≡ budget → ⊥) where
        -- some of the budget is left
        some_left : budget - t.read ≡ 0 → ⊥
        some_left none = more (omega (arith, none, so_far.2))

        -- what is left of the log is not too long to take from
        is-taken : taken (drop t.offset log) ≡ take_one (drop t.offset log)
        is-taken = taken-short (drop t.offset log) (simp length-drop (omega arith))

        -- where what stands at the front is no whole record
        pub going-stop : (stop : ℕ)
            → (take_one (drop t.offset log) ≡ Stopped stop) ⊎ (take_one (drop t.offset log) ≡ Overlong stop)
            → machine_ended t stop ≡ whole
        going-stop stop (inl e) = go-stop t _ _ stop some_left (inl (is-taken ∙ e)) ∙ sym so_far.3
        going-stop stop (inr e) = go-stop t _ _ stop some_left (inr (is-taken ∙ e)) ∙ sym so_far.3

        module _ (k : ℕ) (r : Reading) (e : take_one (drop t.offset log) ≡ Whole k r) where
          -- a whole record has at least one byte, all of it stands there, and the counts have room for it
          pub whole-counted : (1 ≤ k)
              × (t.offset + k ≤ length log)
              × (t.offset + k ≤ longest_log)
              × (t.read ≤ t.offset)
              × (t.refused ≤ t.read)
              × Below most_total t.totals
          whole-counted =
              let ok = whole-ok log t.offset k r under e in
              let read = so_far.1.0 in (
                ok.1,
                omega (arith, ok.2),
                omega (arith, ok.2),
                read,
                so_far.1.1,
                below_more (omega arith) so_far.1.2,
              )

          -- it is stepped and counted, and the run goes on behind it
          pub going_next : (bytes : List ℕ)
              → bytes ≡ take k (drop t.offset log)
              → (answer : Applied M)
              → answer ≡ applied_of (gives t.state bytes)
              → (u : MachineTally M)
              → u ≡ machine_tallying t k answer
              → length (gives t.state bytes).actions ≤ most_actions
              → Going log budget whole u
          unfolding machine_counted
          going_next bytes lent answer made u counts few =
              let o = gives t.state bytes in
              let is : u ≡ machine_counted t k o = counts ∙ tallying-sent o answer made few t k in
              let offset : u.offset ≡ t.offset + k = ap (λ x. x.offset) is in
              let read : u.read ≡ t.read + 1 = ap (λ x. x.read) is in
              let fewer : budget - t.read - 1 ≡ budget - u.read = omega arith in
              let rest = drop t.offset log in
              let behind = drop-drop k t.offset log ∙ ap (λ n. drop n log) (sym offset) in (
                omega (arith, whole-counted.1),
                subst Counted (sym is) (counted_next t k o so_far.1 whole-counted.0 few),
                omega (arith, so_far.2),
                so_far.3
                    ∙ go_step t (budget - t.read) rest k r some_left (is-taken ∙ e)
                    ∙ ap (λ l. machine_go gives (budget - t.read - 1) (machine_counted t k (gives t.state l)) (drop k rest)) (sym lent)
                    ∙ ap₂ (λ b x. machine_go gives b x (drop k rest)) fewer (sym is)
                    ∙ ap (machine_go gives (budget - u.read) u) behind,
              )

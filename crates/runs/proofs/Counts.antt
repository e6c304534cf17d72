-- The counts of a run, one record more.
-- Defines: Counted.
-- Proves: totalled-next, refusal-few, counted-fresh, counted_next, few-sent, tallying-sent.
use mathlib.Core.Path.{◌≡◌, sym, ap, subst, ◌∙◌}
use mathlib.Core.Bool.{cond}
use mathlib.Core.List.{List, [], ◌∷◌}
use Prim.Native.Nat.{ℕ, ◌+◌, ◌*◌, ◌≤◌, ◌<◌}
use native.Mathlib.Numerals.{add-one}
use native.Mathlib.Omega.{arith}
use lib.Dec.{eqb}
use lib.ListN.{length, get_or, take}
use lib.Seq.{take-suc}
use Rattle.wire.specs.Refusals.{accepted}
use Rattle.wire.proofs.Tests.{cond-holds}
use Rattle.unit.specs.Counting.{added, Below}
use Rattle.unit.specs.Forms.{most_actions, no_action, listed}
use Rattle.unit.specs.Runs.{totalled}
use Rattle.unit.specs.declared.answer.Action.{Action}
use Rattle.unit.specs.declared.run.Totals.{Totals}
use Rattle.unit.proofs.Runs.Tallies.{totalled-append, totalled-one, below_more, totalled-below}
use Rattle.unit.proofs.Written.{listed-take}
use Rattle.runs.specs.Counting.{machine_tallying}
use Rattle.runs.specs.MachineRuns.{machine_fresh, machine_counted}
use Rattle.runs.specs.Machines.{Applying}
use Rattle.runs.specs.Counting.{applied_of}
use Rattle.runs.specs.declared.machine.Applied.{Applied}
use Rattle.runs.specs.declared.run.MachineTally.{MachineTally}

-- one more action of the array is counted
pub totalled-next : (t u : Totals) (items : List Action) (i : ℕ)
    → i < length items
    → u ≡ totalled t (take i items)
    → added u (get_or items i no_action).number ≡ totalled t (take (i + 1) items)
totalled-next t u items i some so_far =
    let one = get_or items i no_action in
    ap (λ x. added x one.number) so_far
    ∙ sym (totalled-append t (take i items) (one ∷ []) ∙ totalled-one (totalled t (take i items)) one)
    ∙ ap (totalled t) (sym (take-suc items i no_action some) ∙ ap (λ n. take n items) (sym (add-one i)))

-- a step is refused once at most
pub refusal-few : (code : ℕ) → cond (eqb code accepted) 0 1 ≤ 1
refusal-few code = cond-holds (λ n. n ≤ 1) (eqb code accepted) 0 1 (omega arith) (omega arith)

module _ {M : Type 0} where
  -- a run's counts are bounded by the offset reached
  abbrev pub Counted : MachineTally M → Type 0
  Counted t = (t.read ≤ t.offset) × (t.refused ≤ t.read) × Below (most_actions * t.read) t.totals

  -- before the first record nothing is counted
  pub counted-fresh : (m : M) → Counted (machine_fresh m)
  counted-fresh m = (
    omega arith,
    omega arith,
    record {
      request = omega arith;
      release = omega arith;
      incompatible = omega arith;
      initiate = omega arith;
      terminate = omega arith;
      established = omega arith;
    },
  )

  -- with one record more the counts stay bounded
  pub counted_next : (t : MachineTally M) (k : ℕ) (o : Applying M)
      → Counted t
      → 1 ≤ k
      → length o.actions ≤ most_actions
      → Counted (machine_counted t k o)
  unfolding machine_counted
  counted_next t k o bounded some few =
      let read = bounded.0 in
      let refused = bounded.1 in
      let one = refusal-few o.code in (
        omega arith,
        omega arith,
        below_more (omega arith) (totalled-below (most_actions * t.read) most_actions t.totals o.actions few bounded.2),
      )

  module _ (o : Applying M) (answer : Applied M) (made : answer ≡ applied_of o) (few : length o.actions ≤ most_actions) where
    -- an answer counts few enough actions
    pub few-sent : answer.actions.count ≤ most_actions
    unfolding applied_of listed
    few-sent = subst (λ x. x.actions.count ≤ most_actions) (sym made) few

    -- those that go out stand at the front of its array
    sent-row : take answer.actions.count answer.actions.items ≡ o.actions
    unfolding applied_of
    sent-row = ap (λ (x : Applied M). take x.actions.count x.actions.items) made ∙ listed-take o.actions few

    -- an answer as the code holds it counts as what it is of
    pub tallying-sent : (t : MachineTally M) (k : ℕ) → machine_tallying t k answer ≡ machine_counted t k o
    unfolding machine_tallying machine_counted applied_of
    tallying-sent t k =
        λ i.
        record {
          state = (made i).state;
          offset = t.offset + k;
          read = t.read + 1;
          refused = t.refused + cond (eqb (made i).code accepted) 0 1;
          totals = totalled t.totals (sent-row i);
        }

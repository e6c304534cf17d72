-- One record of a run, stepped on values: it is the step on the record's bytes.
-- Proves: applied-reading, applied-kept, none-is, applied-set, applied-noted.
use mathlib.Core.Path.{◌≡◌, refl, sym, ap, ◌∙◌}
use mathlib.Core.Bool.{true, false}
use mathlib.Core.List.{List}
use Prim.Native.Nat.{ℕ, ◌≤◌}
use native.Mathlib.Omega.{arith}
use lib.Dec.{lit≤}
use lib.ListN.{length, set}
use Rattle.record.specs.Records.{reading}
use Rattle.wire.specs.Refusals.{out_of_range, number}
use Rattle.record.specs.Readings.{Reading}
use Rattle.place.specs.declared.place.Place.{Place}
use Rattle.unit.specs.States.{sound}
use Rattle.unit.specs.Steps.{Outcome, refused_at, refused, closed, closing_actions}
use Rattle.unit.specs.OnRecords.{action_room, on_reading, on_record}
use Rattle.unit.specs.Changes.{closes_any, made, carried}
use Rattle.unit.specs.declared.state.State.{State}
use Rattle.unit.specs.declared.change.Change.{Change}
use Rattle.unit.proofs.OnBytes.{on-reading}
use Rattle.unit.proofs.Settling.{closes_any-none, closed-nothing, closing_actions-nothing, set_past, carried-refused}
use Rattle.unit.specs.Runs.{totalled, counted}
use Rattle.unit.specs.Counting.{tally_of, accepted_rest}
use Rattle.unit.specs.declared.run.Tally.{Tally}
use Rattle.unit.specs.declared.run.Rest.{Rest}
use Rattle.std.specs.Prelude.{Option, None, Some, is_some}
use Rattle.wire.specs.declared.refusal.Refusal.{Refusal}
use Rattle.wire.proofs.Distinct.{refused-some}
use Rattle.wire.proofs.Tests.{true-false}
use Rattle.unit.proofs.Runs.Tallies.{totalled_none, counted-made, counted-kept}

module _ (s : State) (bytes : List ℕ) (good : sound s ≡ true) (r : Reading) (means : r ≡ reading bytes) where
  -- the step on a record is the step on what it reads as
  pub applied-reading : on_record s bytes action_room ≡ on_reading s r
  applied-reading = on-reading s bytes action_room (lit≤ tt) r good (sym means)

-- a change that was refused, counted
pub applied-kept : (t : Tally) (k : ℕ) (c : Change) (o : Outcome)
    → carried t.state c ≡ o
    → is_some c.refusal ≡ true
    → counted t k (refused out_of_range t.state) ≡ counted t k o
applied-kept t k c o is refusing = by c.refusal refl refusing
  where
    by : (r : Option Refusal) → c.refusal ≡ r → is_some r ≡ true → counted t k (refused out_of_range t.state) ≡ counted t k o
    by None none some = true-false _ some refl
    by (Some r) one some =
        counted-kept t k (refused_at (number r) c.standing t.state) (λ none. omega (arith, refused-some r)) refl refl
        ∙ ap (counted t k) (sym (carried-refused t.state c r one) ∙ is)

-- a change that is no refusal
pub none-is : (r : Option Refusal) → is_some r ≡ false → r ≡ None
none-is None none = refl
none-is (Some r) none = true-false _ refl none

-- one that was accepted: none closed, and a place set or none
module _ (r : Rest) (ps : List Place) (c : Change) (nothing-closed : closes_any c.which ≡ false) where
  same : closed c.which ps ≡ ps
  same = ap (λ w. closed w ps) (closes_any-none c.which nothing-closed) ∙ closed-nothing ps

  silent : r.totals ≡ totalled r.totals (closing_actions c.which ps)
  silent =
      sym
      (ap (λ w. totalled r.totals (closing_actions w ps)) (closes_any-none c.which nothing-closed)
      ∙ ap (totalled r.totals) (closing_actions-nothing ps)
      ∙ totalled_none r.totals)

  pub applied-set : (k : ℕ)
      → tally_of (accepted_rest r k c r.totals) (set ps c.at c.place)
      ≡ counted (tally_of r ps) k (made (tally_of r ps).state c)
  applied-set k = counted-made r ps (set ps c.at c.place) k c r.totals (ap (λ l. set l c.at c.place) (sym same)) silent

  pub applied-noted : (k : ℕ)
      → length ps ≤ c.at
      → tally_of (accepted_rest r k c r.totals) ps ≡ counted (tally_of r ps) k (made (tally_of r ps).state c)
  applied-noted k above =
      ap (tally_of (accepted_rest r k c r.totals)) (sym (set_past ps c.at c.place above)) ∙ applied-set k

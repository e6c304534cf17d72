-- Weights that fall with each try: a place weighs what its phase weighs at its last try, and one more for each try before that.
-- Defines: Numbers, falling, fallings, Fair.
-- Proves: falling-balanced.
use mathlib.Core.Bool.{true}
use mathlib.Core.List.{[], ◌∷◌}
use Prim.Native.Nat.{ℕ, ◌+◌, ◌-◌, ◌≤◌}
use native.Mathlib.Omega.{arith}
use Rattle.place.specs.Table.{table, closing}
use Rattle.place.specs.declared.phase.Phase.{Phase}
use Rattle.place.specs.declared.phase.Phase.TheVariants.{Connecting, Contacting, Open, Lost, Ending}
use Rattle.place.specs.declared.limits.Limits.{Limits}
use Rattle.place.proofs.ByRow.{judged-case}
use Rattle.unit.proofs.Rows.{◌▹◌, Beside}
use Rattle.unit.proofs.Balances.{at_most}
use Rattle.unit.proofs.Scales.{Scale, Turned, Balanced, turns-by-row, again-turned}

pub record Numbers : Type 0 where
  -- what a place weighs at its last try, by its phase
  pub connecting : ℕ
  pub contacting : ℕ
  pub opened : ℕ
  pub lost : ℕ
  pub ending : ℕ
  -- what an accepted order and an accepted call bring
  pub order : ℕ
  pub call : ℕ
  -- what an up, a loss and a version bring
  pub up : ℕ
  pub loss : ℕ
  pub version : ℕ

-- n being the limit of tries
abbrev pub falling : ℕ → Numbers → Phase → ℕ
falling n k (Connecting t) = k.connecting + (n - t)
falling n k (Contacting t) = k.contacting + (n - t)
falling n k Open = k.opened
falling n k (Lost t) = k.lost + (n - t)
falling n k (Ending t) = k.ending + (n - t)

-- every action counts
abbrev pub fallings : ℕ → Numbers → Scale
fallings n k =
    record {
      weight = falling n k;
      counts = λ number. true;
      order = k.order;
      call = k.call;
      columns = 0 ∷ k.up ∷ k.loss ∷ 0 ∷ k.version ∷ 0 ∷ [];
    }

-- fair numbers: no turn gives out more than its place weighs at its last try and its column brings
pub record Fair (n : ℕ) (k : Numbers) : Type 0 where
  -- a release is one action
  pub connecting-ends : 1 ≤ k.connecting
  pub contacting-ends : 1 ≤ k.contacting
  pub lost-ends : 1 ≤ k.lost
  pub ending-ends : 1 ≤ k.ending
  -- an action that leads to the first of n tries leaves n - 1 of them
  pub ordered : n + k.connecting ≤ k.order
  pub contacted : n + k.contacting ≤ k.connecting + k.up
  pub interrupted : n + k.lost ≤ k.opened + k.loss
  pub terminated : n + k.ending ≤ k.opened
  -- Open has no tries, and a session that was lost is restored with no action
  pub called : 1 + k.opened ≤ k.call
  pub established : 1 + k.opened ≤ k.contacting + k.version
  pub restored : k.opened ≤ k.lost + k.up

module _ (l : Limits) (k : Numbers) (some-try : 1 ≤ l.tries) (fair : Fair l.tries k) where
  -- their scale
  abbrev σ : Scale
  σ = fallings l.tries k

  -- no closing costs more than its place weighs
  closings : (ph : Phase) → Turned at_most σ ph 0 (closing ph)
  closings (Connecting t) = omega arith
  closings (Contacting t) = omega arith
  closings Open = omega arith
  closings (Lost t) = omega arith
  closings (Ending t) = omega arith

  -- nor any entry of the table, with what its column brings
  rows : (ph : Phase) (v : ℕ) → Beside (λ t b. Turned at_most σ ph b t) (table l v ph) σ.columns
  rows (Connecting t) v =
      omega arith
      ▹ omega arith
      ▹ omega arith
      ▹ again-turned at_most l σ _ (Connecting t) 0 (omega arith) (omega arith)
      ▹ omega arith
  rows (Contacting t) v =
      omega arith
      ▹ omega arith
      ▹ omega arith
      ▹ again-turned at_most l σ _ (Contacting t) 0 (omega arith) (omega arith)
      ▹ judged-case (Turned at_most σ (Contacting t) k.version) l v (omega arith) (omega arith)
      ▹ omega arith
  rows Open v = omega arith
  rows (Lost t) v =
      omega arith
      ▹ omega arith
      ▹ omega arith
      ▹ again-turned at_most l σ _ (Lost t) 0 (omega arith) (omega arith)
      ▹ omega arith
  rows (Ending t) v =
      omega arith
      ▹ omega arith
      ▹ omega arith
      ▹ again-turned at_most l σ _ (Ending t) 0 (omega arith) (omega arith)
      ▹ omega arith

  -- nor does an order or a call
  pub falling-balanced : Balanced at_most l (fallings l.tries k)
  falling-balanced =
      record { ordered = omega arith; called = omega arith; closings = closings; turns = turns-by-row at_most l σ rows }

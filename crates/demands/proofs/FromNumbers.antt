-- The conversions from a number to a refusal and to a stop: no second answer satisfies what they promise, which are contracts of a trait;
-- a line for each over the contract as the checker names it.
-- Proves: numbers-one, stops-one, from-refusal-number-once, from-stop-number-once.
use mathlib.Core.Path.{◌≡◌, refl, sym, ap, ◌∙◌}
use Prim.Native.Nat.{ℕ}
use Rattle.std.specs.Prelude.{Result, Ok, Err}
use Rattle.wire.specs.Codes.{Numbers}
use Rattle.wire.specs.declared.refusal.Refusal.{Refusal}
use Rattle.wire.specs.declared.refusal.NoRefusal.{NoRefusal}
use Rattle.wire.proofs.Distinct.{number-one}
use Rattle.record.specs.Ends.{Stops}
use Rattle.record.specs.declared.stop.Stop.{Stop}
use Rattle.record.specs.declared.stop.NoStop.{NoStop}
use Rattle.record.proofs.Told.{stop_number-one}
use Rattle.wire.proofs.refusal.RefusalTryFromU8.try_from.Reads as refusal-of
use Rattle.record.proofs.stop.StopTryFromU8.try_from.Reads as stop-of

pub numbers-one : (n : ℕ) (a b : Result Refusal NoRefusal) → Numbers n a → Numbers n b → a ≡ b
numbers-one n (Ok r) (Ok q) first second = ap Ok (number-one r q (first ∙ sym second))
numbers-one n (Ok r) (Err none) first second = absurd (second r first)
numbers-one n (Err none) (Ok r) first second = absurd (first r second)
numbers-one n (Err none) (Err more) first second = refl

pub stops-one : (n : ℕ) (a b : Result Stop NoStop) → Stops n a → Stops n b → a ≡ b
stops-one n (Ok s) (Ok t) first second = ap Ok (stop_number-one s t (first ∙ sym second))
stops-one n (Ok s) (Err none) first second = absurd (second s first)
stops-one n (Err none) (Ok s) first second = absurd (first s second)
stops-one n (Err none) (Err more) first second = refl

pub from-refusal-number-once : (κ : _) (n : _) (r₁ : _) (r₂ : _)
    → refusal-of.Post κ (n, tt) r₁ (n, tt)
    → refusal-of.Post κ (n, tt) r₂ (n, tt)
    → r₁ ≡ r₂
from-refusal-number-once κ n r₁ r₂ p q = numbers-one n r₁ r₂ p q

pub from-stop-number-once : (κ : _) (n : _) (r₁ : _) (r₂ : _)
    → stop-of.Post κ (n, tt) r₁ (n, tt)
    → stop-of.Post κ (n, tt) r₂ (n, tt)
    → r₁ ≡ r₂
from-stop-number-once κ n r₁ r₂ p q = stops-one n r₁ r₂ p q

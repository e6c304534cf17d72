-- Only private contracts use what stands here: the refusals between their numbers and their names.
-- Defines: coded, Numbers.
use Rattle.std.specs.Prelude.{ℕ, ◌≡◌, Option, None, Some, Result, Ok, Err}
use Rattle.wire.specs.Refusals.{accepted, number}
use Rattle.wire.specs.declared.refusal.Refusal.{Refusal}
use Rattle.wire.specs.declared.refusal.NoRefusal.{NoRefusal}

-- what an answer carries: 0 where nothing was refused, else the number
abbrev pub coded : Option Refusal → ℕ
coded None = accepted
coded (Some r) = number r

-- a refusal that is told by its number; none is, exactly where no refusal has it
abbrev pub Numbers : ℕ → Result Refusal NoRefusal → Type 0
Numbers n (Ok r) = number r ≡ n
Numbers n (Err e) = (r : Refusal) → number r ≡ n → ⊥

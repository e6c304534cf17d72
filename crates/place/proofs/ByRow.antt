-- A law of every turn is one of every entry of every row of the phase table.
-- Proves: by_row, judged-case.
use Prim.Native.Nat.{ℕ}
use Rattle.record.specs.declared.event.PartnerEvent.{PartnerEvent}
use Rattle.wire.proofs.Tests.{cond-holds, All, get_or-all}
use Rattle.place.specs.Table.{table, column, first_try, supported, judged, version_of, turn}
use Rattle.place.specs.Table.{established, incompatible, terminate}
use Rattle.place.specs.declared.phase.Phase.{Phase}
use Rattle.place.specs.declared.phase.Phase.TheVariants.{Open, Ending}
use Rattle.place.specs.declared.limits.Limits.{Limits}
use Rattle.place.specs.declared.turn.Turn.{Turn}
use Rattle.place.specs.declared.turn.Turn.TheVariants.{Stays, Sends, SendsBoth}

-- a law of every turn is one of every entry of every row
pub by_row : (P : Phase → Turn → Type 0) (l : Limits)
    → ((ph : Phase) (v : ℕ) → All (P ph) (table l v ph))
    → ((ph : Phase) → P ph Stays)
    → (ph : Phase) (e : PartnerEvent)
    → P ph (turn l ph e)
unfolding turn
by_row P l row outside ph e =
    get_or-all (P ph) (table l (version_of e) ph) Stays (row ph (version_of e)) (outside ph) (column e)

-- a judged version opens the session or ends it
pub judged-case : (P : Turn → Type 0) (l : Limits) (v : ℕ)
    → P (Sends established Open)
    → P (SendsBoth incompatible terminate (Ending first_try))
    → P (judged l v)
judged-case P l v = cond-holds P (supported l v) (Sends established Open) (SendsBoth incompatible terminate (Ending first_try))

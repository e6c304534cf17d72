-- The tries start afresh in another phase.
-- Proves: turn-fresh.
use mathlib.Core.Path.{◌≡◌, refl}
use mathlib.Core.Bool.{true}
use Prim.Native.Nat.{ℕ, ◌+◌}
use lib.Dec.{ltb}
use borrow.Author.Tests.{eq-eqb}
use Rattle.record.specs.declared.event.PartnerEvent.{PartnerEvent}
use Rattle.wire.proofs.Tests.{cond-holds, All}
use Rattle.place.specs.Places.{tries}
use Rattle.place.specs.Table.{table, one_more, again, turn}
use Rattle.place.specs.declared.phase.Phase.{Phase}
use Rattle.place.specs.declared.phase.Phase.TheVariants.{Connecting, Contacting, Open, Lost, Ending}
use Rattle.place.specs.declared.limits.Limits.{Limits}
use Rattle.place.specs.declared.turn.Turn.{Turn}
use Rattle.place.specs.declared.turn.Turn.TheVariants.{Released, Sends}
use Rattle.place.proofs.ByRow.{by_row, judged-case}
use Rattle.place.specs.Turns.{on_next, afresh}

abbrev NextFresh : Phase → Turn → Type 0
NextFresh ph = on_next (λ q. afresh ph q ≡ true)

again-fresh : (l : Limits) (number : ℕ) (ph : Phase) → afresh ph (one_more ph) ≡ true → NextFresh ph (again l number ph)
again-fresh l number ph h = cond-holds (NextFresh ph) (ltb (tries ph) l.tries) (Sends number (one_more ph)) Released h tt

row_fresh : (l : Limits) (ph : Phase) (v : ℕ) → All (NextFresh ph) (table l v ph)
row_fresh l (Connecting t) v =
    (tt, (refl, (tt, (again-fresh l _ (Connecting t) (eq-eqb (t + 1) (t + 1) refl), (tt, (tt, tt))))))
row_fresh l (Contacting t) v = (
  tt,
  (
    tt,
    (
      tt,
      (
        again-fresh l _ (Contacting t) (eq-eqb (t + 1) (t + 1) refl),
        (judged-case (NextFresh (Contacting t)) l v refl refl, (tt, tt)),
      ),
    ),
  ),
)
row_fresh l Open v = (refl, (tt, (refl, (tt, (tt, (tt, tt))))))
row_fresh l (Lost t) v =
    (tt, (refl, (tt, (again-fresh l _ (Lost t) (eq-eqb (t + 1) (t + 1) refl), (tt, (tt, tt))))))
row_fresh l (Ending t) v =
    (tt, (tt, (tt, (again-fresh l _ (Ending t) (eq-eqb (t + 1) (t + 1) refl), (tt, (tt, tt))))))

-- no turn carries the old phase's tries into another phase
-- promise
pub turn-fresh : (l : Limits) (ph : Phase) (e : PartnerEvent) → on_next (λ q. afresh ph q ≡ true) (turn l ph e)
turn-fresh l = by_row NextFresh l (row_fresh l) (λ ph. tt)

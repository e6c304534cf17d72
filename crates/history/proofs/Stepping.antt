-- Histories of sound states, stepped without the test of soundness, so that rows are computed for every limit and every number of tries
-- at once; what a row of records leaves to RBC 5 and RIU 7.
-- Defines: next, goes, quietly, Passes.
-- Proves: after-goes, silent-quietly, passes_on, timeouts-append.
use mathlib.Core.Path.{◌≡◌, refl, ap, subst, ◌∙◌}
use mathlib.Core.Bool.{Bool, true, ◌&&◌, ◌||◌, not}
use mathlib.Core.List.{List, [], ◌∷◌, ◌++◌}
use Prim.Native.Nat.{ℕ, ◌+◌}
use native.Mathlib.Omega.{arith}
use Rattle.record.specs.Records.{reading}
use Rattle.record.specs.declared.partner.Partner.{Partner}
use Rattle.unit.specs.States.{sound}
use Rattle.unit.specs.OnRecords.{action_room, on_reading, on_record}
use Rattle.unit.specs.declared.state.State.{State}
use Rattle.unit.proofs.Sound.{on_record-sound}
use Rattle.wire.proofs.Tests.{and_left, and_right, and_both}
use Rattle.history.specs.Histories.{after, names, timeout_for, silent, timeouts}
use Rattle.history.specs.Reaching.{rbc5}
use Rattle.history.specs.Between.{riu7}

-- the state after a record, and after a row of them
abbrev pub next : State → List ℕ → State
next s bytes = (on_reading s (reading bytes)).state

unfoldable pub goes : State → List (List ℕ) → State
goes s [] = s
goes s (bytes ∷ history) = goes (next s bytes) history

-- the row names the partner by nothing but timeouts
unfoldable pub quietly : Partner → State → List (List ℕ) → Bool
quietly p s [] = true
quietly p s (bytes ∷ history) = (not (names p s bytes) || timeout_for p bytes) && quietly p (next s bytes) history

-- a sound state passes the test
next-is : (s : State) (bytes : List ℕ) → sound s ≡ true → (on_record s bytes action_room).state ≡ next s bytes
unfolding on_record
next-is s bytes ok = rw ok refl

next-sound : (s : State) (bytes : List ℕ) → sound s ≡ true → sound (next s bytes) ≡ true
next-sound s bytes ok = subst (λ x. sound x ≡ true) (next-is s bytes ok) (on_record-sound s bytes action_room ok)

pub after-goes : (s : State) → sound s ≡ true → (history : List (List ℕ)) → after s history ≡ goes s history
unfolding after goes
after-goes s ok [] = refl
after-goes s ok (bytes ∷ history) =
    ap (λ x. after x history) (next-is s bytes ok) ∙ after-goes (next s bytes) (next-sound s bytes ok) history

pub silent-quietly : (p : Partner) (s : State)
    → sound s ≡ true
    → (history : List (List ℕ))
    → silent p s history ≡ quietly p s history
unfolding silent quietly
silent-quietly p s ok [] = refl
silent-quietly p s ok (bytes ∷ history) =
    ap (λ b. (not (names p s bytes) || timeout_for p bytes) && b)
    (ap (λ x. silent p x history) (next-is s bytes ok) ∙ silent-quietly p (next s bytes) (next-sound s bytes ok) history)

-- one row, then another
goes-append : (s : State) (a b : List (List ℕ)) → goes s (a ++ b) ≡ goes (goes s a) b
unfolding goes
goes-append s [] b = refl
goes-append s (bytes ∷ a) b = goes-append (next s bytes) a b

quietly-append : (p : Partner) (s : State) (a b : List (List ℕ))
    → quietly p s a ≡ true
    → quietly p (goes s a) b ≡ true
    → quietly p s (a ++ b) ≡ true
unfolding goes quietly
quietly-append p s [] b first second = second
quietly-append p s (bytes ∷ a) b first second =
    let q = not (names p s bytes) || timeout_for p bytes in
    and_both q (quietly p (next s bytes) (a ++ b)) (and_left q (quietly p (next s bytes) a) first)
    (quietly-append p (next s bytes) a b (and_right q (quietly p (next s bytes) a) first) second)

pub timeouts-append : (p : Partner) (a b : List (List ℕ)) → timeouts p (a ++ b) ≡ timeouts p a + timeouts p b
unfolding timeouts
timeouts-append p [] b = omega arith
timeouts-append p (bytes ∷ a) b =
    let rest = timeouts-append p a b in
    omega arith

-- a row leads from one state to another and is silent for both
abbrev pub Passes : State → List (List ℕ) → State → Type 0
Passes s history end = (goes s history ≡ end) × (quietly rbc5 s history ≡ true) × (quietly riu7 s history ≡ true)

pub passes_on : (s via end : State) (a b : List (List ℕ)) → Passes s a via → Passes via b end → Passes s (a ++ b) end
passes_on s via end a b first second = (
  goes-append s a b ∙ ap (λ x. goes x b) first.0 ∙ second.0,
  quietly-append rbc5 s a b first.1 (ap (λ x. quietly rbc5 x b) first.0 ∙ second.1),
  quietly-append riu7 s a b first.2 (ap (λ x. quietly riu7 x b) first.0 ∙ second.2),
)

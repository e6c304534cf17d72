-- Histories one after the other; histories of which nothing is taken; tests that every history keeps.
-- Defines: NoneTaken.
-- Proves: after-append, codes-append, every-all, none-taken, kept.
use mathlib.Core.Path.{◌≡◌, refl, sym, ap, ◌∙◌}
use mathlib.Core.Bool.{Bool, true, cond}
use mathlib.Core.List.{List, [], ◌∷◌, ◌++◌, map, map-append}
use Prim.Native.Nat.{ℕ}
use native.Mathlib.Omega.{arith}
use lib.ListN.{length, replicate}
use Rattle.std.specs.Prelude.{Option, Some, None}
use Rattle.onsight.specs.Numbers.{not_taken_here}
use Rattle.onsight.specs.Procedures.{cell, answered, step}
use Rattle.onsight.specs.Histories.{after}
use Rattle.onsight.specs.HistoryWords.{met, codes, every}
use Rattle.onsight.specs.declared.event.Event.{Event}
use Rattle.onsight.specs.declared.procedure.State.{State}
use Rattle.onsight.proofs.Again.Meanings.{met-append, and_left, and_right}
use Rattle.onsight.proofs.WholeTable.{drawn, on_taken, taken-rule, by-cell}

pub after-append : (s : State) (es fs : List Event) → after s (es ++ fs) ≡ after (after s es) fs
unfolding after
after-append s [] fs = refl
after-append s (e ∷ es) fs = after-append (step s e).state es fs

pub codes-append : (s : State) (es fs : List Event) → codes s (es ++ fs) ≡ codes s es ++ codes (after s es) fs
codes-append s es fs =
    ap (map (λ m. m.answer.code)) (met-append s es fs)
    ∙ map-append (λ m. m.answer.code) (met s es) (met (after s es) fs)

-- every event passes a test that all pass
pub every-all : (es : List Event) → every (λ e. true) es ≡ true
unfolding every
every-all [] = refl
every-all (e ∷ es) = every-all es

-- each event of a history is refused, and the state stays
abbrev pub NoneTaken : State → List Event → Type 0
NoneTaken s es = (codes s es ≡ replicate (length es) not_taken_here) × (after s es ≡ s)

-- so it is where a state takes none of the events that pass a test, and all pass it
module _ (s : State) (test : Event → Bool) (shut : (e : Event) → test e ≡ true → cell s e ≡ None) where
  pub none-taken : (es : List Event) → every test es ≡ true → NoneTaken s es
  unfolding after met every
  none-taken [] h = (refl, refl)
  none-taken (e ∷ es) h =
      by (cell s e) (shut e (and_left (test e) (every test es) h)) (none-taken es (and_right (test e) (every test es) h))
    where
      by : (c : Option State)
          → c ≡ None
          → NoneTaken s es
          → ((answered s c).code ∷ codes (answered s c).state es ≡ replicate (length (e ∷ es)) not_taken_here)
          × (after (answered s c).state es ≡ s)
      by None is rest = (ap (λ l. not_taken_here ∷ l) rest.0, rest.1)
      by (Some next) is rest = absurd (let z : ◌≡◌ {A = ℕ} 0 1 = cc in omega arith)

-- a test that every event taken keeps is kept by every history
module _
    (test : State → Bool)
    (keeps : drawn (λ s e. on_taken (λ next. cond (test s) (test next) true) true (cell s e)) ≡ drawn (λ s e. true))
  where
    next-kept : (s : State) (e : Event)
        → test s ≡ true
        → (next : State)
        → cell s e ≡ Some next
        → test next ≡ true
    next-kept s e h next gives =
        sym (ap (λ b. cond b (test next) true) h)
        ∙ taken-rule (λ s e next. cond (test s) (test next) true) (λ s e. true) keeps s e next gives

    pub kept : (s : State) → test s ≡ true → (es : List Event) → test (after s es) ≡ true
    unfolding after
    kept s h [] = h
    kept s h (e ∷ es) =
        kept (step s e).state (by-cell (λ a. test a.state ≡ true) s (cell s e) (λ is. h) (next-kept s e h)) es

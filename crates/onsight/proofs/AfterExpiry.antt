-- "Prove that after expiry in Late only the acknowledgement leads on."
-- Proves: late-brakes, expired-codes, expired-stays, expired-brakes, acknowledged-codes, acknowledged-done,
-- acknowledged-released, expired-never-late, expired-only-acknowledgement.
use mathlib.Core.Path.{◌≡◌, refl, sym, ap, ◌∙◌}
use mathlib.Core.Bool.{Bool, true, false, cond, not, true≢false}
use mathlib.Core.List.{List, [], ◌∷◌, ◌++◌}
use Prim.Native.Nat.{ℕ}
use native.Mathlib.Omega.{arith}
use lib.ListN.{length, replicate}
use Rattle.std.specs.Prelude.{None}
use Rattle.onsight.specs.Cases.{by_state}
use Rattle.onsight.specs.Numbers.{accepted, not_taken_here}
use Rattle.onsight.specs.Procedures.{cell, fresh, taken, step, service_brake}
use Rattle.onsight.specs.Histories.{after}
use Rattle.onsight.specs.HistoryWords.{met, codes, is_acknowledgement, unacknowledged}
use Rattle.onsight.specs.declared.event.Event.{Event}
use Rattle.onsight.specs.declared.event.Event.TheVariants.{Acknowledgement, Expiry}
use Rattle.onsight.specs.declared.procedure.State.{State}
use Rattle.onsight.specs.declared.procedure.State.TheVariants.{Late, Braking, Done}
use Rattle.onsight.proofs.Again.Rows.{late-answers}
use Rattle.onsight.proofs.Again.Tests.{is_acknowledgement-means}
use Rattle.onsight.proofs.WholeTable.{line-rule, taken-rule, by-cell}
use Rattle.onsight.proofs.Histories.{after-append, codes-append, NoneTaken, none-taken, kept}

-- Braking takes nothing but the acknowledgement
braking-shut : (e : Event) → not (is_acknowledgement e) ≡ true → cell Braking e ≡ None
braking-shut e other =
    by (is_acknowledgement e) other
    (line-rule (λ f. cond (is_acknowledgement f) None (cell Braking f)) (λ f. None) refl e)
  where
    by : (b : Bool) → not b ≡ true → cond b None (cell Braking e) ≡ None → cell Braking e ≡ None
    by true h shut = absurd (true≢false (sym h))
    by false h shut = shut

-- the states that follow an expiry
abbrev past : State → Bool
past = by_state false false false false true true

past-takes : (s : State) → past s ≡ true → (e : Event) → (step s e).code ≡ accepted → e ≡ Acknowledgement
past-takes s gone e =
    by-cell (λ a. a.code ≡ accepted → e ≡ Acknowledgement) s (cell s e)
    (λ is h. absurd (omega arith))
    (λ next gives h. (is_acknowledgement-means e).0
    (sym (ap (λ b. cond b (is_acknowledgement e) true) gone)
    ∙ taken-rule (λ s e next. cond (past s) (is_acknowledgement e) true) (λ s e. true) refl s e next gives))

-- a history that comes to Late
module _ (es : List Event) (late : after fresh es ≡ Late) where
  -- 002, property 5.9_02_02: Late always takes the expiry, and brakes
  -- promise
  pub late-brakes :
      (step (after fresh es) Expiry ≡ taken Braking)
      × (service_brake (after fresh (es ++ (Expiry ∷ []))) ≡ true)
  unfolding after
  late-brakes = (
    ap (λ s. step s Expiry) late ∙ late-answers.8,
    ap service_brake (after-append fresh es (Expiry ∷ []) ∙ ap (λ s. after s (Expiry ∷ [])) late),
  )

  expired : (fs : List Event) → after fresh (es ++ (Expiry ∷ fs)) ≡ after Braking fs
  unfolding after
  expired fs = after-append fresh es (Expiry ∷ fs) ∙ ap (λ s. after s (Expiry ∷ fs)) late

  codes-expired : (fs : List Event) → codes fresh (es ++ (Expiry ∷ fs)) ≡ codes fresh es ++ (accepted ∷ codes Braking fs)
  unfolding after met
  codes-expired fs = codes-append fresh es (Expiry ∷ fs) ∙ ap (λ s. codes fresh es ++ codes s (Expiry ∷ fs)) late

  -- while no acknowledgement comes
  module _ (fs : List Event) (none : unacknowledged fs ≡ true) where
    silent : NoneTaken Braking fs
    silent = none-taken Braking (λ e. not (is_acknowledgement e)) braking-shut fs none

    -- the expiry is accepted, and every event after it is refused with 14
    -- promise
    pub expired-codes : codes fresh (es ++ (Expiry ∷ fs)) ≡ codes fresh es ++ (accepted ∷ replicate (length fs) not_taken_here)
    expired-codes = codes-expired fs ∙ ap (λ l. codes fresh es ++ (accepted ∷ l)) silent.0

    -- the state stays Braking
    -- promise
    pub expired-stays : after fresh (es ++ (Expiry ∷ fs)) ≡ Braking
    expired-stays = expired fs ∙ silent.1

    -- the brake stays on
    -- promise
    pub expired-brakes : service_brake (after fresh (es ++ (Expiry ∷ fs))) ≡ true
    expired-brakes = ap service_brake expired-stays

    -- the first acknowledgement is accepted
    -- promise
    pub acknowledged-codes :
        codes fresh (es ++ (Expiry ∷ (fs ++ (Acknowledgement ∷ []))))
        ≡ codes fresh es ++ (accepted ∷ (replicate (length fs) not_taken_here ++ (accepted ∷ [])))
    unfolding met
    acknowledged-codes =
        codes-expired (fs ++ (Acknowledgement ∷ []))
        ∙ ap (λ l. codes fresh es ++ (accepted ∷ l))
        (codes-append Braking fs (Acknowledgement ∷ [])
        ∙ ap (λ s. codes Braking fs ++ codes s (Acknowledgement ∷ [])) silent.1
        ∙ ap (λ l. l ++ (accepted ∷ [])) silent.0)

    -- it gives Done
    -- promise
    pub acknowledged-done : after fresh (es ++ (Expiry ∷ (fs ++ (Acknowledgement ∷ [])))) ≡ Done
    unfolding after
    acknowledged-done =
        expired (fs ++ (Acknowledgement ∷ []))
        ∙ after-append Braking fs (Acknowledgement ∷ [])
        ∙ ap (λ s. after s (Acknowledgement ∷ [])) silent.1

    -- and the brake off
    -- promise
    pub acknowledged-released : service_brake (after fresh (es ++ (Expiry ∷ (fs ++ (Acknowledgement ∷ []))))) ≡ false
    acknowledged-released = ap service_brake acknowledged-done

  -- whatever comes, acknowledgements too
  module _ (gs : List Event) where
    past-expiry : past (after fresh (es ++ (Expiry ∷ gs))) ≡ true
    past-expiry = ap past (expired gs) ∙ kept past refl Braking refl gs

    -- 002, property 5.9_02_01: after an accepted expiry no later state is Late,
    -- promise
    pub expired-never-late : after fresh (es ++ (Expiry ∷ gs)) ≡ Late → ⊥
    expired-never-late again = let z : ◌≡◌ {A = ℕ} 0 1 = cc (ap past again, past-expiry) in omega arith

    -- and nothing but the acknowledgement is taken
    -- promise
    pub expired-only-acknowledgement : (e : Event)
        → (step (after fresh (es ++ (Expiry ∷ gs))) e).code ≡ accepted
        → e ≡ Acknowledgement
    expired-only-acknowledgement = past-takes (after fresh (es ++ (Expiry ∷ gs))) past-expiry

-- When OS is in force, when a procedure is done, and that both stay so.
-- Proves: in-force-any, done-any, done-in-force, brake-in-force, in-force-stays, done-codes, done-stays.
use mathlib.Core.Path.{◌≡◌, refl, sym, ap, ◌∙◌}
use mathlib.Core.Bool.{Bool, true, false, cond, ◌||◌}
use mathlib.Core.List.{List, [], ◌∷◌, ◌++◌}
use lib.Dec.{eqb}
use lib.ListN.{length, replicate}
use Rattle.std.specs.Prelude.{None}
use Rattle.onsight.specs.Numbers.{accepted, not_taken_here}
use Rattle.onsight.specs.Procedures.{cell, fresh, os_in_force, service_brake}
use Rattle.onsight.specs.Histories.{after}
use Rattle.onsight.specs.HistoryWords.{met, codes, accepted_of, accepted_in, any_is, is_done, brings_os, ends}
use Rattle.onsight.specs.declared.event.Event.{Event}
use Rattle.onsight.specs.declared.procedure.State.{State}
use Rattle.onsight.specs.declared.procedure.State.TheVariants.{Done}
use Rattle.onsight.proofs.Again.Rows.{service_brake-states}
use Rattle.onsight.proofs.WholeTable.{drawn, on_taken, line-rule, taken-rule, by-cell}
use Rattle.onsight.proofs.Histories.{after-append, codes-append, every-all, NoneTaken, none-taken, kept}

-- a question on the state that is answered yes exactly from the first event on that brings it
module _
    (asked : State → Bool)
    (brings : Event → Bool)
    (bringing : drawn (λ s e. on_taken asked (asked s || brings e) (cell s e)) ≡ drawn (λ s e. asked s || brings e))
  where
    any-from : (s : State) (es : List Event) → asked (after s es) ≡ any_is brings (asked s) (accepted_in s es)
    unfolding after met accepted_of any_is
    any-from s [] = refl
    any-from s (e ∷ es) =
        by-cell
        (λ a. asked (after a.state es)
        ≡ any_is brings (asked s)
        (cond (eqb a.code accepted)
        (record { state = s; event = e; answer = a } ∷ accepted_in a.state es)
        (accepted_in a.state es)))
        s
        (cell s e)
        (λ is. any-from s es)
        (λ next gives.
        any-from next es
        ∙ ap (λ b. any_is brings b (accepted_in next es))
        (taken-rule (λ s e next. asked next) (λ s e. asked s || brings e) bringing s e next gives))

-- OS is in force exactly when an accepted event has brought it
-- promise
pub in-force-any : (es : List Event) → os_in_force (after fresh es) ≡ any_is brings_os false (accepted_in fresh es)
in-force-any es = any-from os_in_force brings_os refl fresh es

-- the procedure is done exactly when an accepted event has ended it
-- promise
pub done-any : (es : List Event) → is_done (after fresh es) ≡ any_is ends false (accepted_in fresh es)
done-any es = any-from is_done ends refl fresh es

-- 002, invariant inv6, "whenever the final state is reached, the mode of the train is on-sight": it is in force, and an accepted event
-- has brought it
-- promise
pub done-in-force : (es : List Event)
    → after fresh es ≡ Done
    → (os_in_force (after fresh es) ≡ true)
    × (any_is brings_os false (accepted_in fresh es) ≡ true)
done-in-force es done = (ap os_in_force done, sym (in-force-any es) ∙ ap os_in_force done)

-- and so it is wherever the service brake is on
-- promise
pub brake-in-force : (es : List Event)
    → service_brake (after fresh es) ≡ true
    → (os_in_force (after fresh es) ≡ true)
    × (any_is brings_os false (accepted_in fresh es) ≡ true)
brake-in-force es on =
    let braking = (service_brake-states (after fresh es)).0 on in
    (ap os_in_force braking, sym (in-force-any es) ∙ ap os_in_force braking)

-- once OS is in force it stays so to the end of the procedure
-- promise
pub in-force-stays : (es fs : List Event)
    → os_in_force (after fresh es) ≡ true
    → os_in_force (after fresh (es ++ fs)) ≡ true
in-force-stays es fs h = ap os_in_force (after-append fresh es fs) ∙ kept os_in_force refl (after fresh es) h fs

-- a history that comes to Done, and goes on
module _ (es fs : List Event) (done : after fresh es ≡ Done) where
  ended : NoneTaken Done fs
  ended = none-taken Done (λ e. true) (λ e h. line-rule (cell Done) (λ f. None) refl e) fs (every-all fs)

  -- Done takes nothing
  -- promise
  pub done-codes : codes fresh (es ++ fs) ≡ codes fresh es ++ replicate (length fs) not_taken_here
  done-codes = codes-append fresh es fs ∙ ap (λ s. codes fresh es ++ codes s fs) done ∙ ap (λ l. codes fresh es ++ l) ended.0

  -- and stays
  -- promise
  pub done-stays : after fresh (es ++ fs) ≡ Done
  done-stays = after-append fresh es fs ∙ ap (λ s. after s fs) done ∙ ended.1

-- Cross-checks only: rules told a second time.
-- What is promised of histories, said of their events one by one, with no test of this crate in between.
-- Proves: profile-taken, acknowledgement-taken, expiry-taken, brake-exactly, in-force-exactly, done-exactly, expired-plainly.
use mathlib.Core.Path.{◌≡◌, refl, sym, ap, ◌∙◌}
use mathlib.Core.Logic.{◌↔◌, ◌⊎◌, inl, inr, ⊎_elim}
use mathlib.Core.Bool.{Bool, true, false, cond, false≢true}
use mathlib.Core.List.{List, [], ◌∷◌, ◌++◌}
use Prim.Native.Nat.{ℕ, zero, suc, ◌<◌}
use native.Mathlib.Omega.{arith}
use lib.Dec.{eqb}
use lib.ListN.{length, get_or, take, replicate}
use borrow.Author.Tests.{eqb-true, eq-eqb}
use Rattle.onsight.specs.Procedures.{fresh, step, os_in_force, service_brake}
use Rattle.onsight.specs.Histories.{after}
use Rattle.onsight.specs.HistoryWords.{Met, met, codes, accepted_of, accepted_in, last_is, any_is, is_done, expiry_in_late, brings_os, ends}
use Rattle.onsight.specs.declared.event.Area.{Area}
use Rattle.onsight.specs.declared.event.Area.TheVariants.{Entered}
use Rattle.onsight.specs.declared.event.Mode.{Mode}
use Rattle.onsight.specs.declared.event.Mode.TheVariants.{OS, Another}
use Rattle.onsight.specs.declared.event.Event.{Event}
use Rattle.onsight.specs.declared.event.Event.TheVariants.{Profile, Window, Start, Acknowledgement, Expiry}
use Rattle.onsight.specs.declared.procedure.State.{State}
use Rattle.onsight.specs.declared.procedure.State.TheVariants.{Idle, Asked, Late, Braking, Done}
use Rattle.onsight.proofs.Again.Tests.{is_idle-means, is_late-means, is_done-means, asks_for_acknowledgement-means, is_profile-means}
use Rattle.onsight.proofs.Again.Tests.{expiry_in_late-means, ends-means, brings_os-means}
use Rattle.onsight.proofs.Again.Meanings.{met-each, met-length, last_is-means, any_is-means, unacknowledged-means}
use Rattle.onsight.proofs.AfterExpiry.{expired-stays, acknowledged-codes, acknowledged-done}
use Rattle.onsight.proofs.Brake.{brake-last}
use Rattle.onsight.proofs.ByEvent.{profile-idle, acknowledgement-asked, expiry-late}
use Rattle.onsight.proofs.InForce.{in-force-any, done-any}

-- "Idle takes only this": an event that is taken is a profile exactly where the state is Idle
-- promise
pub profile-taken : (s : State) (e : Event)
    → (step s e).code ≡ 0
    → ((area : Area) × ((mode : Mode) × (e ≡ Profile area mode)))
    ↔ (s ≡ Idle)
profile-taken s e is = (
  (λ h. (is_idle-means s).0 (sym (profile-idle s e is) ∙ (is_profile-means e).1 h)),
  (λ h. (is_profile-means e).0 (profile-idle s e is ∙ (is_idle-means s).1 h)),
)

-- "Asked, Late and Braking: driver acknowledgement"
-- promise
pub acknowledgement-taken : (s : State)
    → ((step s Acknowledgement).code ≡ 0)
    ↔ ((s ≡ Asked) ⊎ ((s ≡ Late) ⊎ (s ≡ Braking)))
acknowledgement-taken s = (
  (λ h. (asks_for_acknowledgement-means s).0 (sym (acknowledgement-asked s) ∙ eq-eqb (step s Acknowledgement).code 0 h)),
  (λ h. eqb-true (step s Acknowledgement).code 0 (acknowledgement-asked s ∙ (asks_for_acknowledgement-means s).1 h)),
)

-- "Late: timer expiry"
-- promise
pub expiry-taken : (s : State) → ((step s Expiry).code ≡ 0) ↔ (s ≡ Late)
expiry-taken s = (
  (λ h. (is_late-means s).0 (sym (expiry-late s) ∙ eq-eqb (step s Expiry).code 0 h)),
  (λ h. eqb-true (step s Expiry).code 0 (expiry-late s ∙ (is_late-means s).1 h)),
)

-- a list is empty or has a last one
ends-in : (ms : List Met) → (ms ≡ []) ⊎ ((ns : List Met) × ((m : Met) × (ms ≡ ns ++ (m ∷ []))))
ends-in [] = inl refl
ends-in (m ∷ ms) =
    inr
    (⊎_elim
    (λ none. ([], (m, ap (λ l. m ∷ l) none)))
    (λ last. (m ∷ last.0, (last.1.0, ap (λ l. m ∷ l) last.1.1)))
    (ends-in ms))

-- the brake is on exactly when the last accepted event was an expiry in Late
-- promise
pub brake-exactly : (es : List Event)
    → (service_brake (after fresh es) ≡ true)
    ↔ ((ms : List Met)
    × ((m : Met) × ((accepted_in fresh es ≡ ms ++ (m ∷ [])) × ((m.state ≡ Late) × (m.event ≡ Expiry)))))
brake-exactly es = (
  (λ on. ⊎_elim
      (λ none. absurd (false≢true
      (sym (ap (last_is expiry_in_late false) none ∙ (last_is-means expiry_in_late false [] idle).0) ∙ sym (brake-last es) ∙ on)))
      (λ last.
      let told = (last_is-means expiry_in_late false last.0 last.1.0).1 in (
        last.0,
        (
          last.1.0,
          (
            last.1.1,
            (expiry_in_late-means last.1.0).0
                (sym told ∙ sym (ap (last_is expiry_in_late false) last.1.1) ∙ sym (brake-last es) ∙ on),
          ),
        ),
      ))
      (ends-in (accepted_in fresh es))),
  (λ h.
      brake-last es
      ∙ ap (last_is expiry_in_late false) h.1.1.0
      ∙ (last_is-means expiry_in_late false h.0 h.1.0).1
      ∙ (expiry_in_late-means h.1.0).1 h.1.1.1),
)
  where
    idle : Met
    idle = record { state = Idle; event = Window; answer = step Idle Window }

-- an accepted one passes the test: its place among all, and its place among the accepted
abbrev Among : (Event → Bool) → Met → List Met → Type 0
Among test d ms = (i : ℕ) × ((i < length ms) × (((get_or ms i d).answer.code ≡ 0) × (test (get_or ms i d).event ≡ true)))

abbrev AmongAccepted : (Event → Bool) → Met → List Met → Type 0
AmongAccepted test d ms = (i : ℕ) × ((i < length ms) × (test (get_or ms i d).event ≡ true))

module _ (test : Event → Bool) (d : Met) where
  later : (m : Met) (ms : List Met) → Among test d ms → Among test d (m ∷ ms)
  later m ms (i, (less, h)) = (suc i, (omega arith, h))

  among : (ms : List Met) → AmongAccepted test d (accepted_of ms) → Among test d ms
  unfolding accepted_of
  among [] (i, (less, h)) = absurd (omega arith)
  among (m ∷ ms) found = by (eqb m.answer.code 0) refl (among ms) found
    where
      by : (b : Bool)
          → eqb m.answer.code 0 ≡ b
          → (AmongAccepted test d (accepted_of ms) → Among test d ms)
          → AmongAccepted test d (cond b (m ∷ accepted_of ms) (accepted_of ms))
          → Among test d (m ∷ ms)
      by true is rest (zero, (less, h)) = (zero, (omega arith, (eqb-true m.answer.code 0 is, h)))
      by true is rest (suc i, (less, h)) = later m ms (rest (i, (omega arith, h)))
      by false is rest found = later m ms (rest found)

  among-accepted : (ms : List Met) → Among test d ms → AmongAccepted test d (accepted_of ms)
  unfolding accepted_of
  among-accepted [] (i, (less, h)) = absurd (omega arith)
  among-accepted (m ∷ ms) found = by (eqb m.answer.code 0) refl (among-accepted ms) found
    where
      by : (b : Bool)
          → eqb m.answer.code 0 ≡ b
          → (Among test d ms → AmongAccepted test d (accepted_of ms))
          → Among test d (m ∷ ms)
          → AmongAccepted test d (cond b (m ∷ accepted_of ms) (accepted_of ms))
      by true is rest (zero, (less, h)) = (zero, (omega arith, h.1))
      by false is rest (zero, (less, h)) = absurd (false≢true (sym is ∙ eq-eqb m.answer.code 0 h.0))
      by true is rest (suc i, (less, h)) =
          let at = rest (i, (omega arith, h)) in
          let before = at.1.0 in
          (suc at.0, (omega arith, at.1.1))
      by false is rest (suc i, (less, h)) = rest (i, (omega arith, h))

-- a question that is answered yes exactly from the first accepted event on that brings it, said of the events
module _
    (asked : State → Bool)
    (brings : Event → Bool)
    (any : (es : List Event) → asked (after fresh es) ≡ any_is brings false (accepted_in fresh es))
    (d : Event)
  where
    abbrev Brought : List Event → Type 0
    Brought es =
        (i : ℕ)
        × ((i < length es) × (((step (after fresh (take i es)) (get_or es i d)).code ≡ 0) × (brings (get_or es i d) ≡ true)))

    told : Met
    told = record { state = Idle; event = d; answer = step Idle d }

    brought : (es : List Event) → asked (after fresh es) ≡ true → Brought es
    brought es h =
        said
        (among brings told (met fresh es)
        (⊎_elim (λ never. absurd (false≢true never)) (λ found. found)
        ((any_is-means brings false (accepted_in fresh es) told).0 (sym (any es) ∙ h))))
      where
        said : Among brings told (met fresh es) → Brought es
        said (i, (less, (taken, h))) =
            let long = met-length fresh es in
            let inside : i < length es = omega arith in
            let at = met-each fresh es i told d inside in
            (i, (inside, (sym (ap (λ m. m.answer.code) at) ∙ taken, sym (ap (λ m. brings m.event) at) ∙ h)))

    bringing : (es : List Event) → Brought es → asked (after fresh es) ≡ true
    bringing es (i, (less, (taken, h))) =
        let long = met-length fresh es in
        let at = met-each fresh es i told d less in
        any es
        ∙ (any_is-means brings false (accepted_in fresh es) told).1
        (inr (among-accepted brings told (met fresh es)
        (i, (omega arith, (ap (λ m. m.answer.code) at ∙ taken, ap (λ m. brings m.event) at ∙ h)))))

module _ (es : List Event) (d : Event) where
  -- OS is in force exactly when an event was accepted that brings it: the area entered in OS or in another mode than SB and PT, the start
  -- passed, or an acknowledgement
  -- promise
  pub in-force-exactly :
      (os_in_force (after fresh es) ≡ true)
      ↔ ((i : ℕ)
      × ((i < length es)
      × (((step (after fresh (take i es)) (get_or es i d)).code ≡ 0)
      × ((get_or es i d ≡ Profile Entered OS)
      ⊎ ((get_or es i d ≡ Profile Entered Another) ⊎ ((get_or es i d ≡ Start) ⊎ (get_or es i d ≡ Acknowledgement)))))))
  in-force-exactly = (
    (λ h.
        let found = brought os_in_force brings_os in-force-any d es h in
        (found.0, (found.1.0, (found.1.1.0, (brings_os-means (get_or es found.0 d)).0 found.1.1.1)))),
    (λ found. bringing os_in_force brings_os in-force-any d es
        (found.0, (found.1.0, (found.1.1.0, (brings_os-means (get_or es found.0 d)).1 found.1.1.1)))),
  )

  -- a procedure is done exactly when an event was accepted that ends it: the area entered in OS, or an acknowledgement
  -- promise
  pub done-exactly :
      (after fresh es ≡ Done)
      ↔ ((i : ℕ)
      × ((i < length es)
      × (((step (after fresh (take i es)) (get_or es i d)).code ≡ 0)
      × ((get_or es i d ≡ Profile Entered OS) ⊎ (get_or es i d ≡ Acknowledgement)))))
  done-exactly = (
    (λ h.
        let found = brought is_done ends done-any d es ((is_done-means (after fresh es)).1 h) in
        (found.0, (found.1.0, (found.1.1.0, (ends-means (get_or es found.0 d)).0 found.1.1.1)))),
    (λ found. (is_done-means (after fresh es)).0 (bringing is_done ends done-any d es
        (found.0, (found.1.0, (found.1.1.0, (ends-means (get_or es found.0 d)).1 found.1.1.1))))),
  )

-- "after expiry in Late only the acknowledgement leads on": the expiry is accepted, what comes before an acknowledgement is refused and
-- leaves Braking, and the acknowledgement is accepted and gives Done
-- promise
pub expired-plainly : (es fs : List Event) (d : Event)
    → after fresh es ≡ Late
    → ((i : ℕ) → i < length fs → get_or fs i d ≡ Acknowledgement → ⊥)
    → (codes fresh (es ++ (Expiry ∷ (fs ++ (Acknowledgement ∷ []))))
    ≡ codes fresh es ++ (0 ∷ (replicate (length fs) 14 ++ (0 ∷ []))))
    × (after fresh (es ++ (Expiry ∷ fs)) ≡ Braking)
    × (after fresh (es ++ (Expiry ∷ (fs ++ (Acknowledgement ∷ [])))) ≡ Done)
expired-plainly es fs d late none =
    let silent = (unacknowledged-means fs d).1 none in
    (acknowledged-codes es late fs silent, expired-stays es late fs silent, acknowledged-done es late fs silent)

-- Request Q-6: refusals 5 and 7 say which place the partner has and in which phase, and no other answer does.
-- Proves: step-told, on_record-told, step-stands, step-says, step-silent, step-nobody, on_record-stands, on_record-says, on_record-silent,
-- on_record-nobody.
use mathlib.Core.Path.{◌≡◌, refl, sym, ap, subst}
use mathlib.Core.Logic.{inl, inr, ⊎_elim}
use mathlib.Core.List.{List}
use Prim.Native.Nat.{ℕ}
use native.Mathlib.Omega.{arith}
use lib.ListN.{length}
use Rattle.wire.specs.Refusals as refusal
use Rattle.record.specs.Records.{reading}
use Rattle.record.specs.declared.partner.Partner.{Partner}
use Rattle.record.specs.declared.event.Event.{Event}
use Rattle.place.specs.Places.{phase_number}
use Rattle.place.specs.declared.phase.Phase.{Phase}
use Rattle.place.specs.declared.place.Place.{Place}
use Rattle.unit.specs.States.{place_count, seek, nowhere, standing}
use Rattle.unit.specs.Steps.{Outcome, step}
use Rattle.unit.specs.OnRecords.{on_record}
use Rattle.unit.specs.Standings.{Concern, nobody, order_to, call_of, naming, concern, concern_of, Numbered, Stands, Says}
use Rattle.unit.specs.declared.state.State.{State}
use Rattle.unit.specs.declared.search.Found.TheVariants.{At}
use Rattle.unit.specs.declared.search.Standing.{Standing}
use Rattle.unit.proofs.Searches.{found_ok}
use Rattle.unit.proofs.Shapes.{ToldOf, says, silent, Told, told_none}
use Rattle.unit.proofs.Shapes.{Shape, refuses, notes, closes_every, orders, calls, turns, shape, by-reading}
use Rattle.unit.proofs.Facts.{sound-facts}

module _ (s : State) where
  none : (c : Concern) → Told s.places c refusal.accepted nowhere
  none c = told_none s.places c refusal.accepted (λ h. omega arith) (λ h. omega arith)

  told-by : {e : Event} {c : Concern} {o : Outcome} → Shape s e c o → Told s.places c o.code o.standing
  told-by (refuses r may said) = said
  told-by (notes t m within) = refl
  told-by (closes_every t within) = refl
  told-by (orders p which m i within ok found) = none (order_to p)
  told-by (calls p i ok rbc found) = none (call_of p)
  told-by (turns p event i ok found taken) = none (naming p event)

  -- what every step tells, by its number
  pub step-told : (e : Event) → Told s.places (concern s.last e) (step s e).code (step s e).standing
  step-told e = told-by (shape s e)

  -- and the step on a record
  pub on_record-told : (bytes : List ℕ) (room : ℕ)
      → Told s.places (concern_of s.last (reading bytes)) (on_record s bytes room).code (on_record s bytes room).standing
  on_record-told bytes room =
      let c = concern_of s.last (reading bytes) in
      by-reading s (λ o. Told s.places c o.code o.standing) bytes room
      (told_none s.places c refusal.no_room (λ h. omega arith) (λ h. omega arith))
      (told_none s.places c refusal.not_sound (λ h. omega arith) (λ h. omega arith))
      (λ r is low high. told_none s.places c r (λ h. omega arith) (λ h. omega arith))
      (λ e is good ok. rw is (step-told e))

-- where a partner was found, it stands
found-stands : (ps : List Place) (p : Partner) (i : ℕ) (ph : Phase)
    → length ps ≡ place_count
    → seek p ps ≡ At i ph
    → Stands ps p (standing (At i ph))
found-stands ps p i ph four found =
    let ok = found_ok p ps (At i ph) found in
    (omega (arith, four, ok.0), ok.1, ap phase_number (sym ok.2))

-- a partner of which nothing is told is refused with another number
told-else : (ps : List Place) (p : Partner) (r : ℕ) {w : Standing}
    → ToldOf ps p r w
    → (r ≡ refusal.has_place → ⊥)
    → (r ≡ refusal.not_taken → ⊥)
    → w ≡ nowhere
told-else ps p r (says i ph found (inl is)) five seven = absurd (five is)
told-else ps p r (says i ph found (inr is)) five seven = absurd (seven is)
told-else ps p r (silent other rest) five seven = refl

-- what is told of a partner is where it stands, if a place is said, and always with 5 and 7
module _ (ps : List Place) (four : length ps ≡ place_count) (p : Partner) (r : ℕ) where
  told-there : {w : Standing} → ToldOf ps p r w → (w.place ≡ place_count → ⊥) → Stands ps p w
  told-there (says i ph found which) place = found-stands ps p i ph four found
  told-there (silent five seven) place = absurd (place refl)

  told-always : {w : Standing} → ToldOf ps p r w → Numbered r → Stands ps p w
  told-always (says i ph found which) number = found-stands ps p i ph four found
  told-always (silent five seven) number = absurd (⊎_elim five seven number)

-- the same of what is told at all: an event concerns nobody or a partner
module _ (ps : List Place) (c : Concern) (r : ℕ) (w : Standing) where
  by-partner : {Q : Type 0}
      → (c ≡ nobody → w ≡ nowhere → Q)
      → ((p : Partner) → ToldOf ps p r w → (Stands ps p w → Says ps c w) → Q)
      → Told ps c r w
      → Q
  by-partner = by c
    where
      by : (c : Concern) {Q : Type 0}
          → (c ≡ nobody → w ≡ nowhere → Q)
          → ((p : Partner) → ToldOf ps p r w → (Stands ps p w → Says ps c w) → Q)
          → Told ps c r w
          → Q
      by nobody none some told = none refl told
      by (order_to p) none some told = some p told (λ stands. stands)
      by (call_of p) none some told = some p told (λ stands. stands)
      by (naming p e) none some told = some p told (λ stands. stands)

  said-there : length ps ≡ place_count → Told ps c r w → (w.place ≡ place_count → ⊥) → Says ps c w
  said-there four told place =
      by-partner (λ none nothing. absurd (place (ap (λ x. x.place) nothing))) (λ p of back. back (told-there ps four p r of place)) told

  said-always : length ps ≡ place_count → Told ps c r w → (c ≡ nobody → ⊥) → Numbered r → Says ps c w
  said-always four told some number =
      by-partner (λ none nothing. absurd (some none)) (λ p of back. back (told-always ps four p r of number)) told

  said-else : Told ps c r w → (Numbered r → ⊥) → w ≡ nowhere
  said-else told other =
      by-partner (λ none nothing. nothing) (λ p of back. told-else ps p r of (λ is. other (inl is)) (λ is. other (inr is))) told

module _ (s : State) where
  -- the step on values, from any state of four places
  module _ (four : length s.places ≡ place_count) (e : Event) where
    -- where the place is not 4, the state has the partner there, in that phase
    -- promise
    pub step-stands : ((step s e).standing.place ≡ place_count → ⊥) → Says s.places (concern s.last e) (step s e).standing
    step-stands = said-there s.places (concern s.last e) (step s e).code (step s e).standing four (step-told s e)

    -- "Refusals 5 and 7 then carry place and phase": a refused order, call or partner's event always says them
    -- promise
    pub step-says :
        (concern s.last e ≡ nobody → ⊥)
        → Numbered (step s e).code
        → Says s.places (concern s.last e) (step s e).standing
    step-says = said-always s.places (concern s.last e) (step s e).code (step s e).standing four (step-told s e)

  module _ (e : Event) where
    -- "and every other answer, carries place 4 and phase 0"
    -- promise
    pub step-silent : (Numbered (step s e).code → ⊥) → (step s e).standing ≡ nowhere
    step-silent = said-else s.places (concern s.last e) (step s e).code (step s e).standing (step-told s e)

    -- "7 for a hole": an event that concerns nobody
    -- promise
    pub step-nobody : concern s.last e ≡ nobody → (step s e).standing ≡ nowhere
    step-nobody none = subst (λ c. Told s.places c (step s e).code (step s e).standing) none (step-told s e)

  -- the step on a record, from any state at all
  module _ (bytes : List ℕ) (room : ℕ) where
    by-step : (P : ℕ → Standing → Type 0)
        → ((r : ℕ) → (Numbered r → ⊥) → P r nowhere)
        → ((r : ℕ) (w : Standing)
        → length s.places ≡ place_count
        → Told s.places (concern_of s.last (reading bytes)) r w
        → P r w)
        → P (on_record s bytes room).code (on_record s bytes room).standing
    by-step P refusals steps =
        by-reading s (λ o. P o.code o.standing) bytes room
        (refusals refusal.no_room (⊎_elim (λ h. omega arith) (λ h. omega arith)))
        (refusals refusal.not_sound (⊎_elim (λ h. omega arith) (λ h. omega arith)))
        (λ r is low high. refusals r (⊎_elim (λ h. omega arith) (λ h. omega arith)))
        (λ e is good ok.
        steps (step s e).code (step s e).standing (sound-facts s good).four
        (subst (λ x. Told s.places (concern_of s.last x) (step s e).code (step s e).standing) (sym is) (step-told s e)))

    -- promise
    pub on_record-stands :
        ((on_record s bytes room).standing.place ≡ place_count → ⊥)
        → Says s.places (concern_of s.last (reading bytes)) (on_record s bytes room).standing
    on_record-stands =
        let c = concern_of s.last (reading bytes) in
        by-step (λ r w. (w.place ≡ place_count → ⊥) → Says s.places c w)
        (λ r other place. absurd (place refl))
        (λ r w. said-there s.places c r w)

    -- promise
    pub on_record-says :
        (concern_of s.last (reading bytes) ≡ nobody → ⊥)
        → Numbered (on_record s bytes room).code
        → Says s.places (concern_of s.last (reading bytes)) (on_record s bytes room).standing
    on_record-says some =
        let c = concern_of s.last (reading bytes) in
        by-step (λ r w. Numbered r → Says s.places c w)
        (λ r other number. absurd (other number))
        (λ r w four told. said-always s.places c r w four told some)

    -- promise
    pub on_record-silent : (Numbered (on_record s bytes room).code → ⊥) → (on_record s bytes room).standing ≡ nowhere
    on_record-silent =
        said-else s.places (concern_of s.last (reading bytes)) (on_record s bytes room).code (on_record s bytes room).standing
        (on_record-told s bytes room)

    -- promise
    pub on_record-nobody : concern_of s.last (reading bytes) ≡ nobody → (on_record s bytes room).standing ≡ nowhere
    on_record-nobody none =
        subst (λ c. Told s.places c (on_record s bytes room).code (on_record s bytes room).standing) none (on_record-told s bytes room)

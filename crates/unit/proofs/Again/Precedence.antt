-- Cross-checks only: rules told a second time.
-- "The first that applies": the order of a step's refusals. Each has its number where its own test fails and every test before it passes.
-- Proves: on_record-ten, on_record-empty, on_record-unknown, on_record-length, on_record-range, on_record-meant, order-four, order-fifteen,
-- order-five, order-eight, order-taken, call-nine, call-five, call-eight, call-taken, named-six, named-seven, named-taken, hole-seven,
-- hole-taken, others-taken.
use mathlib.Core.Path.{◌≡◌, refl}
use mathlib.Core.Bool.{Bool, true, false, cond, not}
use mathlib.Core.List.{List, [], ◌∷◌}
use Prim.Native.Nat.{ℕ, ◌≤◌, ◌<◌}
use lib.Dec.{eqb}
use lib.ListN.{length, get_or}
use borrow.Author.Tests.{le-leb, lt-leb, eq-eqb, ne_eqb}
use Rattle.record.specs.Partners.{is_rbc, reserved}
use Rattle.record.specs.Records.{known, length_of, reading, mission_ended}
use Rattle.record.specs.Records.{row_of}
use Rattle.record.specs.declared.partner.Partner.{Partner}
use Rattle.record.specs.declared.event.Cause.{Cause}
use Rattle.record.specs.declared.event.PartnerEvent.{PartnerEvent}
use Rattle.record.specs.declared.event.Event.TheVariants.{Level, Mission, Mode, Hole, Order, EndAll, Call, Named}
use Rattle.place.specs.Places.{vacant, is_free, held_phase, holds}
use Rattle.place.specs.Table.{turn, takes}
use Rattle.place.specs.declared.turn.Closing.TheVariants.{Every}
use Rattle.unit.specs.Lasts.{meant}
use Rattle.unit.specs.States.{sound, some, first, seek}
use Rattle.unit.specs.Steps.{done, in_force, close_places, with_mission, step}
use Rattle.unit.specs.OnRecords.{action_room, on_record}
use Rattle.unit.specs.declared.state.State.{State}

-- "Step: 10 .."
-- promise
pub on_record-ten : (s : State) (bytes : List ℕ) (room : ℕ) → room < 20 → (on_record s bytes room).code ≡ 10
unfolding on_record
on_record-ten s bytes room small = simp (lt-leb action_room room small)

-- ".. 11, then 1 (empty), 2, 1 (length), 3; then .."; 11 is `on_record-eleven`
module _ (s : State) (ok : sound s ≡ true) (room : ℕ) (enough : 20 ≤ room) where
  -- promise
  pub on_record-empty : (on_record s [] room).code ≡ 1
  unfolding on_record reading
  on_record-empty = simp (le-leb action_room room enough, ok)

  -- promise
  pub on_record-unknown : (kind : ℕ) (body : List ℕ) → known kind ≡ false → (on_record s (kind ∷ body) room).code ≡ 2
  unfolding on_record reading
  on_record-unknown kind body other = simp (le-leb action_room room enough, ok, other)

  module _ (kind : ℕ) (body : List ℕ) (is_Known : known kind ≡ true) where
    -- promise
    pub on_record-length : (length (kind ∷ body) ≡ length_of kind → ⊥) → (on_record s (kind ∷ body) room).code ≡ 1
    unfolding on_record reading
    on_record-length other =
        simp (le-leb action_room room enough, ok, is_Known, ne_eqb (length (kind ∷ body)) (length_of kind) other)

    module _ (long : length (kind ∷ body) ≡ length_of kind) where
      -- promise
      pub on_record-range : (row_of kind).ranges (kind ∷ body) ≡ false → (on_record s (kind ∷ body) room).code ≡ 3
      unfolding on_record reading
      on_record-range other =
          simp (le-leb action_room room enough, ok, is_Known, eq-eqb (length (kind ∷ body)) (length_of kind) long, other)

      -- promise
      pub on_record-meant : (row_of kind).ranges (kind ∷ body) ≡ true
          → on_record s (kind ∷ body) room ≡ step s ((row_of kind).means (kind ∷ body))
      unfolding on_record reading
      on_record-meant within =
          simp (le-leb action_room room enough, ok, is_Known, eq-eqb (length (kind ∷ body)) (length_of kind) long, within)

-- "for an order 4, 5, 8"; Q-2: 15 "after 4 and before 5"; of the partner that is meant
module _ (s : State) (p : Partner) (accepting : Bool) (cause : Cause) where
  -- promise
  pub order-four : in_force cause s.train s.marks ≡ false → (step s (Order p accepting cause)).code ≡ 4
  unfolding step
  order-four other = simp other

  module _ (in-force : in_force cause s.train s.marks ≡ true) where
    -- promise
    pub order-fifteen : reserved (meant s.last p) ≡ true → (step s (Order p accepting cause)).code ≡ 15
    unfolding step
    order-fifteen unknown = simp (in-force, unknown)

    module _ (is_Known : reserved (meant s.last p) ≡ false) where
      -- promise
      pub order-five : some (holds (meant s.last p)) s.places ≡ true → (step s (Order p accepting cause)).code ≡ 5
      unfolding step seek
      order-five held = simp (in-force, is_Known, held)

      module _ (absent : some (holds (meant s.last p)) s.places ≡ false) where
        -- promise
        pub order-eight : some is_free s.places ≡ false → (step s (Order p accepting cause)).code ≡ 8
        unfolding step seek
        order-eight full = simp (in-force, is_Known, absent, full)

        -- promise
        pub order-taken : some is_free s.places ≡ true → (step s (Order p accepting cause)).code ≡ 0
        unfolding step seek
        order-taken free = simp (in-force, is_Known, absent, free)

-- "for 38 9, 5, 8"
module _ (s : State) (p : Partner) where
  -- promise
  pub call-nine : is_rbc p ≡ false → (step s (Call p)).code ≡ 9
  unfolding step
  call-nine riu = simp riu

  module _ (rbc : is_rbc p ≡ true) where
    -- promise
    pub call-five : some (holds p) s.places ≡ true → (step s (Call p)).code ≡ 5
    unfolding step seek
    call-five held = simp (rbc, held)

    module _ (absent : some (holds p) s.places ≡ false) where
      -- promise
      pub call-eight : some is_free s.places ≡ false → (step s (Call p)).code ≡ 8
      unfolding step seek
      call-eight full = simp (rbc, absent, full)

      -- promise
      pub call-taken : some is_free s.places ≡ true → (step s (Call p)).code ≡ 0
      unfolding step seek
      call-taken free = simp (rbc, absent, free)

-- "for other partner events 6, 7"
module _ (s : State) (p : Partner) (e : PartnerEvent) where
  -- promise
  pub named-six : some (holds p) s.places ≡ false → (step s (Named p e)).code ≡ 6
  unfolding step
  named-six absent = simp absent

  module _ (held : some (holds p) s.places ≡ true) where
    -- promise
    pub named-seven : takes (turn s.limits (held_phase (get_or s.places (first (holds p) s.places) vacant)) e) ≡ false
        → (step s (Named p e)).code ≡ 7
    unfolding step seek
    named-seven other = simp (held, other)

    -- promise
    pub named-taken : takes (turn s.limits (held_phase (get_or s.places (first (holds p) s.places) vacant)) e) ≡ true
        → (step s (Named p e)).code ≡ 0
    unfolding step seek
    named-taken taken = simp (held, taken)

-- "Hole entered: taken only outside a hole"; "Hole left: taken only inside"; a level, a mission, a mode change and an end all are taken
module _ (s : State) where
  -- promise
  pub hole-seven : (entered : Bool) → s.marks.inside ≡ entered → (step s (Hole entered)).code ≡ 7
  unfolding step
  hole-seven true inside = simp inside
  hole-seven false outside = simp outside

  -- promise
  pub hole-taken : (entered : Bool) → s.marks.inside ≡ not entered → (step s (Hole entered)).code ≡ 0
  unfolding step
  hole-taken true outside = simp outside
  hole-taken false inside = simp inside

  -- promise
  pub others-taken : (level mission : ℕ) (manual : Bool)
      → ((step s (Level level manual)).code ≡ 0)
      × ((step s (Mission mission)).code ≡ 0)
      × ((step s Mode).code ≡ 0)
      × ((step s EndAll).code ≡ 0)
  unfolding step
  others-taken level mission manual = (refl, by (eqb mission mission_ended), refl, refl)
    where
      by : (b : Bool) → (cond b (close_places Every (with_mission s mission)) (done (with_mission s mission) [])).code ≡ 0
      by true = refl
      by false = refl

-- Cross-checks only: rules told a second time.
-- What a level, a mission, a mode change and a hole leave in the state.
-- Proves: level-stored, level-manual, mission-stored, mission-places, mode-marked, hole-entered, hole-left.
use mathlib.Core.Path.{◌≡◌, refl, ap}
use mathlib.Core.Bool.{Bool, true, false, cond, ◌||◌}
use mathlib.Core.List.{[]}
use Prim.Native.Nat.{ℕ}
use lib.Dec.{eqb}
use borrow.Author.Tests.{ne_eqb}
use Rattle.record.specs.Records.{mission_ended}
use Rattle.record.specs.declared.event.Event.TheVariants.{Level, Mission, Mode, Hole}
use Rattle.place.specs.declared.turn.Closing.TheVariants.{Every}
use Rattle.unit.specs.Steps.{Outcome, done, with_mission, close_places, step}
use Rattle.unit.specs.declared.state.Marks.{Marks}
use Rattle.unit.specs.declared.state.State.{State}

-- these marks, but for the manual level's
abbrev manual_is : Marks → Bool → Marks
manual_is m manual = record { inside = m.inside; mode = m.mode; manual = manual; end = m.end }

-- what a mission gives, by whether it is the end
abbrev mission_by : State → ℕ → Bool → Outcome
mission_by s mission ends = cond ends (close_places Every (with_mission s mission)) (done (with_mission s mission) [])

or-true : (b : Bool) → (b || true) ≡ true
or-true true = refl
or-true false = refl

or-false : (b : Bool) → (b || false) ≡ b
or-false true = refl
or-false false = refl

module _ (s : State) where
  -- "Level: stored", and nothing else but its mark
  -- promise
  pub level-stored : (level : ℕ) (manual : Bool)
      → ((step s (Level level manual)).state.train ≡ record { level = level; mission = s.train.mission })
      × ((step s (Level level manual)).state.places ≡ s.places)
      × ((step s (Level level manual)).state.last ≡ s.last)
      × ((step s (Level level manual)).actions ≡ [])
  unfolding step
  level-stored level manual = (refl, refl, refl, refl)

  -- "manual 1 sets its mark, manual 0 leaves it"
  -- promise
  pub level-manual : (level : ℕ)
      → ((step s (Level level true)).state.marks
      ≡ record { inside = s.marks.inside; mode = s.marks.mode; manual = true; end = s.marks.end })
      × ((step s (Level level false)).state.marks ≡ s.marks)
  unfolding step
  level-manual level = (ap (manual_is s.marks) (or-true s.marks.manual), ap (manual_is s.marks) (or-false s.marks.manual))

  -- "Mission: stored"
  -- promise
  pub mission-stored : (mission : ℕ)
      → ((step s (Mission mission)).state.train ≡ record { level = s.train.level; mission = mission })
      × ((step s (Mission mission)).state.marks ≡ s.marks)
  unfolding step
  mission-stored mission = (train (eqb mission mission_ended), marks (eqb mission mission_ended))
    where
      train : (b : Bool) → (mission_by s mission b).state.train ≡ record { level = s.train.level; mission = mission }
      train true = refl
      train false = refl

      marks : (b : Bool) → (mission_by s mission b).state.marks ≡ s.marks
      marks true = refl
      marks false = refl

  -- "0 also ends all", and no other does
  -- promise
  pub mission-places : (mission : ℕ)
      → (mission ≡ 0 → ⊥)
      → ((step s (Mission mission)).state.places ≡ s.places) × ((step s (Mission mission)).actions ≡ [])
  unfolding step
  mission-places mission other = (simp (ne_eqb mission mission_ended other), simp (ne_eqb mission mission_ended other))

  -- "Mode change: sets its mark"
  -- promise
  pub mode-marked : ((step s Mode).state.marks
      ≡ record { inside = s.marks.inside; mode = true; manual = s.marks.manual; end = s.marks.end })
      × ((step s Mode).state.train ≡ s.train)
      × ((step s Mode).state.places ≡ s.places)
      × ((step s Mode).actions ≡ [])
  unfolding step
  mode-marked = (refl, refl, refl, refl)

  -- "Hole entered: .. sets inside, clears hole end"
  -- promise
  pub hole-entered : s.marks.inside ≡ false
      → ((step s (Hole true)).state.marks
      ≡ record { inside = true; mode = s.marks.mode; manual = s.marks.manual; end = false })
      × ((step s (Hole true)).state.places ≡ s.places)
      × ((step s (Hole true)).actions ≡ [])
  unfolding step
  hole-entered outside = (simp outside, simp outside, simp outside)

  -- "Hole left: .. clears inside, sets hole end"
  -- promise
  pub hole-left : s.marks.inside ≡ true
      → ((step s (Hole false)).state.marks
      ≡ record { inside = false; mode = s.marks.mode; manual = s.marks.manual; end = true })
      × ((step s (Hole false)).state.places ≡ s.places)
      × ((step s (Hole false)).actions ≡ [])
  unfolding step
  hole-left inside = (simp inside, simp inside, simp inside)

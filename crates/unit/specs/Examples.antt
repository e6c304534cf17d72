-- Examples only: nobody has to believe what stands here.
-- Document 01, "Marked examples": P1 to P10, "X 1 to 2"; and lines on the meant partner of request Q-2.
-- A line is one record's bytes, and what it gives: 0 or the refusal, the actions in their order, the whole state after it, and, of
-- request Q-6, the place and phase where it carries them.
-- Defines: Line, meant_lines, examples, got, want.
use Rattle.std.specs.Prelude.{ℕ, true, false, List, [], ◌∷◌, ◌++◌, map, length, drop, replicate}
use Rattle.record.specs.Partners.{rbc, riu}
use Rattle.record.specs.declared.partner.Partner.{Partner}
use Rattle.place.specs.Places.{fleet_tries, vacant, seat}
use Rattle.place.specs.declared.phase.Phase.{Phase}
use Rattle.place.specs.declared.phase.Phase.TheVariants.{Connecting, Contacting, Open, Lost, Ending}
use Rattle.place.specs.declared.place.Direction.TheVariants.{Outgoing, Incoming}
use Rattle.place.specs.declared.place.Place.{Place}
use Rattle.place.specs.declared.limits.Limits.{Limits}
use Rattle.unit.specs.States.{cold_start, one_to_two, no_marks, place_count, nowhere}
use Rattle.unit.specs.Steps.{Outcome, refused_at, done, act}
use Rattle.unit.specs.OnRecords.{trace}
use Rattle.unit.specs.declared.last.Last.TheVariants.{Unknown, Known}
use Rattle.unit.specs.declared.state.Marks.{Marks}
use Rattle.unit.specs.declared.state.State.{State}
use Rattle.unit.specs.declared.answer.Action.{Action}

-- the partners "RBC k" and "RIU k"
abbrev rbc_no : ℕ → Partner
rbc_no k = record { kind = rbc; high = 0; middle = 0; low = k }

abbrev riu_no : ℕ → Partner
riu_no k = record { kind = riu; high = 0; middle = 0; low = k }

-- the RIU whose number has the low 14 bits 16,383
abbrev riu_last : Partner
riu_last = record { kind = riu; high = 0; middle = 63; low = 255 }

-- the RBC with the number below the reserved one
abbrev rbc_near : Partner
rbc_near = record { kind = rbc; high = 0; middle = 63; low = 254 }

-- a place with an outgoing connection, and one with an incoming
abbrev out : Phase → Partner → Place
out ph p = seat Outgoing ph p

abbrev inc : Phase → Partner → Place
inc ph p = seat Incoming ph p

-- "X 1 to 2", and the number of tries that "all cases of 01 relied on"
abbrev limits : Limits
limits = one_to_two fleet_tries

-- the box with its level, mission, marks and first places; the other places are free, and no RBC is known
abbrev box : ℕ → ℕ → Marks → List Place → State
box level mission marks places =
    record {
      limits = limits;
      train = record { level = level; mission = mission };
      marks = marks;
      places = places ++ drop (length places) (replicate place_count vacant);
      last = Unknown;
    }

-- the same box with "RBC k" as the last known
infix 5 ◌knowing◌
abbrev ◌knowing◌ : State → ℕ → State
◌knowing◌ s k = record { limits = s.limits; train = s.train; marks = s.marks; places = s.places; last = Known 0 0 k }

-- level 0, mission ended, no mark
abbrev idle : List Place → State
idle places = box 0 0 no_marks places

-- the marks of P9: inside a hole; hole end
abbrev in_hole : Marks
in_hole = record { inside = true; mode = false; manual = false; end = false }

abbrev hole_end : Marks
hole_end = record { inside = false; mode = false; manual = false; end = true }

-- an action: "number:type/partner"
infix 90 ◌to◌
abbrev ◌to◌ : ℕ → Partner → Action
◌to◌ number p = act p number

pub record Line : Type 0 where
  pub bytes : List ℕ
  pub gives : Outcome

-- accepted: the actions sent, and the state after it
infix 4 ◌sends◌leaves◌
abbrev ◌sends◌leaves◌ : List ℕ → List Action → State → Line
◌sends◌leaves◌ bytes actions state = record { bytes = bytes; gives = done state actions }

-- refused, with place 4 and phase 0; refused, with the place and the phase of the partner
infix 4 ◌gives◌leaves◌
abbrev ◌gives◌leaves◌ : List ℕ → ℕ → State → Line
◌gives◌leaves◌ bytes code state = record { bytes = bytes; gives = refused_at code nowhere state }

infix 4 ◌says◌at◌phase◌leaves◌
abbrev ◌says◌at◌phase◌leaves◌ : List ℕ → ℕ → ℕ → ℕ → State → Line
◌says◌at◌phase◌leaves◌ bytes code i k state
    = record { bytes = bytes; gives = refused_at code (record { place = i; phase = k }) state }

-- "P1 the five records above, states included."
p1 : List Line
p1 =
    ((5 ∷ 0 ∷ 0 ∷ 0 ∷ 5 ∷ 1 ∷ 1 ∷ []) sends (21 to rbc_no 5 ∷ []) leaves idle (out (Connecting 1) (rbc_no 5) ∷ []))
    ∷ ((8 ∷ 0 ∷ 0 ∷ 0 ∷ 5 ∷ []) sends (155 to rbc_no 5 ∷ []) leaves idle (out (Contacting 1) (rbc_no 5) ∷ []))
    ∷ ((11 ∷ 0 ∷ 0 ∷ 0 ∷ 5 ∷ 32 ∷ 17 ∷ []) sends (159 to rbc_no 5 ∷ []) leaves idle
    (out Open (rbc_no 5) ∷ []) knowing 5)
    ∷ ((6 ∷ 0 ∷ 0 ∷ 0 ∷ 5 ∷ []) sends (156 to rbc_no 5 ∷ []) leaves idle (out (Ending 1) (rbc_no 5) ∷ []) knowing 5)
    ∷ ((11 ∷ 0 ∷ 0 ∷ 0 ∷ 5 ∷ 39 ∷ 0 ∷ []) sends (22 to rbc_no 5 ∷ []) leaves idle [] knowing 5)
    ∷ []

-- "P2 order, cause 1, then three timeouts: 21, 21, 21, 22; free."
p2 : List Line
p2 =
    ((5 ∷ 0 ∷ 0 ∷ 0 ∷ 5 ∷ 1 ∷ 1 ∷ []) sends (21 to rbc_no 5 ∷ []) leaves idle (out (Connecting 1) (rbc_no 5) ∷ []))
    ∷ ((10 ∷ 0 ∷ 0 ∷ 0 ∷ 5 ∷ []) sends (21 to rbc_no 5 ∷ []) leaves idle (out (Connecting 2) (rbc_no 5) ∷ []))
    ∷ ((10 ∷ 0 ∷ 0 ∷ 0 ∷ 5 ∷ []) sends (21 to rbc_no 5 ∷ []) leaves idle (out (Connecting 3) (rbc_no 5) ∷ []))
    ∷ ((10 ∷ 0 ∷ 0 ∷ 0 ∷ 5 ∷ []) sends (22 to rbc_no 5 ∷ []) leaves idle [])
    ∷ []

-- "P3 message 32, version 48, in Contacting: 154, 156, Ending 1."
p3 : List Line
p3 =
    ((5 ∷ 0 ∷ 0 ∷ 0 ∷ 5 ∷ 1 ∷ 1 ∷ []) sends (21 to rbc_no 5 ∷ []) leaves idle (out (Connecting 1) (rbc_no 5) ∷ []))
    ∷ ((8 ∷ 0 ∷ 0 ∷ 0 ∷ 5 ∷ []) sends (155 to rbc_no 5 ∷ []) leaves idle (out (Contacting 1) (rbc_no 5) ∷ []))
    ∷ ((11 ∷ 0 ∷ 0 ∷ 0 ∷ 5 ∷ 32 ∷ 48 ∷ []) sends (154 to rbc_no 5 ∷ 156 to rbc_no 5 ∷ [])
    leaves idle (out (Ending 1) (rbc_no 5) ∷ []))
    ∷ []

-- "P4 version 47 there: 159, Open. Version 128: refusal 3."
p4 : List Line
p4 =
    ((5 ∷ 0 ∷ 0 ∷ 0 ∷ 5 ∷ 1 ∷ 1 ∷ []) sends (21 to rbc_no 5 ∷ []) leaves idle (out (Connecting 1) (rbc_no 5) ∷ []))
    ∷ ((8 ∷ 0 ∷ 0 ∷ 0 ∷ 5 ∷ []) sends (155 to rbc_no 5 ∷ []) leaves idle (out (Contacting 1) (rbc_no 5) ∷ []))
    ∷ ((11 ∷ 0 ∷ 0 ∷ 0 ∷ 5 ∷ 32 ∷ 128 ∷ []) gives 3 leaves idle (out (Contacting 1) (rbc_no 5) ∷ []))
    ∷ ((11 ∷ 0 ∷ 0 ∷ 0 ∷ 5 ∷ 32 ∷ 47 ∷ []) sends (159 to rbc_no 5 ∷ []) leaves idle
    (out Open (rbc_no 5) ∷ []) knowing 5)
    ∷ []

-- the four calls of P5 taken
abbrev four_called : State
four_called = idle (inc Open (rbc_no 1) ∷ inc Open (rbc_no 2) ∷ inc Open (rbc_no 3) ∷ inc Open (rbc_no 4) ∷ []) knowing 4

-- "P5 four calls 38 from RBC 1 to 4; RBC 5 gets 8, RBC 1 gets 5."
p5 : List Line
p5 =
    ((11 ∷ 0 ∷ 0 ∷ 0 ∷ 1 ∷ 38 ∷ 0 ∷ []) sends (159 to rbc_no 1 ∷ []) leaves idle (inc Open (rbc_no 1) ∷ []) knowing 1)
    ∷ ((11 ∷ 0 ∷ 0 ∷ 0 ∷ 2 ∷ 38 ∷ 0 ∷ []) sends (159 to rbc_no 2 ∷ [])
    leaves idle (inc Open (rbc_no 1) ∷ inc Open (rbc_no 2) ∷ []) knowing 2)
    ∷ ((11 ∷ 0 ∷ 0 ∷ 0 ∷ 3 ∷ 38 ∷ 0 ∷ []) sends (159 to rbc_no 3 ∷ [])
    leaves idle (inc Open (rbc_no 1) ∷ inc Open (rbc_no 2) ∷ inc Open (rbc_no 3) ∷ []) knowing 3)
    ∷ ((11 ∷ 0 ∷ 0 ∷ 0 ∷ 4 ∷ 38 ∷ 0 ∷ []) sends (159 to rbc_no 4 ∷ []) leaves four_called)
    ∷ ((11 ∷ 0 ∷ 0 ∷ 0 ∷ 5 ∷ 38 ∷ 0 ∷ []) gives 8 leaves four_called)
    ∷ ((11 ∷ 0 ∷ 0 ∷ 0 ∷ 1 ∷ 38 ∷ 0 ∷ []) says 5 at 0 phase 3 leaves four_called)
    ∷ []

-- "P6 then 38 from RIU 1: 9."
p6 : List Line
p6 = p5 ++ (((11 ∷ 1 ∷ 0 ∷ 0 ∷ 1 ∷ 38 ∷ 0 ∷ []) gives 9 leaves four_called) ∷ [])

-- "P7 RBC 1 Open in place 0, RIU 2 Open in place 1; order RBC 3, accepting 0, cause 1: 156:0/1, then 21:0/3."
p7 : List Line
p7 =
    ((11 ∷ 0 ∷ 0 ∷ 0 ∷ 1 ∷ 38 ∷ 0 ∷ []) sends (159 to rbc_no 1 ∷ []) leaves idle (inc Open (rbc_no 1) ∷ []) knowing 1)
    ∷ ((5 ∷ 1 ∷ 0 ∷ 0 ∷ 2 ∷ 1 ∷ 1 ∷ []) sends (21 to riu_no 2 ∷ [])
    leaves idle (inc Open (rbc_no 1) ∷ out (Connecting 1) (riu_no 2) ∷ []) knowing 1)
    ∷ ((8 ∷ 1 ∷ 0 ∷ 0 ∷ 2 ∷ []) sends (155 to riu_no 2 ∷ [])
    leaves idle (inc Open (rbc_no 1) ∷ out (Contacting 1) (riu_no 2) ∷ []) knowing 1)
    ∷ ((11 ∷ 1 ∷ 0 ∷ 0 ∷ 2 ∷ 32 ∷ 17 ∷ []) sends (159 to riu_no 2 ∷ [])
    leaves idle (inc Open (rbc_no 1) ∷ out Open (riu_no 2) ∷ []) knowing 1)
    ∷ ((5 ∷ 0 ∷ 0 ∷ 0 ∷ 3 ∷ 0 ∷ 1 ∷ []) sends (156 to rbc_no 1 ∷ 21 to rbc_no 3 ∷ [])
    leaves idle (inc (Ending 1) (rbc_no 1) ∷ out Open (riu_no 2) ∷ out (Connecting 1) (rbc_no 3) ∷ []) knowing 1)
    ∷ []

-- "P8 mission 1, cause 0: level 1 gives 4, level 2 gives 21."
p8 : List Line
p8 =
    ((2 ∷ 1 ∷ []) sends [] leaves box 0 1 no_marks [])
    ∷ ((1 ∷ 1 ∷ 0 ∷ []) sends [] leaves box 1 1 no_marks [])
    ∷ ((5 ∷ 0 ∷ 0 ∷ 0 ∷ 5 ∷ 1 ∷ 0 ∷ []) gives 4 leaves box 1 1 no_marks [])
    ∷ ((1 ∷ 2 ∷ 0 ∷ []) sends [] leaves box 2 1 no_marks [])
    ∷ ((5 ∷ 0 ∷ 0 ∷ 0 ∷ 5 ∷ 1 ∷ 0 ∷ []) sends (21 to rbc_no 5 ∷ [])
    leaves box 2 1 no_marks (out (Connecting 1) (rbc_no 5) ∷ []))
    ∷ []

-- "P9 cold start, hole left: 7. Entered, left, order cause 4: 21; a second order cause 4 to another partner: 4."
p9 : List Line
p9 =
    ((4 ∷ 0 ∷ []) gives 7 leaves idle [])
    ∷ ((4 ∷ 1 ∷ []) sends [] leaves box 0 0 in_hole [])
    ∷ ((4 ∷ 0 ∷ []) sends [] leaves box 0 0 hole_end [])
    ∷ ((5 ∷ 0 ∷ 0 ∷ 0 ∷ 5 ∷ 1 ∷ 4 ∷ []) sends (21 to rbc_no 5 ∷ []) leaves idle (out (Connecting 1) (rbc_no 5) ∷ []))
    ∷ ((5 ∷ 0 ∷ 0 ∷ 0 ∷ 6 ∷ 1 ∷ 4 ∷ []) gives 4 leaves idle (out (Connecting 1) (rbc_no 5) ∷ []))
    ∷ []

-- "P10 order cause 1, two timeouts, up, two timeouts, 32 with version 17, drop, two timeouts, 39: eleven actions."
p10 : List Line
p10 =
    ((5 ∷ 0 ∷ 0 ∷ 0 ∷ 5 ∷ 1 ∷ 1 ∷ []) sends (21 to rbc_no 5 ∷ []) leaves idle (out (Connecting 1) (rbc_no 5) ∷ []))
    ∷ ((10 ∷ 0 ∷ 0 ∷ 0 ∷ 5 ∷ []) sends (21 to rbc_no 5 ∷ []) leaves idle (out (Connecting 2) (rbc_no 5) ∷ []))
    ∷ ((10 ∷ 0 ∷ 0 ∷ 0 ∷ 5 ∷ []) sends (21 to rbc_no 5 ∷ []) leaves idle (out (Connecting 3) (rbc_no 5) ∷ []))
    ∷ ((8 ∷ 0 ∷ 0 ∷ 0 ∷ 5 ∷ []) sends (155 to rbc_no 5 ∷ []) leaves idle (out (Contacting 1) (rbc_no 5) ∷ []))
    ∷ ((10 ∷ 0 ∷ 0 ∷ 0 ∷ 5 ∷ []) sends (155 to rbc_no 5 ∷ []) leaves idle (out (Contacting 2) (rbc_no 5) ∷ []))
    ∷ ((10 ∷ 0 ∷ 0 ∷ 0 ∷ 5 ∷ []) sends (155 to rbc_no 5 ∷ []) leaves idle (out (Contacting 3) (rbc_no 5) ∷ []))
    ∷ ((11 ∷ 0 ∷ 0 ∷ 0 ∷ 5 ∷ 32 ∷ 17 ∷ []) sends (159 to rbc_no 5 ∷ []) leaves idle
    (out Open (rbc_no 5) ∷ []) knowing 5)
    ∷ ((6 ∷ 0 ∷ 0 ∷ 0 ∷ 5 ∷ []) sends (156 to rbc_no 5 ∷ []) leaves idle (out (Ending 1) (rbc_no 5) ∷ []) knowing 5)
    ∷ ((10 ∷ 0 ∷ 0 ∷ 0 ∷ 5 ∷ []) sends (156 to rbc_no 5 ∷ []) leaves idle (out (Ending 2) (rbc_no 5) ∷ []) knowing 5)
    ∷ ((10 ∷ 0 ∷ 0 ∷ 0 ∷ 5 ∷ []) sends (156 to rbc_no 5 ∷ []) leaves idle (out (Ending 3) (rbc_no 5) ∷ []) knowing 5)
    ∷ ((11 ∷ 0 ∷ 0 ∷ 0 ∷ 5 ∷ 39 ∷ 0 ∷ []) sends (22 to rbc_no 5 ∷ []) leaves idle [] knowing 5)
    ∷ []

-- Q-2: none known: 15, but 4 before it, and 3 before that. After a call of RBC 1 and its end, an order to RBC 16,383 means RBC 1: taken in
-- (here with upper bits set), and then refused with 5. Another event that names it: 3. An RIU with that number is any RIU, and RBC 16,382
-- is any RBC.
known_then : List Line
known_then =
    ((5 ∷ 0 ∷ 0 ∷ 63 ∷ 255 ∷ 1 ∷ 1 ∷ []) gives 15 leaves idle [])
    ∷ ((5 ∷ 0 ∷ 0 ∷ 63 ∷ 255 ∷ 1 ∷ 4 ∷ []) gives 4 leaves idle [])
    ∷ ((5 ∷ 0 ∷ 0 ∷ 63 ∷ 255 ∷ 1 ∷ 5 ∷ []) gives 3 leaves idle [])
    ∷ ((11 ∷ 0 ∷ 0 ∷ 0 ∷ 1 ∷ 38 ∷ 0 ∷ []) sends (159 to rbc_no 1 ∷ []) leaves idle (inc Open (rbc_no 1) ∷ []) knowing 1)
    ∷ ((9 ∷ 0 ∷ 0 ∷ 0 ∷ 1 ∷ []) sends (21 to rbc_no 1 ∷ []) leaves idle (inc (Lost 1) (rbc_no 1) ∷ []) knowing 1)
    ∷ ((6 ∷ 0 ∷ 0 ∷ 0 ∷ 1 ∷ []) sends (22 to rbc_no 1 ∷ []) leaves idle [] knowing 1)
    ∷ ((5 ∷ 0 ∷ 255 ∷ 127 ∷ 255 ∷ 1 ∷ 1 ∷ []) sends (21 to rbc_no 1 ∷ [])
    leaves idle (out (Connecting 1) (rbc_no 1) ∷ []) knowing 1)
    ∷ ((5 ∷ 0 ∷ 0 ∷ 63 ∷ 255 ∷ 1 ∷ 1 ∷ []) says 5 at 0 phase 1 leaves idle (out (Connecting 1) (rbc_no 1) ∷ []) knowing 1)
    ∷ ((8 ∷ 0 ∷ 0 ∷ 127 ∷ 255 ∷ []) gives 3 leaves idle (out (Connecting 1) (rbc_no 1) ∷ []) knowing 1)
    ∷ ((5 ∷ 1 ∷ 0 ∷ 63 ∷ 255 ∷ 1 ∷ 1 ∷ []) sends (21 to riu_last ∷ [])
    leaves idle (out (Connecting 1) (rbc_no 1) ∷ out (Connecting 1) riu_last ∷ []) knowing 1)
    ∷ ((5 ∷ 0 ∷ 0 ∷ 63 ∷ 254 ∷ 1 ∷ 1 ∷ []) sends (21 to rbc_near ∷ [])
    leaves idle (out (Connecting 1) (rbc_no 1) ∷ out (Connecting 1) riu_last ∷ out (Connecting 1) rbc_near ∷ []) knowing 1)
    ∷ []

-- the four places taken by orders
abbrev four_ordered : State
four_ordered =
    idle (out (Connecting 1) (rbc_no 1) ∷ out (Connecting 1) (rbc_no 2) ∷ out (Connecting 1) (rbc_no 3)
    ∷ out (Connecting 1) (rbc_no 4) ∷ [])

-- 15 comes before 8: all places taken, and none known
full_then : List Line
full_then =
    ((5 ∷ 0 ∷ 0 ∷ 0 ∷ 1 ∷ 1 ∷ 1 ∷ []) sends (21 to rbc_no 1 ∷ []) leaves idle (out (Connecting 1) (rbc_no 1) ∷ []))
    ∷ ((5 ∷ 0 ∷ 0 ∷ 0 ∷ 2 ∷ 1 ∷ 1 ∷ []) sends (21 to rbc_no 2 ∷ [])
    leaves idle (out (Connecting 1) (rbc_no 1) ∷ out (Connecting 1) (rbc_no 2) ∷ []))
    ∷ ((5 ∷ 0 ∷ 0 ∷ 0 ∷ 3 ∷ 1 ∷ 1 ∷ []) sends (21 to rbc_no 3 ∷ [])
    leaves idle (out (Connecting 1) (rbc_no 1) ∷ out (Connecting 1) (rbc_no 2) ∷ out (Connecting 1) (rbc_no 3) ∷ []))
    ∷ ((5 ∷ 0 ∷ 0 ∷ 0 ∷ 4 ∷ 1 ∷ 1 ∷ []) sends (21 to rbc_no 4 ∷ []) leaves four_ordered)
    ∷ ((5 ∷ 0 ∷ 0 ∷ 63 ∷ 255 ∷ 1 ∷ 1 ∷ []) gives 15 leaves four_ordered)
    ∷ []

-- both
unfoldable pub meant_lines : List (List Line)
unfolding known_then full_then
meant_lines = known_then ∷ full_then ∷ []

-- P1 to P10
unfoldable pub examples : List (List Line)
unfolding p1 p2 p3 p4 p5 p6 p7 p8 p9 p10
examples = p1 ∷ p2 ∷ p3 ∷ p4 ∷ p5 ∷ p6 ∷ p7 ∷ p8 ∷ p9 ∷ p10 ∷ []

-- what the defined step on records makes of an example's bytes, from a cold start with X 1 to 2 and three tries
unfoldable pub got : List Line → List Outcome
got lines = trace (cold_start limits).state (map (λ l. l.bytes) lines)

-- what the documents say
unfoldable pub want : List Line → List Outcome
want lines = map (λ l. l.gives) lines

-- Examples only: nobody has to believe what stands here.
-- Rows in which RBC 5 and RIU 7 wait and time out, with every kind of record for others and for
-- nobody before each of their timeouts.
-- Defines: riu7, timeout7, both_connecting, both_contacting, both_lost, both_ending, open7, of_nobody, of_others, displacing, endings,
-- unreadable, among_all, among_orders, among_others, rounds, before_last5, to_last5, before_last7, to_last7, HeldUntil, BothHeld, Freed.
use Rattle.std.specs.Prelude.{ℕ, ◌-◌, ◌≡◌, true, false, List, [], ◌∷◌, ◌++◌, get_or}
use Rattle.record.specs.Partners.{riu}
use Rattle.record.specs.declared.partner.Partner.{Partner}
use Rattle.place.specs.Places.{vacant, held_phase}
use Rattle.place.specs.declared.phase.Phase.{Phase}
use Rattle.history.specs.Histories.{after, silent, timeouts, holds_place, waits, releases_of}
use Rattle.history.specs.Reaching.{rbc5, timeout5, repeated}
use Rattle.history.specs.Sums.{started}

-- the partner "RIU 7", and its timeout
abbrev pub riu7 : Partner
riu7 = record { kind = riu; high = 0; middle = 0; low = 7 }

abbrev pub timeout7 : List ℕ
timeout7 = 10 ∷ 1 ∷ 0 ∷ 0 ∷ 7 ∷ []

-- both are ordered, by cause 1
abbrev pub both_connecting : List (List ℕ)
both_connecting = (5 ∷ 0 ∷ 0 ∷ 0 ∷ 5 ∷ 1 ∷ 1 ∷ []) ∷ (5 ∷ 1 ∷ 0 ∷ 0 ∷ 7 ∷ 1 ∷ 1 ∷ []) ∷ []

-- and the connection of each is up
abbrev pub both_contacting : List (List ℕ)
both_contacting = both_connecting ++ ((8 ∷ 0 ∷ 0 ∷ 0 ∷ 5 ∷ []) ∷ (8 ∷ 1 ∷ 0 ∷ 0 ∷ 7 ∷ []) ∷ [])

-- each sends 32 with version 17, and is lost
abbrev pub both_lost : List (List ℕ)
both_lost =
    both_contacting
    ++ ((11 ∷ 0 ∷ 0 ∷ 0 ∷ 5 ∷ 32 ∷ 17 ∷ [])
    ∷ (11 ∷ 1 ∷ 0 ∷ 0 ∷ 7 ∷ 32 ∷ 17 ∷ [])
    ∷ (9 ∷ 0 ∷ 0 ∷ 0 ∷ 5 ∷ [])
    ∷ (9 ∷ 1 ∷ 0 ∷ 0 ∷ 7 ∷ [])
    ∷ [])

-- or is dropped instead
abbrev pub both_ending : List (List ℕ)
both_ending =
    both_contacting
    ++ ((11 ∷ 0 ∷ 0 ∷ 0 ∷ 5 ∷ 32 ∷ 17 ∷ [])
    ∷ (11 ∷ 1 ∷ 0 ∷ 0 ∷ 7 ∷ 32 ∷ 17 ∷ [])
    ∷ (6 ∷ 0 ∷ 0 ∷ 0 ∷ 5 ∷ [])
    ∷ (6 ∷ 1 ∷ 0 ∷ 0 ∷ 7 ∷ [])
    ∷ [])

-- RIU 7 alone: ordered, up, and its 32
abbrev pub open7 : List (List ℕ)
open7 =
    (5 ∷ 1 ∷ 0 ∷ 0 ∷ 7 ∷ 1 ∷ 1 ∷ [])
    ∷ (8 ∷ 1 ∷ 0 ∷ 0 ∷ 7 ∷ [])
    ∷ (11 ∷ 1 ∷ 0 ∷ 0 ∷ 7 ∷ 32 ∷ 17 ∷ [])
    ∷ []

-- records for nobody: level 2 set by hand, level 3, mission 1, mission 2, mode change, a hole entered, a hole left
abbrev pub of_nobody : List (List ℕ)
of_nobody =
    (1 ∷ 2 ∷ 1 ∷ [])
    ∷ (1 ∷ 3 ∷ 0 ∷ [])
    ∷ (2 ∷ 1 ∷ [])
    ∷ (2 ∷ 2 ∷ [])
    ∷ (3 ∷ [])
    ∷ (4 ∷ 1 ∷ [])
    ∷ (4 ∷ 0 ∷ [])
    ∷ []

-- records for others that close nothing: RIU 8 is ordered by cause 4, accepting, up, timed out, dropped, ordered again, not accepting, and
-- dropped; RBC 6 calls, is lost, up, dropped and ends; the order with 16,383 means it, it is up, sends 32 and 38, is dropped and ends;
-- timeouts and drops of RBC 7 and RIU 5, which are not RIU 7 and RBC 5
abbrev pub of_others : List (List ℕ)
of_others =
    (5 ∷ 1 ∷ 0 ∷ 0 ∷ 8 ∷ 1 ∷ 4 ∷ [])
    ∷ (8 ∷ 1 ∷ 0 ∷ 0 ∷ 8 ∷ [])
    ∷ (10 ∷ 1 ∷ 0 ∷ 0 ∷ 8 ∷ [])
    ∷ (6 ∷ 1 ∷ 0 ∷ 0 ∷ 8 ∷ [])
    ∷ (5 ∷ 1 ∷ 0 ∷ 0 ∷ 8 ∷ 0 ∷ 1 ∷ [])
    ∷ (6 ∷ 1 ∷ 0 ∷ 0 ∷ 8 ∷ [])
    ∷ (11 ∷ 0 ∷ 0 ∷ 0 ∷ 6 ∷ 38 ∷ 0 ∷ [])
    ∷ (9 ∷ 0 ∷ 0 ∷ 0 ∷ 6 ∷ [])
    ∷ (8 ∷ 0 ∷ 0 ∷ 0 ∷ 6 ∷ [])
    ∷ (6 ∷ 0 ∷ 0 ∷ 0 ∷ 6 ∷ [])
    ∷ (11 ∷ 0 ∷ 0 ∷ 0 ∷ 6 ∷ 39 ∷ 0 ∷ [])
    ∷ (5 ∷ 0 ∷ 0 ∷ 63 ∷ 255 ∷ 1 ∷ 1 ∷ [])
    ∷ (8 ∷ 0 ∷ 0 ∷ 0 ∷ 6 ∷ [])
    ∷ (11 ∷ 0 ∷ 0 ∷ 0 ∷ 6 ∷ 32 ∷ 17 ∷ [])
    ∷ (11 ∷ 0 ∷ 0 ∷ 0 ∷ 6 ∷ 38 ∷ 0 ∷ [])
    ∷ (6 ∷ 0 ∷ 0 ∷ 0 ∷ 6 ∷ [])
    ∷ (11 ∷ 0 ∷ 0 ∷ 0 ∷ 6 ∷ 39 ∷ 0 ∷ [])
    ∷ (10 ∷ 0 ∷ 0 ∷ 0 ∷ 7 ∷ [])
    ∷ (6 ∷ 0 ∷ 0 ∷ 0 ∷ 7 ∷ [])
    ∷ (10 ∷ 1 ∷ 0 ∷ 0 ∷ 5 ∷ [])
    ∷ (6 ∷ 1 ∷ 0 ∷ 0 ∷ 5 ∷ [])
    ∷ []

-- RBC 6 calls and is lost, RBC 9 is ordered, not accepting, which closes RBC 6, and dropped
abbrev pub displacing : List (List ℕ)
displacing =
    (11 ∷ 0 ∷ 0 ∷ 0 ∷ 6 ∷ 38 ∷ 0 ∷ [])
    ∷ (9 ∷ 0 ∷ 0 ∷ 0 ∷ 6 ∷ [])
    ∷ (5 ∷ 0 ∷ 0 ∷ 0 ∷ 9 ∷ 0 ∷ 1 ∷ [])
    ∷ (6 ∷ 0 ∷ 0 ∷ 0 ∷ 9 ∷ [])
    ∷ []

-- RBC 6 calls, the desk is closed, RBC 6 ends; RIU 8 is ordered, the mission ends; all is ended for an error
abbrev pub endings : List (List ℕ)
endings =
    (11 ∷ 0 ∷ 0 ∷ 0 ∷ 6 ∷ 38 ∷ 0 ∷ [])
    ∷ (7 ∷ 0 ∷ [])
    ∷ (11 ∷ 0 ∷ 0 ∷ 0 ∷ 6 ∷ 39 ∷ 0 ∷ [])
    ∷ (5 ∷ 1 ∷ 0 ∷ 0 ∷ 8 ∷ 1 ∷ 1 ∷ [])
    ∷ (2 ∷ 0 ∷ [])
    ∷ (7 ∷ 1 ∷ [])
    ∷ []

-- records that are refused as they are read: 1 for an empty one and for a timeout of RBC 5 that lacks a byte, 2 for kind 12, 3 for a drop
-- of type 2, for number 40 from RBC 5 and for 39 with a version from RIU 7
abbrev pub unreadable : List (List ℕ)
unreadable =
    []
    ∷ (10 ∷ 0 ∷ 0 ∷ 0 ∷ [])
    ∷ (12 ∷ 0 ∷ 0 ∷ 0 ∷ 5 ∷ [])
    ∷ (6 ∷ 2 ∷ 0 ∷ 0 ∷ 5 ∷ [])
    ∷ (11 ∷ 0 ∷ 0 ∷ 0 ∷ 5 ∷ 40 ∷ 0 ∷ [])
    ∷ (11 ∷ 1 ∷ 0 ∷ 0 ∷ 7 ∷ 39 ∷ 17 ∷ [])
    ∷ []

-- what comes before each timeout: in Ending, where nothing closes a place; in Connecting and Contacting, which an end closes; in Lost,
-- which an RBC's order, not accepting, closes too
abbrev pub among_all : List (List ℕ)
among_all = of_nobody ++ (of_others ++ (displacing ++ (endings ++ unreadable)))

abbrev pub among_orders : List (List ℕ)
among_orders = of_nobody ++ (of_others ++ (displacing ++ unreadable))

abbrev pub among_others : List (List ℕ)
among_others = of_nobody ++ (of_others ++ unreadable)

-- such a row, a timeout of RBC 5, the row again, a timeout of RIU 7; so many times
abbrev pub rounds : List (List ℕ) → ℕ → List (List ℕ)
rounds row k = repeated k (row ++ (timeout5 ∷ (row ++ (timeout7 ∷ []))))

-- up to the n-th timeout of RBC 5, and with it
abbrev pub before_last5 : List (List ℕ) → ℕ → List (List ℕ)
before_last5 row n = rounds row (n - 1) ++ row

abbrev pub to_last5 : List (List ℕ) → ℕ → List (List ℕ)
to_last5 row n = before_last5 row n ++ (timeout5 ∷ [])

-- from there up to the n-th timeout of RIU 7, and with it
abbrev pub before_last7 : List (List ℕ) → ℕ → List (List ℕ)
before_last7 row n = to_last5 row n ++ row

abbrev pub to_last7 : List (List ℕ) → ℕ → List (List ℕ)
to_last7 row n = before_last7 row n ++ (timeout7 ∷ [])

-- after the first records the partner waits; it is silent in the others, which have n timeouts for it, and holds a place up to the last
abbrev pub HeldUntil : Partner → ℕ → List (List ℕ) → List (List ℕ) → List (List ℕ) → Type 0
HeldUntil p n first before whole =
    (waits p (after (started n) first).places ≡ true)
    × (silent p (after (started n) first) whole ≡ true)
    × (timeouts p whole ≡ n)
    × (holds_place p (after (after (started n) first) before).places ≡ true)

-- so both do, from this phase on, with the row before each timeout
abbrev pub BothHeld : ℕ → List (List ℕ) → List (List ℕ) → Phase → Type 0
BothHeld n first row ph =
    (held_phase (get_or (after (started n) first).places 0 vacant) ≡ ph)
    × (held_phase (get_or (after (started n) first).places 1 vacant) ≡ ph)
    × HeldUntil rbc5 n first (before_last5 row n) (to_last5 row n)
    × HeldUntil riu7 n first (before_last7 row n) (to_last7 row n)

-- the partner holds no place after those records, and one action 22 in them is for it
abbrev pub Freed : Partner → ℕ → List (List ℕ) → List (List ℕ) → Type 0
Freed p n first whole =
    (holds_place p (after (started n) (first ++ whole)).places ≡ false) × (releases_of p (after (started n) first) whole ≡ 1)

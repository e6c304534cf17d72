-- Request Q-10, "two modems for four places": the queue, who has a modem, and when the state of a shunter is sound.
-- Defines: modem_count, no_place, somebody, waiting, queued, in_order, among, every, distinct, place_at, outgoing, first_tried,
-- just_ordered, has_modem, sum_to, modems_held, queue_ok, rules_hold, ready, unqueued, cold_shunter.
use Rattle.std.specs.Prelude.{ℕ, zero, suc, ◌+◌, Bool, true, false, cond, ◌&&◌, ◌||◌, not, List, [], ◌∷◌, ◌++◌, eqb}
use Rattle.std.specs.Prelude.{leb, get_or}
use Rattle.place.specs.Places.{vacant, on_holding, is_free}
use Rattle.place.specs.Table.{first_try}
use Rattle.place.specs.declared.limits.Limits.{Limits}
use Rattle.place.specs.declared.phase.Phase.{Phase}
use Rattle.place.specs.declared.phase.Phase.TheVariants.{Connecting, Contacting, Open, Lost, Ending}
use Rattle.place.specs.declared.place.Direction.{Direction}
use Rattle.place.specs.declared.place.Direction.TheVariants.{Outgoing, Incoming}
use Rattle.place.specs.declared.place.Place.{Place}
use Rattle.wire.specs.Bytes.{as_bit}
use Rattle.unit.specs.States.{place_count, sound, cold_start}
use Rattle.unit.specs.declared.state.State.{State}
use Rattle.shunter.specs.declared.queue.Queue.{Queue}
use Rattle.shunter.specs.declared.state.Shunter.{Shunter}
use Rattle.shunter.specs.declared.start.Fitted.{Fitted}

-- "This product has two modems"
abbrev pub modem_count : ℕ
modem_count = 2

-- what stands in the queue where nobody waits: the number after the last place's
abbrev pub no_place : ℕ
no_place = place_count

-- the place numbers that wait, the one that waits longest first
abbrev pub somebody : ℕ → List ℕ
somebody i = cond (eqb i no_place) [] (i ∷ [])

unfoldable pub waiting : Queue → List ℕ
waiting q = somebody q.first ++ somebody q.second

-- the queue in which these wait; at most two can
unfoldable pub queued : List ℕ → Queue
queued [] = record { first = no_place; second = no_place }
queued (i ∷ []) = record { first = i; second = no_place }
queued (i ∷ j ∷ is) = record { first = i; second = j }

-- nobody stands in front of somebody
abbrev pub in_order : Queue → Bool
in_order q = cond (eqb q.first no_place) (eqb q.second no_place) true

-- a number is one of these
unfoldable pub among : ℕ → List ℕ → Bool
among i [] = false
among i (j ∷ js) = eqb i j || among i js

-- all of these numbers pass a test
unfoldable pub every : (ℕ → Bool) → List ℕ → Bool
every test [] = true
every test (i ∷ is) = test i && every test is

-- no number stands twice
unfoldable pub distinct : List ℕ → Bool
distinct [] = true
distinct (i ∷ is) = not (among i is) && distinct is

-- the place with this number; past the last a free one
abbrev pub place_at : List Place → ℕ → Place
place_at ps i = get_or ps i vacant

abbrev pub outgoing : Direction → Bool
outgoing Outgoing = true
outgoing Incoming = false

abbrev pub first_tried : Phase → Bool
first_tried (Connecting t) = eqb t first_try
first_tried (Contacting t) = false
first_tried Open = false
first_tried (Lost t) = false
first_tried (Ending t) = false

-- a place as an order leaves it: "Connecting, outgoing, tries 1"
abbrev pub just_ordered : Place → Bool
just_ordered place = on_holding false (λ d ph p. outgoing d && first_tried ph) place.holding

-- a place that is held has a modem, but where it waits
abbrev pub has_modem : List Place → List ℕ → ℕ → Bool
has_modem ps is i = not (is_free (place_at ps i)) && not (among i is)

-- the sum over the numbers below n
unfoldable pub sum_to : ℕ → (ℕ → ℕ) → ℕ
sum_to zero f = 0
sum_to (suc n) f = sum_to n f + f n

-- how many modems are held
unfoldable pub modems_held : List Place → List ℕ → ℕ
modems_held ps is = sum_to place_count (λ i. as_bit (has_modem ps is i))

-- "no more than two modems are held, none is idle while a place waits"; each that waits is as its order left it, and waits once
unfoldable pub queue_ok : List Place → List ℕ → Bool
queue_ok ps [] = leb (modems_held ps []) modem_count
queue_ok ps (i ∷ is) =
    every (λ j. just_ordered (place_at ps j)) (i ∷ is) && (distinct (i ∷ is) && eqb (modems_held ps (i ∷ is)) modem_count)

-- the rules of the queue and of the holding
unfoldable pub rules_hold : List Place → Queue → Bool
rules_hold ps q = in_order q && queue_ok ps (waiting q)

-- "11 also for a queue or holding that breaks these rules": the state of a shunter is sound
unfoldable pub ready : Shunter → Bool
ready h = sound h.state && rules_hold h.state.places h.queue

-- a box of whose places none waits
abbrev pub unqueued : State → Shunter
unqueued s = record { state = s; queue = queued [] }

-- the shunter's cold start: the box's, nobody waits
unfoldable pub cold_shunter : Limits → Fitted
cold_shunter l = record { code = (cold_start l).code; shunter = unqueued (cold_start l).state }

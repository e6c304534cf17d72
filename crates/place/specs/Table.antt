-- Document 01, "Rules of one step", the part on one place: the phase table, closing, judging a version.
-- Defines: request, release, incompatible, initiate, terminate, established, first_try, closing, x_of, supported, judged, with_tries,
-- one_more,
-- again, table, column, version_of, turn, on_turn, takes, numbers, in_phase, place_after, in_session, not_ending, closes, closed_by,
-- turned_to, closed_to.
use Rattle.std.specs.Prelude.{ℕ, ◌+◌, ◌/◌, Bool, true, false, cond, ◌&&◌, List, [], ◌∷◌, leb, ltb, get_or}
use Rattle.record.specs.Events.{by_event}
use Rattle.record.specs.Partners.{is_rbc}
use Rattle.record.specs.declared.partner.Partner.{Partner}
use Rattle.record.specs.declared.event.PartnerEvent.{PartnerEvent}
use Rattle.place.specs.Places.{by_phase, tries, vacant, seat, on_holding}
use Rattle.place.specs.declared.phase.Phase.{Phase}
use Rattle.place.specs.declared.phase.Phase.TheVariants.{Connecting, Contacting, Open, Lost, Ending}
use Rattle.place.specs.declared.place.Holding.{Holding}
use Rattle.place.specs.declared.place.Place.{Place}
use Rattle.place.specs.declared.limits.Limits.{Limits}
use Rattle.place.specs.declared.turn.Turn.{Turn}
use Rattle.place.specs.declared.turn.Turn.TheVariants.{Stays, Released, Becomes, Sends, SendsBoth}
use Rattle.place.specs.declared.turn.Turned.{Turned}
use Rattle.place.specs.declared.turn.Closing.{Closing}
use Rattle.place.specs.declared.turn.Closing.TheVariants.{Every, Sessions, Nothing}

-- "21 request connection, 22 release (also withdraws a request)"
abbrev pub request : ℕ
request = 21

abbrev pub release : ℕ
release = 22

-- "154 no compatible version, 155 initiate, 156 terminate, 159 established"
abbrev pub incompatible : ℕ
incompatible = 154

abbrev pub initiate : ℕ
initiate = 155

abbrev pub terminate : ℕ
terminate = 156

abbrev pub established : ℕ
established = 159

-- the first try in a phase
abbrev pub first_try : ℕ
first_try = 1

-- "Closing a place: Connecting, Contacting or Lost gives 22 and frees it; Open gives 156 and becomes Ending, tries 1"; an Ending place is
-- not closed
abbrev pub closing : Phase → Turn
closing = by_phase Released Released (Sends terminate (Ending first_try)) Released Stays

-- the X of a version, 16·X + Y
abbrev pub x_of : ℕ → ℕ
x_of version = version / 16

-- "X within the supported range"
abbrev pub supported : Limits → ℕ → Bool
supported l version = leb l.lowest (x_of version) && leb (x_of version) l.highest

-- "Judge: X within the supported range gives 159 and Open; else 154, then 156, and Ending, tries 1"
abbrev pub judged : Limits → ℕ → Turn
judged l version = cond (supported l version) (Sends established Open) (SendsBoth incompatible terminate (Ending first_try))

-- the same phase with other tries; Open has none
abbrev pub with_tries : Phase → ℕ → Phase
with_tries ph t = by_phase (Connecting t) (Contacting t) Open (Lost t) (Ending t) ph

-- one more try in the same phase
abbrev pub one_more : Phase → Phase
one_more ph = with_tries ph (tries ph + 1)

-- a timeout: it "gives the action shown and one more try while tries are 1 or 2; at 3 it gives 22 and frees the place"; Q-3: while fewer
-- than n were used
abbrev pub again : Limits → ℕ → Phase → Turn
again l number ph = cond (ltb (tries ph) l.tries) (Sends number (one_more ph)) Released

-- the phase table of 01: a row for each phase; the columns are drop, up, lost, timeout, 32, 39
abbrev pub table : Limits → ℕ → Phase → List Turn
table l version ph =
    let close : Turn = closing ph in
    -- "no" is refusal 7
    let no : Turn = Stays in
    -- "22; free"
    let free : Turn = Released in
    let judge : Turn = judged l version in
    by_phase
    -- Connecting
    (close ∷ Sends 155 (Contacting 1) ∷ no ∷ again l 21 ph ∷ no ∷ no ∷ [])
    -- Contacting
    (close ∷ no ∷ free ∷ again l 155 ph ∷ judge ∷ no ∷ [])
    -- Open
    (close ∷ no ∷ Sends 21 (Lost 1) ∷ no ∷ no ∷ no ∷ [])
    -- Lost
    (close ∷ Becomes Open ∷ no ∷ again l 21 ph ∷ no ∷ no ∷ [])
    -- Ending
    (no ∷ no ∷ free ∷ again l 156 ph ∷ no ∷ free ∷ [])
    ph

-- the column of the table that an event stands in
abbrev pub column : PartnerEvent → ℕ
column = by_event 0 1 2 3 (λ v. 4) 5

-- the version that an event carries
abbrev pub version_of : PartnerEvent → ℕ
version_of = by_event 0 0 0 0 (λ v. v) 0

-- what an event makes of a phase
unfoldable pub turn : Limits → Phase → PartnerEvent → Turn
turn l ph e = get_or (table l (version_of e) ph) (column e) Stays

-- what is said of a turn that lets the place stay, of a release, and of one that leads to another phase with these actions
abbrev pub on_turn {ℓ} : {A : Type ℓ} → A → A → (List ℕ → Phase → A) → Turn → A
on_turn stays released leads Stays = stays
on_turn stays released leads Released = released
on_turn stays released leads (Becomes ph) = leads [] ph
on_turn stays released leads (Sends number ph) = leads (number ∷ []) ph
on_turn stays released leads (SendsBoth first second ph) = leads (first ∷ second ∷ []) ph

-- the event is taken: "\"no\" is refusal 7"
abbrev pub takes : Turn → Bool
takes = on_turn false true (λ sent ph. true)

-- the numbers of a turn's actions, in their order
abbrev pub numbers : Turn → List ℕ
numbers = on_turn [] (release ∷ []) (λ sent ph. sent)

-- the place after a turn: "Direction never changes while the place is held"
abbrev pub in_phase : Holding → Phase → Place
in_phase k next = on_holding vacant (λ d ph p. seat d next p) k

abbrev pub place_after : Place → Turn → Place
place_after place = on_turn place vacant (λ sent next. in_phase place.holding next)

-- "each RBC place in Open or Lost is closed .. the other phases stay"
abbrev pub in_session : Phase → Bool
in_session = by_phase false false true true false

-- "closes every place, lowest first, that is not Ending"
abbrev pub not_ending : Phase → Bool
not_ending = by_phase true true true true false

-- whom a closing is for: `Every` an end all's, `Sessions` those of RBCs that an order ends, never an RIU's
abbrev pub closes : Closing → Phase → Partner → Bool
closes Every ph p = not_ending ph
closes Sessions ph p = is_rbc p && in_session ph
closes Nothing ph p = false

-- what a closing makes of a place
abbrev pub closed_by : Closing → Place → Turn
closed_by which place = on_holding Stays (λ d ph p. cond (closes which ph p) (closing ph) Stays) place.holding

-- a turn as the code hands it on: whether it is taken, the numbers of its actions with 0 for none, and the place after it
unfoldable pub turned_to : Place → Turn → Turned
turned_to place t = record { taken = takes t; first = get_or (numbers t) 0 0; second = get_or (numbers t) 1 0; place = place_after place t }

-- and a closing's
abbrev pub closed_to : Closing → Place → Turned
closed_to which place = turned_to place (closed_by which place)

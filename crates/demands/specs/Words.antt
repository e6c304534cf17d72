-- The words of the page. First those that the crates below define, handed on; then its own, which keep its lines short.
-- Defines: Bytes, cold_state, IsRefused, One, OneLent, Untouched, IsImageOf, AtMost, AtMostFor, StillHeld, every_event, gives, is14,
-- InState, InPhase, FoundAs, Accepts, Ours, line, modems, mark_many, LooksUp, seen_of, Board, seen_by, last_of, records_by.
use Rattle.std.specs.Prelude.{ℕ, ◌+◌, ◌*◌, ◌/◌, ◌%◌, ◌≤◌, ◌<◌, ◌≡◌, ◌⊎◌, true, false, cond, List}
use Rattle.std.specs.Prelude.{[], ◌∷◌, map, eqb, pos, neg_ℤ, length, take, get_or}
use Rattle.onsight.specs.Procedures as onsight
use Rattle.onsight.specs.declared.procedure.State as onsight-state
use Rattle.onsight.specs.declared.procedure.Answer as onsight-answer
use Rattle.onsight.specs.declared.event.Event as onsight-event
-- wire
pub use Rattle.wire.specs.Bytes.{byte}
use Rattle.wire.specs.Refusals.{accepted}
-- record
pub use Rattle.record.specs.Partners.{is_rbc, reserved}
pub use Rattle.record.specs.Records.{reading}
pub use Rattle.record.specs.Takes.{taken}
pub use Rattle.record.specs.declared.partner.Partner.{Partner}
use Rattle.record.specs.declared.event.PartnerEvent.TheVariants.{Drop, Up, Loss, Timeout, Version, Ended}
pub use Rattle.record.specs.Readings.{Reading}
pub use Rattle.record.specs.Takes.{Whole}
-- place
pub use Rattle.place.specs.Places.{vacant, tries}
use Rattle.place.specs.Places.{holds, is_free, held_phase}
pub use Rattle.place.specs.Table.{again, judged}
use Rattle.place.specs.Table.{turn}
pub use Rattle.place.specs.declared.limits.Limits.{Limits}
pub use Rattle.place.specs.declared.phase.Phase.{Phase}
pub use Rattle.place.specs.declared.phase.Phase.TheVariants.{Connecting, Contacting, Open, Lost, Ending}
pub use Rattle.place.specs.declared.place.Place.{Place}
use Rattle.place.specs.declared.turn.Turn.{Turn}
pub use Rattle.place.specs.declared.turn.Turn.TheVariants.{Stays, Released, Becomes, Sends}
-- unit
pub use Rattle.unit.specs.Examples.{examples, got, want}
pub use Rattle.unit.specs.ExampleBytes.{got_bytes, want_bytes, sent_bytes}
pub use Rattle.unit.specs.States.{cold_start, default_start, cold, sound, limits_ok, seek}
pub use Rattle.unit.specs.Lasts.{meant, rbc_of, to_rbc}
pub use Rattle.unit.specs.Steps.{step}
use Rattle.unit.specs.Steps.{Outcome}
pub use Rattle.unit.specs.OnRecords.{on_record}
use Rattle.unit.specs.OnRecords.{written}
pub use Rattle.unit.specs.Runs.{run, course, applies, tallied, fresh}
pub use Rattle.unit.specs.RunWords.{steps}
pub use Rattle.unit.specs.Kept.{count}
use Rattle.wire.specs.Sums.{sum}
use Rattle.unit.specs.Kept.{here}
pub use Rattle.unit.specs.Standings.{nobody, concern_of, Numbered, Says}
pub use Rattle.unit.specs.declared.state.State.{State}
pub use Rattle.unit.specs.declared.answer.Action.{Action}
pub use Rattle.unit.specs.declared.last.Last.{Last}
pub use Rattle.unit.specs.declared.last.Last.TheVariants.{Unknown, Known}
pub use Rattle.unit.specs.declared.search.Found.{Found}
pub use Rattle.unit.specs.declared.search.Found.TheVariants.{At, Vacant, Full}
-- image
pub use Rattle.image.specs.Images.{image_a2, image_a1, fits_a1, write_a1, read_a2, read_image}
use Rattle.image.specs.Images.{imaged_a2}
pub use Rattle.image.specs.Rescue.{rescue, rescued, told}
-- firmware
pub use Rattle.firmware.specs.Calls.{seen_after}
use Rattle.firmware.specs.Calls.{Seen}
use Rattle.firmware.specs.Starts.{start_image}
pub use Rattle.firmware.specs.Along.{Lent, lent_records, roomy, seen_along, last_image, is_accepted}
-- history
pub use Rattle.history.specs.Histories.{after, releases, places_held, holds_place, waits, silent, timeouts}
pub use Rattle.history.specs.Histories.{orders, calls}
pub use Rattle.history.specs.Histories.{releases_of, sent}
use Rattle.history.specs.Histories.{actions, losses}
use Rattle.history.specs.Histories.{actions_of, orders_of, calls_of, losses_of}
pub use Rattle.history.specs.Sums.{sums_of, counts}
use Rattle.history.specs.Sums.{started}
pub use Rattle.history.specs.Reaching.{reaching}
pub use Rattle.history.specs.EitherOrder.{Delivered, Differ, Alike, Compared, next, alone}
-- sets
pub use Rattle.sets.specs.Members.{has_member}
pub use Rattle.sets.specs.SixSets.{set_ready, six_in, set_in, size, unpacked, packed_sets}
pub use Rattle.sets.specs.SameSets.{SameState, SameAnswer, sets_of, state_of}
pub use Rattle.sets.specs.OnSets.{on_sets}
pub use Rattle.sets.specs.declared.names.SetName.{SetName}
pub use Rattle.sets.specs.declared.state.SetState.{SetState}
-- judge
pub use Rattle.judge.specs.Judging.{judgement, against, is_right, verdict_at, point_at}
pub use Rattle.judge.specs.Fronts.{FaultAt}
use Rattle.judge.specs.Fronts.{OurSheet}
pub use Rattle.judge.specs.declared.due.Due.TheVariants.{AnEvent}
pub use Rattle.judge.specs.declared.due.Finding.TheVariants.{Right}
-- marks
pub use Rattle.marks.specs.Marks.{whole_records}
pub use Rattle.marks.specs.LogMarks.{marks_of}
pub use Rattle.marks.specs.Building.{built, built_room, extended, extended_room}
pub use Rattle.marks.specs.Lookup.{looked_up}
use Rattle.marks.specs.declared.lookup.Looked.{Looked}
-- shunter
pub use Rattle.shunter.specs.Queues.{ready}
use Rattle.shunter.specs.Queues.{modems_held, waiting}
pub use Rattle.shunter.specs.ShunterHistories.{shunter_after, modem_releases, ahead, waits_through}
pub use Rattle.shunter.specs.declared.state.Shunter.{Shunter}
-- onsight
pub use Rattle.onsight.specs.declared.event.Mode.{Mode}
use Rattle.onsight.specs.declared.event.Area.TheVariants.{Ahead, Entered}
use Rattle.onsight.specs.declared.event.Mode.TheVariants.{OS, SB, PT, Another}
pub use Rattle.onsight.specs.declared.event.Event.TheVariants.{Acknowledgement, Expiry}
use Rattle.onsight.specs.declared.event.Event.TheVariants.{Profile, Window, Start}

-- a record, an image, a log, a sheet, a buffer
abbrev pub Bytes : Type 0
Bytes = List ℕ

-- the state of a cold start, that of a refused one too
abbrev pub cold_state : Limits → State
cold_state l = (cold_start l).state

-- any number but 0
abbrev pub IsRefused : ℕ → Type 0
IsRefused code = code ≡ accepted → ⊥

-- Doors: whatever satisfies the contract, at whatever exit, is this answer to the arguments; so there is no second one
abbrev pub One : {K A R : Type 0} → (K → A → R → A → Type 0) → (A → R) → Type 0
One {K} {A} {R} contract answer = (κ : K) (entry exit : A) (r : R) → contract κ entry r exit → r ≡ answer entry

-- the same, and the lent bytes at the exit are these
abbrev pub OneLent : {K A R L : Type 0} → (K → A → R → A → Type 0) → (A → L) → (A → R × L) → Type 0
OneLent {K} {A} {R} contract lent answer =
    (κ : K) (entry exit : A) (r : R) → contract κ entry r exit → (r ≡ (answer entry).0) × (lent exit ≡ (answer entry).1)

-- Demand 1: "it leaves the state and every lent byte as they were"
abbrev pub Untouched : State → Bytes → Outcome → Type 0
Untouched s buffer o = (o.state ≡ s) × (written o.actions buffer ≡ buffer)

-- the image A2 of a state, or, where the state fits it, the image A1
abbrev pub IsImageOf : State → Bytes → Type 0
IsImageOf s bytes = (image_a2 s ≡ bytes) ⊎ ((fits_a1 s ≡ true) × (image_a1 s ≡ bytes))

-- Demand 3: a history has at most so many actions for each accepted order, call and loss; and of those for one partner
abbrev pub AtMost : ℕ → ℕ → ℕ → State → List Bytes → Type 0
AtMost order call loss s history = actions s history ≤ order * orders s history + call * calls s history + loss * losses s history

abbrev pub AtMostFor : Partner → ℕ → ℕ → ℕ → State → List Bytes → Type 0
AtMostFor p order call loss s history =
    actions_of p s history ≤ order * orders_of p s history + call * calls_of p s history + loss * losses_of p s history

-- Q-3: from a cold start with X 1 to 2 and n tries partner p waits after these records, place 0 in this phase, and after one timeout less
-- than n, and nothing else for it, it still holds its place
abbrev pub StillHeld : ℕ → Partner → List Bytes → List Bytes → Phase → Type 0
StillHeld n p records silence ph =
    let s : State = after (started n) records in
    (held_phase (get_or s.places 0 vacant) ≡ ph) × (waits p s.places ≡ true) × (silent p s silence ≡ true)
    × (timeouts p silence + 1 ≡ n) × (holds_place p (after s silence).places ≡ true)

-- Q-1: what each event gives in a state of On-Sight, row by row: a next state, or 14
abbrev pub every_event : Mode → List onsight-event.Event
every_event mode =
    Profile Ahead mode ∷ Profile Entered OS ∷ Profile Entered SB ∷ Profile Entered PT ∷ Profile Entered Another
    ∷ Window ∷ Start ∷ Acknowledgement ∷ Expiry ∷ []

abbrev pub gives : onsight-state.State → onsight-state.State → onsight-answer.Answer
gives next s = record { code = 0; state = next }

abbrev pub is14 : onsight-state.State → onsight-answer.Answer
is14 s = record { code = 14; state = s }

abbrev pub InState : Mode → onsight-state.State → List (onsight-state.State → onsight-answer.Answer) → Type 0
InState mode s row = map (onsight.step s) (every_event mode) ≡ map (λ answer. answer s) row

-- Q-5: a row of 01's phase table: what drop, up, lost, timeout, 32 with this version, and 39 make of a phase
abbrev pub InPhase : Limits → ℕ → Phase → List Turn → Type 0
InPhase l v ph row = map (turn l ph) (Drop ∷ Up ∷ Loss ∷ Timeout ∷ Version v ∷ Ended ∷ []) ≡ row

-- Q-6: a place that holds the partner, with its phase; the lowest free place, where none holds it; that there is none
abbrev pub FoundAs : Partner → List Place → Found → Type 0
FoundAs p ps (At i ph) = (i < length ps) × (holds p (get_or ps i vacant) ≡ true) × (held_phase (get_or ps i vacant) ≡ ph)
FoundAs p ps (Vacant i) =
    (i < length ps) × (is_free (get_or ps i vacant) ≡ true) × (sum (here (holds p)) ps ≡ 0)
    × ((j : ℕ) → j < i → is_free (get_or ps j vacant) ≡ false)
FoundAs p ps Full = (sum (here is_free) ps ≡ 0) × (sum (here (holds p)) ps ≡ 0)

-- Q-9: the judge accepts a sheet; a sheet is what our step produces for a row of event records, and not too long
abbrev pub Accepts : Limits → Bytes → Type 0
Accepts l sheet = ((judgement l sheet).code ≡ 0) × ((judgement l sheet).point.stands ≡ Right)

abbrev pub Ours : Limits → List Bytes → Bytes → Type 0
Ours l row sheet = (limits_ok l ≡ true) × (length sheet ≤ 1_048_576) × OurSheet (cold l) row sheet

-- Q-10: the places that wait, the longest first; how many modems are held
abbrev pub line : Shunter → List ℕ
line h = waiting h.queue

abbrev pub modems : Shunter → ℕ
modems h = modems_held h.state.places (line h)

-- Q-12: how many marks a log has, each 47 bytes; a lookup answers the run of n records in at most 255 steps
abbrev pub mark_many : Bytes → ℕ
mark_many log = whole_records log / 256

abbrev pub LooksUp : Limits → Bytes → ℕ → Looked → Type 0
LooksUp l log n looked =
    (looked.code ≡ 0)
    × (looked.state ≡ (run (cold l) log n).tally.state)
    × (looked.offset ≡ (run (cold l) log n).tally.offset)
    × (looked.steps ≡ n % 256)
    × (looked.steps ≤ 255)
    × (looked.steps + 256 * (n / 256) ≡ n)

-- Q-14: what C sees of a step: "the number of actions or minus the refusal", the next state over the image, the actions in the buffer
abbrev pub seen_of : Outcome → Bytes → Bytes → Seen
seen_of o image buffer =
    let number = cond (eqb o.code 0) (pos (length o.actions)) (neg_ℤ (pos o.code)) in
    let next : Bytes = cond (eqb o.code 0) (imaged_a2 o.state image) image in
    record { number = number; image = next; actions = written o.actions buffer }

-- a second board: an accepted cold start over a buffer of 42 bytes or more, then calls, each with a record and a buffer of 20 or more
pub record Board : Type 0 where
  pub limits : Limits
  pub begun : (cold_start limits).code ≡ 0
  pub room : Bytes
  pub long : 42 ≤ length room
  pub history : List Lent
  pub enough : roomy history ≡ true

-- what C sees after each call, from the image that the cold start wrote, and the last image; the records of the calls
abbrev pub seen_by : Board → List Seen
seen_by b = seen_along (take 42 (start_image b.limits b.room)) b.history

abbrev pub last_of : Board → Bytes
last_of b = last_image (take 42 (start_image b.limits b.room)) (seen_by b)

abbrev pub records_by : Board → List Bytes
records_by b = lent_records b.history

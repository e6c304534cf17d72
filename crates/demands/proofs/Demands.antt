-- What is promised, on one page: what is proved of the three demands and of the requests Q-1 to Q-14, in the documents' words, each line
-- with its proof, a citation of the crate that stands behind `in-`. A sentence that only fixes a rule is its definition; docs/TRACE.md
-- leads there. A second sheet belongs to the page, Doors.antt: each door with its only answer. What else is proved are laws and
-- cross-checks.
use Prim.Native.Nat.{ℕ, suc, ◌+◌, ◌*◌, ◌≤◌, ◌<◌}
use mathlib.Core.Path.{◌≡◌, refl}
use mathlib.Core.Logic.{◌⊎◌, ◌↔◌}
use mathlib.Core.Bool.{Bool, true, false}
use mathlib.Core.List.{List, [], ◌∷◌, ◌++◌, map}
use lib.ListN.{length, take, drop}
use Rattle.place.specs.Table.{turn}
use Rattle.onsight.specs.Procedures as onsight
use Rattle.onsight.specs.Histories as onsight-along
use Rattle.onsight.specs.declared.procedure.State.TheVariants.{Idle, Waiting, Asked, Late, Braking, Done}
use Rattle.onsight.specs.declared.event.Event as onsight-event
use Rattle.onsight.specs.declared.procedure.State as onsight-state
use Rattle.record.specs.declared.event.Cause.{Cause}
use Rattle.record.specs.declared.event.Event.TheVariants.{Order}
use Rattle.unit.specs.States.{nowhere}
use Rattle.unit.specs.OnRecords.{trace}
use Rattle.firmware.specs.Calls.{Seen, returned}
use Rattle.unit.specs.Steps.{step}
use Rattle.image.specs.Images.{write_a2, imaged_a2, imaged_a1}
use Rattle.history.specs.Reaching.{rbc5, order5, up5, call5, lost5, drop5, retries}
use Rattle.sets.specs.SixSets.{set_start}
use Rattle.shunter.specs.Queues.{cold_shunter}
use Rattle.shunter.specs.Shunting.{shunt}
use Rattle.shunter.specs.ShunterHistories as shunter-along
use Rattle.unit.proofs as in-unit
use Rattle.unit.proofs.Again.Meant as in-meant
use Rattle.image.proofs as in_image
use Rattle.history.proofs as in-history
use Rattle.history.proofs.EitherOrder as in_either
use Rattle.onsight.proofs as in-onsight
use Rattle.sets.proofs as in-sets
use Rattle.judge.proofs as in-judge
use Rattle.shunter.proofs as in-shunter
use Rattle.marks.proofs as in-marks
use Rattle.firmware.proofs as in-firmware
use Rattle.demands.specs.Words.{Bytes, cold_state, IsRefused, Untouched, IsImageOf, AtMost, AtMostFor, gives, is14, InState}
use Rattle.demands.specs.Words.{StillHeld, InPhase, FoundAs, Accepts, Ours, line, modems, mark_many, LooksUp, seen_of, Board, seen_by}
use Rattle.demands.specs.Words.{last_of, records_by, byte, is_rbc, reserved, reading, taken, Partner, Reading, Whole}
use Rattle.demands.specs.Words.{again, judged, Limits, Connecting, Contacting, Open, Lost, Ending, Place, Stays, Released}
use Rattle.demands.specs.Words.{Becomes, Sends, examples, got, want, got_bytes, want_bytes, sent_bytes, cold_start, default_start}
use Rattle.demands.specs.Words.{cold, sound, seek, meant, rbc_of, to_rbc, on_record, run, course, applies, tallied, fresh}
use Rattle.demands.specs.Words.{count, nobody, concern_of, Numbered, Says, State, Action, Last, Unknown, Known, Found, At, Vacant}
use Rattle.demands.specs.Words.{Full, image_a2, image_a1, fits_a1, write_a1, read_a2, read_image, rescue, rescued, told, seen_after}
use Rattle.demands.specs.Words.{is_accepted, after, orders, calls, releases, places_held, holds_place, waits, silent, timeouts}
use Rattle.demands.specs.Words.{releases_of, sent, sums_of, counts, reaching, Delivered, Differ, Alike, Compared, next, alone}
use Rattle.demands.specs.Words.{has_member, set_ready, six_in, set_in, size, unpacked, packed_sets, SameState, SameAnswer, sets_of}
use Rattle.demands.specs.Words.{state_of, on_sets, SetName, SetState, judgement, against, is_right, verdict_at, point_at, FaultAt}
use Rattle.demands.specs.Words.{AnEvent, Right, whole_records, built, built_room, extended, extended_room, looked_up, ready}
use Rattle.demands.specs.Words.{shunter_after, modem_releases, ahead, waits_through, Shunter, Mode, Acknowledgement, Expiry}

-- Signs: `≡` equal, `×` and, `⊎` or, `↔` exactly when, `→ ⊥` not, `(x : T) →` for every x, `(x : T) ×` there is an x;
-- `p ≡ true`, the test p passes; `∷` and `++` put a thing in front of a row, and two rows together; `s.f`, the field f of s;
-- `λ x. e`, e by x.
-- How to read it. `on_record s bytes room` is 01's step from the state s on a record, with `room` bytes lent for its actions: .code is 0
-- or the refusal, .state the next state, .actions what is sent, in its order, .standing the place and phase told. `cold_state l` is the
-- state of a cold start with the limits l, the two X numbers and the tries n; `sound` is 01's soundness; `run s log budget` is 01's run;
-- a history is a row of records, each stepped with 20 bytes, and `after s history` the state after it. That the code meets contracts
-- which cite these definitions is what the checker accepts; that a contract leaves one answer, `on_record` for `State.on_record`, `run`
-- for `run` and so on, is Doors.antt. Other words are said where they are used, and defined in specs/Words.antt or where that file and
-- the `use` lines above lead.

-- DEMAND 1: door by door in Doors.antt. Which number is given first is 01's order, a list of needs with their numbers, by definition: in
-- `on_record`, `applied`, `ordered`, `called`, `named`, `at_hole`, `run`, `cold_start` (unit/specs), `reading`, `taken` (record/specs),
-- `needs_a2`, `needs_a1`, `read_as` (image/specs)
-- demand D-1-1: a part: what the box gives, it takes: a cold start is sound, and a step keeps a state sound
pub always-sound : ((l : Limits) → sound (cold_state l) ≡ true)
    × ((s : State) (bytes : Bytes) (room : ℕ) → sound s ≡ true → sound (on_record s bytes room).state ≡ true)
always-sound = (in-unit.Starts.cold-sound, in-unit.Sound.on_record-sound)

-- demand D-1-3: a refusal "leaves the state and every lent byte as they were": of a step
pub step_kept : (s : State) (bytes : Bytes) (room : ℕ) (buffer : Bytes) → IsRefused (on_record s bytes room).code
    → Untouched s buffer (on_record s bytes room)
step_kept s bytes room buffer r =
    ((in-unit.Again.Refusals.on_record-kept s bytes room r).0, in-unit.Again.Writing.on_record-writes-nothing s bytes room buffer r)

-- demand D-1-3: of a run, and of writing an image; of a call from C it is `call_kept`, below; of the others laws (`image:rescue-refused`
-- `sets:sets-kept` `shunter:shunt-kept` `judge:produce-kept`)
pub others-kept :
    ((s : State) (log : Bytes) (budget : ℕ) → IsRefused (run s log budget).code → (run s log budget).tally.state ≡ s)
    × ((s : State) (buffer : Bytes) → (IsRefused (write_a2 s (length buffer)).code → imaged_a2 s buffer ≡ buffer)
    × (IsRefused (write_a1 s (length buffer)).code → imaged_a1 s buffer ≡ buffer))
others-kept = (
  (λ s log budget r. (in-unit.Runs.Stops.run-kept s log budget r).1),
  (λ s buffer. (in_image.Again.Writing.imaged_a2-kept s buffer, in_image.Again.Writing.imaged_a1-kept s buffer)),
)

-- DEMAND 2: 01's rules are the definition `step` (unit/specs/Steps.antt), the table under Q-5 among them, and that the code is it is
-- `on-record-once` in Doors.antt
-- demand D-2-1: "Each step gives the next state, and the actions in their order": 01's marked examples P1 to P10. `got` is what the
-- defined step gives, whole answers with their states, `want` what 01 writes; `got_bytes` and `want_bytes` are the bytes of the actions
pub marked-hold : (map got examples ≡ map want examples) × (map got_bytes examples ≡ map want_bytes sent_bytes)
marked-hold = (in-unit.Again.Examples.marked-hold, in-unit.Again.ExampleBytes.marked-written)

-- demand D-2-3, Q-4-7: "what is written reads back", of either kind
pub written-reads : (s : State) → sound s ≡ true → (read_image (image_a2 s) ≡ record { code = 0; state = s })
    × (fits_a1 s ≡ true → read_image (image_a1 s) ≡ record { code = 0; state = s })
written-reads s ok = (in_image.RoundTrips.read-written s ok, in_image.RoundTrips.read_a1-written s ok)

-- demand D-2-3, Q-4-7: "and each image that is read is the one its state writes"
pub read-writes : (bytes : Bytes) → (read_image bytes).code ≡ 0
    → (sound (read_image bytes).state ≡ true) × IsImageOf (read_image bytes).state bytes
read-writes = in_image.RoundTrips.written_read

-- DEMAND 3: every number is a sum over the steps of demand 2. `AtMost a b c s history`: its actions are at most a · its accepted orders
-- + b · its accepted calls 38 + c · its accepted losses; `sums_of n` counts a history from a cold start, X 1 to 2 and n tries, and
-- `counts` is what it should be; `silent p`: each record names somebody else or nobody, or is a timeout for p
-- demand D-3-1: "In any history from a cold start, with no image loaded in it, at most 11 actions for each order accepted, 5 for each
-- accepted call from an RBC, 3 for each accepted loss"
pub bounded : (l : Limits) → l.tries ≡ 3 → (cold_start l).code ≡ 0 → (history : List Bytes)
    → AtMost 11 5 3 (cold_state l) history
bounded = in-history.Bounds.demand-bound

-- demand D-3-2: "and histories are shown that reach 11, 5 and 3": of a orders, b calls and c losses, with RBC 5 (`reaching`, an example);
-- a loss needs an order or a call before it
pub reached : (a b c : ℕ) → (c ≡ 0) ⊎ (0 < a + b) → sums_of 3 (reaching 3 a b c) ≡ counts a b c (11 * a + 5 * b + 3 * c)
reached = in-history.Reached.demand-reached

-- demand D-3-3: "Partners taken in equal releases plus places held"
pub taken_in : (l : Limits) → (cold_start l).code ≡ 0 → (history : List Bytes)
    → orders (cold_state l) history + calls (cold_state l) history
    ≡ releases (cold_state l) history + places_held (after (cold_state l) history).places
taken_in = in-history.TakenIn.taken_in

-- demand D-3-4, Q-3-5: "A partner that waits (any phase but Open) and is from then on named by nothing but timeouts holds no place after
-- its third one", with n tries its n-th, "whatever comes for others in between"; one 22 goes to it
pub waiting-ends : (s : State) → sound s ≡ true → (p : Partner) → waits p s.places ≡ true
    → (history : List Bytes) → silent p s history ≡ true → s.limits.tries ≤ timeouts p history
    → (holds_place p (after s history).places ≡ false) × (releases_of p s history ≡ 1)
waiting-ends s ok p now history quiet enough =
    (in-history.Waiting.waiting s ok p now history quiet enough, in-history.Waiting.released-once s ok p now history quiet enough)

-- Q-1, ON-SIGHT ON THE SAME BOX: `InState m s row` is what each event gives in s; `gives x` is 0 and state x, `is14` is 14 and state s
-- demand Q-1-1 to Q-1-8, Q-1-13: each state with each event: a profile, the area ahead; entered, for OS, for SB, for PT, for another;
-- window; start passed; acknowledgement; expiry. "Refusals: 14, event not taken here; the state stays"
pub on-sight-table : (m : Mode) → InState m Idle
    (gives Waiting ∷ gives Done ∷ gives Asked ∷ gives Asked ∷ gives Late ∷ is14 ∷ is14 ∷ is14 ∷ is14 ∷ [])
    × InState m Waiting (is14 ∷ is14 ∷ is14 ∷ is14 ∷ is14 ∷ gives Asked ∷ gives Late ∷ is14 ∷ is14 ∷ [])
    × InState m Asked (is14 ∷ is14 ∷ is14 ∷ is14 ∷ is14 ∷ is14 ∷ gives Late ∷ gives Done ∷ is14 ∷ [])
    × InState m Late (is14 ∷ is14 ∷ is14 ∷ is14 ∷ is14 ∷ is14 ∷ is14 ∷ gives Done ∷ gives Braking ∷ [])
    × InState m Braking (is14 ∷ is14 ∷ is14 ∷ is14 ∷ is14 ∷ is14 ∷ is14 ∷ gives Done ∷ is14 ∷ [])
    × InState m Done (is14 ∷ is14 ∷ is14 ∷ is14 ∷ is14 ∷ is14 ∷ is14 ∷ is14 ∷ is14 ∷ [])
on-sight-table m = (refl, refl, refl, refl, refl, refl)

-- demand Q-1-9: "OS is in force in Late, Braking and Done; the service brake is on in Braking only"
pub on-sight-brake : (s : onsight-state.State)
    → ((onsight.os_in_force s ≡ true) ↔ ((s ≡ Late) ⊎ ((s ≡ Braking) ⊎ (s ≡ Done))))
    × ((onsight.service_brake s ≡ true) ↔ (s ≡ Braking))
on-sight-brake s = (in-onsight.Again.Rows.os_in_force-states s, in-onsight.Again.Rows.service_brake-states s)

-- demand Q-1-11: "after expiry in Late only the acknowledgement leads on": no other event is accepted after it, whatever came between
pub on-sight-expired : (es : List onsight-event.Event) → onsight-along.after onsight.fresh es ≡ Late
    → (gs : List onsight-event.Event) (e : onsight-event.Event)
    → (onsight.step (onsight-along.after onsight.fresh (es ++ (Expiry ∷ gs))) e).code ≡ 0 → e ≡ Acknowledgement
on-sight-expired = in-onsight.AfterExpiry.expired-only-acknowledgement

-- Q-2, "CALL THE LAST ONE" DID NOTHING USEFUL: `reserved p`, p is an RBC with low 14 bits 16,383; `meant last p`, whom an order to p
-- means; `sent`, all actions of a history in their order; `to_rbc`, a 159 to an RBC
-- demand Q-2-3: "an order of type RBC whose low 14 bits are 16,383 means the RBC of the most recent 159 sent to an RBC"; any other itself
pub order-means : (p : Partner) (last : Last)
    → ((high middle low : ℕ) → reserved p ≡ true → meant (Known high middle low) p ≡ rbc_of high middle low)
    × (reserved p ≡ false → meant last p ≡ p)
order-means p last = ((λ high middle low. in-meant.meant-known high middle low p), in-meant.meant_itself last p)

-- demand Q-2-6: "Demands 2 and 3 read with the meant partner": an order is the order to whom it means
pub order-meant : (s : State) (p : Partner) (accepting : Bool) (cause : Cause)
    → step s (Order p accepting cause) ≡ step s (Order (meant s.last p) accepting cause)
order-meant = in-meant.order-meant

-- demand Q-2-4: "the state remembers it, and a cold start knows none": a is the last 159 to an RBC among all that was sent
pub last-known : (l : Limits) (history : List Bytes)
    → ((before : List Action) (a : Action) (later : List Action) → sent (cold_state l) history ≡ before ++ (a ∷ later)
    → to_rbc a ≡ true → count to_rbc later ≡ 0
    → (after (cold_state l) history).last ≡ Known a.partner.high a.partner.middle a.partner.low)
    × (count to_rbc (sent (cold_state l) history) ≡ 0 → (after (cold_state l) history).last ≡ Unknown)
last-known l history = (in-history.LastKnown.last-recent l history, in-history.LastKnown.last_none l history)

-- Q-3, FIVE TRIES ON THE BRANCH LINES
-- demand Q-3-3: "Where no number is given the default was 3 and becomes 5"
pub default-five : (lowest highest : ℕ)
    → default_start lowest highest ≡ cold_start (record { lowest = lowest; highest = highest; tries = 5 })
default-five = in-unit.Again.Starts.default_start-five

-- demand Q-3-5: "Demand 3 becomes 3n + 2 for an order, n + 2 for a call, n for a loss": of all actions, and of those for one partner
pub n-bounded : (l : Limits) → (cold_start l).code ≡ 0 → (history : List Bytes)
    → AtMost (3 * l.tries + 2) (l.tries + 2) l.tries (cold_state l) history
    × ((p : Partner) → AtMostFor p (3 * l.tries + 2) (l.tries + 2) l.tries (cold_state l) history)
n-bounded l ok history = (in-history.Bounds.bound l ok history, in-history.Bounds.bound_of l ok history)

-- demand Q-3-6: "each reached, proved once over n"
pub n-reached : (n : ℕ) → 1 ≤ n → n ≤ 9 → (a b c : ℕ) → (c ≡ 0) ⊎ (0 < a + b)
    → sums_of n (reaching n a b c) ≡ counts a b c ((3 * n + 2) * a + (n + 2) * b + n * c)
n-reached = in-history.Reached.reached

-- demand Q-3-5, Q-3-6: "and n timeouts, each reached": in each phase that waits RBC 5 still holds its place after n - 1 of them
-- (`StillHeld`)
pub n-needed : (n : ℕ) → 1 ≤ n → n ≤ 9
    → StillHeld n rbc5 (order5 ∷ []) (retries n) (Connecting 1) × StillHeld n rbc5 (order5 ∷ up5 ∷ []) (retries n) (Contacting 1)
    × StillHeld n rbc5 (call5 ∷ lost5 ∷ []) (retries n) (Lost 1) × StillHeld n rbc5 (call5 ∷ drop5 ∷ []) (retries n) (Ending 1)
n-needed = in-history.Reached.waiting-not-sooner-each

-- Q-4, NEW STORED IMAGE, OLD BOXES STILL IN SERVICE
-- demand Q-4-2, Q-4-5: "Going back to A1 is possible exactly when that is so"
pub a1-written : (s : State) (room : ℕ)
    → ((write_a1 s room).code ≡ 0) ↔ ((37 ≤ room) × (sound s ≡ true) × (s.limits.tries ≡ 3) × (s.last ≡ Unknown))
a1-written = in_image.Again.Writing.write_a1-accepted

-- demand Q-4-6: "there and back gives the same bytes": from A1 over A2, and from A2 over A1
pub there_and_back : (bytes : Bytes) → (read_image bytes).code ≡ 0
    → (byte bytes 0 ≡ 0xA1 → image_a1 (read_image (image_a2 (read_image bytes).state)).state ≡ bytes)
    × (byte bytes 0 ≡ 0xA2 → fits_a1 (read_image bytes).state ≡ true
    → image_a2 (read_image (image_a1 (read_image bytes).state)).state ≡ bytes)
there_and_back bytes ok = (in_image.Again.ThereAndBack.a1-back bytes ok, in_image.Again.ThereAndBack.a2-back bytes ok)

-- Q-5, LET THE SIGNALLING ENGINEERS READ THE RULE: that the code takes it from a constant is a form (place/src/table.rt). `Stays` is
-- "no", `Released` 22 and free, `Sends k ph` action k and that phase, `again l k` action k and one more try, at n `Released`, `judged`
-- 01's judge
-- demand Q-5-2: "a row for each phase and a column for each event that names a partner, as drawn in 01": drop, up, lost, timeout, 32, 39
pub phase-table : (l : Limits) (t v : ℕ) → InPhase l v (Connecting t)
    (Released ∷ Sends 155 (Contacting 1) ∷ Stays ∷ again l 21 (Connecting t) ∷ Stays ∷ Stays ∷ [])
    × InPhase l v (Contacting t) (Released ∷ Stays ∷ Released ∷ again l 155 (Contacting t) ∷ judged l v ∷ Stays ∷ [])
    × InPhase l v Open (Sends 156 (Ending 1) ∷ Stays ∷ Sends 21 (Lost 1) ∷ Stays ∷ Stays ∷ Stays ∷ [])
    × InPhase l v (Lost t) (Released ∷ Becomes Open ∷ Stays ∷ again l 21 (Lost t) ∷ Stays ∷ Stays ∷ [])
    × InPhase l v (Ending t) (Stays ∷ Stays ∷ Released ∷ again l 156 (Ending t) ∷ Stays ∷ Released ∷ [])
unfolding turn
phase-table l t v = (refl, refl, refl, refl, refl)

-- Q-6, SAY WHICH PLACE: `seek` is the search; `concern_of`, whom a record concerns, an order the one it means; `Numbered`, 5 or 7; `Says`,
-- the place told holds that partner, and the phase told is its phase
-- demand Q-6-2: "Finding a partner shall answer its place and its phase, or the lowest free place, or that there is none"
pub found : (p : Partner) (ps : List Place) (f : Found) → seek p ps ≡ f → FoundAs p ps f
found p ps (At i ph) = in-unit.Again.Found.seek-held p ps i ph
found p ps (Vacant i) = in-unit.Again.Found.seek-free p ps i
found p ps Full = in-unit.Again.Found.seek-none p ps

-- demand Q-6-3: "Refusals 5 and 7 then carry place and phase in the step's answer"
pub told-where : (s : State) (bytes : Bytes) (room : ℕ) → (concern_of s.last (reading bytes) ≡ nobody → ⊥)
    → Numbered (on_record s bytes room).code → Says s.places (concern_of s.last (reading bytes)) (on_record s bytes room).standing
told-where = in-unit.Again.Standings.on_record-says

-- demand Q-6-4: "7 for a hole, and every other answer, carries place 4 and phase 0"
pub told-nowhere : (s : State) (bytes : Bytes) (room : ℕ)
    → (concern_of s.last (reading bytes) ≡ nobody → (on_record s bytes room).standing ≡ nowhere)
    × ((Numbered (on_record s bytes room).code → ⊥) → (on_record s bytes room).standing ≡ nowhere)
told-nowhere s bytes room =
    (in-unit.Again.Standings.on_record-nobody s bytes room, in-unit.Again.Standings.on_record-silent s bytes room)

-- Q-7, A SECOND ENGINE, BUILT FROM THE SETS: `SameState`, the same other fields, and for every test on a set and a member (its partner,
-- tries and direction) as many places pass as members; `SameAnswer`, the same code and phase told, states that mean the same, and for every
-- test as many actions pass. `six_in`, the six sets; `set_in w`, the one named w. `unpacked`, the sets
-- as lists; `packed_sets`, as the code holds them; `sets_of`, `state_of`, a state of the one engine made one of the other. `set_ready`, not
-- refused with 11: the rules of the next line are among its tests, so what counts is that a cold start meets them and every step keeps
-- them
-- demand Q-7-1, Q-7-2, Q-7-4: "at most four members in all"; "Prove the sets disjoint, no RIU incoming"
pub sets-disjoint : (b : SetState) → set_ready b ≡ true → (size (six_in b) ≤ 4)
    × ((p : Partner) (w v : SetName) → has_member p (set_in w (six_in b)) ≡ true → has_member p (set_in v (six_in b))
    ≡ true → w ≡ v)
    × ((p : Partner) → has_member p (six_in b).incoming ≡ true → is_rbc p ≡ true)
sets-disjoint b ready =
    (in-sets.Invariants.four-members b ready, in-sets.Invariants.one_set b ready, in-sets.Invariants.riu-not-incoming b ready)

-- demand Q-7-4: of a cold start, and kept by every step
pub sets-ready : ((l : Limits) → set_ready (set_start l).state ≡ true)
    × ((b : SetState) (bytes : Bytes) (room : ℕ) → set_ready b ≡ true → set_ready (on_sets b bytes room).state ≡ true)
sets-ready = (in-sets.SameAnswers.cold-ready, in-sets.SameAnswers.on_sets-ready)

-- demand Q-7-5: "it and the place engine give the same refusal, sets, tries, other fields and collection of actions for every sound state
-- and event": where two states mean the same, so do the answers to any bytes in any room
pub same_answer : (s : State) (b : SetState) → sound s ≡ true → set_ready b ≡ true → SameState s (unpacked b)
    → (bytes : Bytes) (room : ℕ) → SameAnswer (on_record s bytes room) (on_sets b bytes room)
same_answer = in-sets.SameAnswers.same_answer

-- demand Q-7-5: and every sound state of the one engine means one of the other
pub some_same :
    ((s : State) → sound s ≡ true → (set_ready (packed_sets (sets_of s)) ≡ true)
    × SameState s (unpacked (packed_sets (sets_of s))))
    × ((b : SetState) → set_ready b ≡ true → (sound (state_of (unpacked b)) ≡ true)
    × SameState (state_of (unpacked b)) (unpacked b))
some_same = (in-sets.SameAnswers.some-sets, in-sets.SameAnswers.some-state)

-- Q-8, LOOK BEFORE APPLYING: `taken log`, the record at the front or the stop; `course`, the records applied; `tallied` counts them, from
-- `fresh s`, counts 0
-- demand Q-8-3: "The run is then the two in turn": it counts its course, which takes a whole record, applies it, and goes on behind it;
-- which stop ends it is the definition of `course`
pub run-in-turn : (s : State) (log : Bytes) (budget : ℕ)
    → ((run s log budget).code ≡ 0 → run s log budget ≡ tallied (fresh s) (course budget s log))
    × ((k : ℕ) (r : Reading) → taken log ≡ Whole k r → course (suc budget) s log
    ≡ applies (take k log) (on_record s (take k log) 20) (course budget (on_record s (take k log) 20).state (drop k log)))
run-in-turn s log budget = ((λ ok. (in-unit.Runs.InTurn.run-goes s log budget ok).0), in-unit.Runs.InTurn.course-next budget s log)

-- Q-9, JUDGE A COMPETITOR'S SHEET: `Ours l row sheet`, it is what our step produces for this row of event records from the cold start. A
-- judgement has the event records that are right, and a point: `at`, its offset; `due`, what our sheet has there (`AnEvent`, any event
-- record or the end); `stands`, Right, Wrong, Short or Missing, which `against due bytes` tells
-- demand Q-9-5: "the judge on top accepts exactly the sheets that our step would produce from the given cold start": for a row of records
pub judge-exact : (l : Limits) (sheet : Bytes)
    → (Accepts l sheet → (row : List Bytes) × Ours l row sheet × ((judgement l sheet).records ≡ length row))
    × ((row : List Bytes) → Ours l row sheet → judgement l sheet ≡ verdict_at (length row) (point_at Right (length sheet) AnEvent))
judge-exact l sheet = (
  (λ a. let o = in-judge.Again.Accepted.accepted-ours l sheet a.0 a.1 in (o.2.0, (o.0, o.1, o.2.1), o.2.2)),
  (λ row o. in-judge.Again.Accepted.ours-accepted l sheet row o.0 o.1 o.2),
)

-- demand Q-9-6, Q-9-7: "Otherwise it gives the offset of the first record that is wrong, short or missing": the bytes before it are the
-- front of a sheet of ours, and not what is due stands there (`FaultAt`); "a missing one counts at the end of the sheet"
pub judge-fault : (l : Limits) (sheet : Bytes) → (judgement l sheet).code ≡ 0 → is_right (judgement l sheet).point.stands ≡ false
    → FaultAt (cold l) sheet (judgement l sheet).point.at (judgement l sheet).point.due
    × ((judgement l sheet).point.stands ≡ against (judgement l sheet).point.due (drop (judgement l sheet).point.at sheet))
judge-fault = in-judge.Again.Faults.fault-found

-- Q-10, THE SHUNTER WITH TWO MODEMS: `ready`, sound with the rules of the queue, which the next line tells: what counts is that a cold
-- start meets them and every step keeps them; `line h`, who waits, longest first; `ahead i`, how many stand in front of place i;
-- `waits_through`, it waits before each step and after
-- demand Q-10-1, Q-10-7: "after each step no more than two modems are held, none is idle while a place waits"
pub two-modems : (h : Shunter) → ready h ≡ true → (modems h ≤ 2) × (1 ≤ length (line h) → modems h ≡ 2)
two-modems h good = (in-shunter.Service.modems-two h good, in-shunter.Service.none-idle h good)

-- demand Q-10-7: of a cold start, and kept by every step
pub shunter-ready : ((l : Limits) → ready (cold_shunter l).shunter ≡ true)
    × ((h : Shunter) (bytes : Bytes) (room : ℕ) → ready h ≡ true → ready (shunt h bytes room).shunter ≡ true)
shunter-ready = (in-shunter.Cases.cold-ready, in-shunter.Cases.shunt-ready)

-- demand Q-10-8: "a waiting place is served after at most as many modem releases as it has in front of it plus one, unless it leaves"
pub served-after : (h : Shunter) (i : ℕ) (history : List Bytes) → ready h ≡ true → ahead i (line h) + 1 ≤ modem_releases h history
    → waits_through i h history ≡ false
served-after = in-shunter.Service.served-after

-- demand Q-10-9, Q-10-10: "Demand 3 is still read from the core's steps; what 17 or 18 refuses never reaches it": the core's state is
-- that after the records that neither refused (`reached`)
pub core-after : (h : Shunter) (history : List Bytes) → ready h ≡ true
    → (shunter_after h history).state ≡ after h.state (shunter-along.reached h history)
core-after = in-shunter.CoreHistory.core-after

-- Q-11, ORDER OF TWO PARTNERS' EVENTS: `next s x`, the state after x; `alone s x`, its number, place, phase and actions; `Alike`, equal
-- but for the last known RBC; `Compared`, at most one is message 32; `Delivered`, a well-formed record of those kinds; `Differ`, of two
-- partners; the answer of x: exchange x and y
-- demand Q-11-2 to Q-11-4: two events "naming two different partners, give the same state in either order, and each its own same number
-- and actions"; "If both are message 32 the last known RBC of Q-2 is left out"
pub either_order : (s : State) → sound s ≡ true → (x y : Delivered) → Differ x y → (alone (next s x) y ≡ alone s y)
    × Alike (next (next s x) y) (next (next s y) x) × (Compared (x ∷ y ∷ []) → next (next s x) y ≡ next (next s y) x)
either_order s ok x y d = (in_either.either-answers s ok x y d, in_either.either-alike s ok x y d, in_either.either_same s ok x y d)

-- Q-12, JUMP INTO A LONG LOG: `whole_records log`, its records before the stop; `mark_many`, how many marks they have; `built_room`, the
-- lent room with the marks at its front; `LooksUp`, 0, the state and the offset of the run of n records, and n mod 256 steps
-- demand Q-12-4, Q-12-5, Q-12-7: "The state after record n, found from the nearest mark at or before n, equals the run of n records, and
-- it reports how many it stepped, at most 255"; "for marks built from this log and this cold start"
pub looked-up : (l : Limits) (log room : Bytes) (n : ℕ) → (built l log room).code ≡ 0 → n ≤ whole_records log
    → LooksUp l log n (looked_up l log (built_room l log room) n)
looked-up = in-marks.Again.Found.lookup-built

-- demand Q-12-6: "Marks extended after an append equal marks built afresh"
pub marks-extended : (l : Limits) (log more room : Bytes) → length (log ++ more) ≤ 1_048_576 → (built l log room).code ≡ 0
    → 47 * mark_many (log ++ more) ≤ length room → ((built l (log ++ more) room).code ≡ 0)
    × (extended l (log ++ more) (built l log room).marks (built_room l log room) ≡ built l (log ++ more) room)
    × (extended_room l (log ++ more) (built l log room).marks (built_room l log room) ≡ built_room l (log ++ more) room)
marks-extended = in-marks.Again.Afresh.extend-afresh

-- Q-13, RESCUE A SPOILT IMAGE: `rescue`, the answer; `rescued`, the image after it; `told`, the offsets that it lists
-- demand Q-13-8: "The result is sound"
pub rescue-reads : (image : Bytes) → (rescue image).code ≡ 0
    → ((read_a2 (rescued image)).code ≡ 0) × (sound (read_a2 (rescued image)).state ≡ true)
rescue-reads = in_image.Again.Rescues.rescue-reads

-- demand Q-13-9: "a sound image is unchanged with an empty list"
pub rescue-sound : (image : Bytes) → (read_a2 image).code ≡ 0
    → ((rescue image).code ≡ 0) × (rescued image ≡ image) × (told (rescue image) ≡ [])
rescue-sound = in_image.Again.Rescues.rescue-sound

-- demand Q-13-10: "a second rescue changes nothing"
pub rescue-twice : (image : Bytes) → (rescued (rescued image) ≡ rescued image) × (told (rescue (rescued image)) ≡ [])
rescue-twice = in_image.Again.Rescues.rescue-twice

-- Q-14, CALL THE CORE FROM THE C FIRMWARE: `seen_after`, what C sees after a call, and `seen_of o` what it should see of a step o: the
-- number, the image, the buffer. A `Board` is a cold start and a row of calls: `seen_by`, what C sees; `last_of`, its last image. Demand 3
-- counted from what C sees, sentence by sentence, are laws (docs/PROMISES.md)
-- demand Q-14-2 to Q-14-4: "the number of actions or minus the refusal; the image then holds the next state. It equals reading the image,
-- one step and writing it"
pub call-steps : (image bytes buffer : Bytes) → 20 ≤ length buffer → (read_a2 image).code ≡ 0
    → seen_after image bytes buffer ≡ seen_of (on_record (read_a2 image).state bytes (length buffer)) image buffer
call-steps = in-firmware.Again.Answers.step-reads

-- demand Q-14-5: "A refusal writes neither image nor actions"
pub call_kept : (image bytes buffer : Bytes) → is_accepted (seen_after image bytes buffer).number ≡ false
    → ((seen_after image bytes buffer).image ≡ image) × ((seen_after image bytes buffer).actions ≡ buffer)
call_kept = in-firmware.Again.Answers.step-refused

-- demand Q-14-6: "Demands 2 and 3 are read through the images, starting from one that a cold start wrote": the last image is that of the
-- state after the same records, and reads as it; the numbers returned are those of the steps (`trace`): the actions and the accepted
-- records of demand 3 are counted from them; 22s and partners from the buffers, a law (`firmware:bytes-follow`)
pub board-follows : (b : Board)
    → (last_of b ≡ image_a2 (after (cold_state b.limits) (records_by b)))
    × (read_a2 (last_of b) ≡ record { code = 0; state = after (cold_state b.limits) (records_by b) })
    × (map (λ (x : Seen). x.number) (seen_by b) ≡ map returned (trace (cold_state b.limits) (records_by b)))
board-follows b =
    let l = b.limits in
    let ranges = (in-unit.Again.Starts.cold_start-accepted l).0 b.begun in
    let image = in-firmware.Again.Seen.image-follows l.lowest l.highest l.tries ranges in
    let numbers = in-firmware.Again.Seen.numbers-follow l.lowest l.highest l.tries ranges in
    let images = image b.room b.long b.history b.enough in
    (images.0, images.1, numbers b.room b.long b.history b.enough)

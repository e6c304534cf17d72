-- A law of every step is one of each shape that a step's outcome can have, and one of every record is one of every refusal and of
-- every step.
-- Defines: StepRefusal, RecordRefusal, InRange, ToldOf, Told, Shape.
-- Proves: step-numbered, told_none, shape, by-reading, on-record, by-concern.
use mathlib.Core.Path.{◌≡◌, refl, sym, ap, subst}
use mathlib.Core.Logic.{◌⊎◌, inl, inr}
use mathlib.Core.Bool.{Bool, true, false, ◌&&◌, not}
use mathlib.Core.List.{List, []}
use Prim.Native.Nat.{ℕ, ◌≤◌}
use native.Mathlib.Omega.{arith}
use lib.Dec.{leb, eqb}
use lib.ListN.{get_or}
use borrow.Author.Tests.{leb-true}
use Rattle.record.specs.Partners.{is_rbc, partner_ok, named_ok}
use Rattle.record.specs.Records.{highest_level, mission_under_way, mission_ended, reading}
use Rattle.record.specs.Ranges.{event_ok, partner_event_ok, reading_ok}
use Rattle.wire.specs.Refusals as refusal
use Rattle.record.specs.declared.partner.Partner.{Partner}
use Rattle.record.specs.declared.event.Cause.{Cause}
use Rattle.record.specs.declared.event.Cause.TheVariants.{StartOfMission, Trackside, ModeChange, ManualLevel, HoleEnd}
use Rattle.record.specs.declared.event.PartnerEvent.{PartnerEvent}
use Rattle.record.specs.declared.event.Event.{Event}
use Rattle.record.specs.declared.event.Event.TheVariants.{Level, Mission, Mode, Hole, Order, EndAll, Call, Named}
use Rattle.record.specs.Readings.{Reading}
use Rattle.record.specs.Readings.{Meant, Refused}
use Rattle.wire.proofs.Tests.{and_left, and_right, and_both, cond-case, true-false}
use Rattle.record.proofs.Ranges.{reading-ok}
use Rattle.place.specs.Places.{vacant}
use Rattle.place.specs.Table.{turn, takes}
use Rattle.place.proofs.Holdings.{holds_in, phase_held, holding_turn}
use Rattle.place.specs.declared.phase.Phase.{Phase}
use Rattle.place.specs.declared.place.Holding.{Holding}
use Rattle.place.specs.declared.place.Holding.TheVariants.{Free, Held}
use Rattle.place.specs.declared.place.Place.{Place}
use Rattle.place.specs.declared.limits.Limits.{Limits}
use Rattle.place.specs.declared.turn.Closing.{Closing}
use Rattle.place.specs.declared.turn.Closing.TheVariants.{Every}
use Rattle.unit.specs.Lasts.{meant}
use Rattle.unit.proofs.Meant.{meant-named}
use Rattle.unit.specs.States.{seek, nowhere, standing, train_ok, marks_ok, sound}
use Rattle.unit.specs.Steps.{Outcome, refused_at, refused, done, with_train, with_marks, mark_hole, hole_taken}
use Rattle.unit.specs.Steps.{spend, displaced, close_places, taken_in, ordered_at, called_at, turned_at, step}
use Rattle.unit.specs.Searching.{admitted, named_at}
use Rattle.unit.specs.Standings.{Numbered, Concern, nobody, order_to, call_of, naming, concern, concern_of}
use Rattle.unit.specs.OnRecords.{action_room, on_reading, on_record}
use Rattle.unit.specs.declared.state.Train.{Train}
use Rattle.unit.specs.declared.state.Marks.{Marks}
use Rattle.unit.specs.declared.state.State.{State}
use Rattle.unit.specs.declared.search.Found.{Found}
use Rattle.unit.specs.declared.search.Found.TheVariants.{At, Vacant, Full}
use Rattle.unit.specs.declared.search.Standing.{Standing}
use Rattle.unit.proofs.Searches.{found_ok}
use Rattle.unit.proofs.ByFound.{order-by, call_by, named-found}

-- the numbers with which a step on an event may be refused, 4 to 9 and 15
abbrev pub StepRefusal : ℕ → Type 0
StepRefusal r = ((refusal.not_in_force ≤ r) × (r ≤ refusal.call_from_riu)) ⊎ (r ≡ refusal.none_known)

-- none of them is 0
pub step-numbered : (r : ℕ) → StepRefusal r → r ≡ refusal.accepted → ⊥
step-numbered r (inl within) none = omega arith
step-numbered r (inr is) none = omega arith

-- the numbers with which a record may be refused before it is stepped, 1 to 11
abbrev pub RecordRefusal : ℕ → Type 0
RecordRefusal r = (refusal.wrong_length ≤ r) × (r ≤ refusal.not_sound)

-- a train and marks that are in their ranges where those of the state and the fields of the event are
abbrev pub InRange : State → Event → Train → Marks → Type 0
InRange s e t m =
    train_ok s.train ≡ true
    → marks_ok s.marks ≡ true
    → event_ok e ≡ true
    → (train_ok t ≡ true) × (marks_ok m ≡ true)

-- the place and phase that an answer with this number carries: with 5 and 7 those in which the partner was found
pub data ToldOf (ps : List Place) (p : Partner) (r : ℕ) : Standing → Type 0 where
  says : (i : ℕ) (ph : Phase)
      → seek p ps ≡ At i ph
      → Numbered r
      → ToldOf ps p r (standing (At i ph))
  silent :
      (r ≡ refusal.has_place → ⊥)
      → (r ≡ refusal.not_taken → ⊥)
      → ToldOf ps p r nowhere

abbrev pub Told : List Place → Concern → ℕ → Standing → Type 0
Told ps nobody r w = w ≡ nowhere
Told ps (order_to p) r w = ToldOf ps p r w
Told ps (call_of p) r w = ToldOf ps p r w
Told ps (naming p e) r w = ToldOf ps p r w

-- with another number than 5 and 7 nothing is told, whomever the event concerns
pub told_none : (ps : List Place) (c : Concern) (r : ℕ)
    → (r ≡ refusal.has_place → ⊥)
    → (r ≡ refusal.not_taken → ⊥)
    → Told ps c r nowhere
told_none ps nobody r five seven = refl
told_none ps (order_to p) r five seven = silent five seven
told_none ps (call_of p) r five seven = silent five seven
told_none ps (naming p e) r five seven = silent five seven

-- the shapes of a step's outcome, by whom its event concerns
pub data Shape (s : State) (e : Event) : Concern → Outcome → Type 0 where
  -- "A refused step .. returns its number, the state as given, counts 0"
  refuses : {c : Concern} {w : Standing} (r : ℕ)
      → StepRefusal r
      → Told s.places c r w
      → Shape s e c (refused_at r w s)
  -- train and marks noted
  notes : (t : Train) (m : Marks)
      → InRange s e t m
      → Shape s e nobody (done (with_marks (with_train s t) m) [])
  -- every place closed that is not Ending
  closes_every : (t : Train)
      → InRange s e t s.marks
      → Shape s e nobody (close_places Every (with_train s t))
  -- a partner taken in after a closing, at the place that was free before it
  orders : (p : Partner) (which : Closing) (m : Marks) (i : ℕ)
      → InRange s e s.train m
      → (event_ok e ≡ true → named_ok p ≡ true)
      → seek p s.places ≡ Vacant i
      → Shape s e (order_to p) (taken_in (close_places which (with_marks s m)) i p)
  -- an RBC that calls taken in
  calls : (p : Partner) (i : ℕ)
      → (event_ok e ≡ true → named_ok p ≡ true)
      → is_rbc p ≡ true
      → seek p s.places ≡ Vacant i
      → Shape s e (call_of p) (called_at s p i)
  -- a turn of the place that a partner has
  turns : (p : Partner) (event : PartnerEvent) (i : ℕ) {ph : Phase}
      → (event_ok e ≡ true → named_ok p ≡ true)
      → seek p s.places ≡ At i ph
      → takes (holding_turn s.limits (get_or s.places i vacant).holding event) ≡ true
      → Shape s e (naming p event) (turned_at s i p (holding_turn s.limits (get_or s.places i vacant).holding event))

-- "'inside a hole' and 'hole end' are not both 1", after an order's mark is cleared and after a hole
spend-marks : (cause : Cause) (m : Marks) → marks_ok m ≡ true → marks_ok (spend cause m) ≡ true
spend-marks StartOfMission m ok = ok
spend-marks Trackside m ok = ok
spend-marks ModeChange m ok = ok
spend-marks ManualLevel m ok = ok
spend-marks HoleEnd m ok = by m.inside
  where
    by : (b : Bool) → not (b && false) ≡ true
    by true = refl
    by false = refl

hole-marks : (entered : Bool) → not (entered && not entered) ≡ true
hole-marks true = refl
hole-marks false = refl

-- the place that holds a partner turns by the phase that it was found in
turn-held : (l : Limits) (e : PartnerEvent) (p : Partner) (ph : Phase) (k : Holding)
    → holds_in p k ≡ true
    → phase_held k ≡ ph
    → turn l ph e ≡ holding_turn l k e
turn-held l e p ph Free held is = true-false false held refl
turn-held l e p ph (Held d q r) held is = ap (λ x. turn l x e) (sym is)

module _ (s : State) where
  ordered-shape : (q p : Partner) (accepting : Bool) (cause : Cause)
      → (partner_ok q ≡ true → named_ok p ≡ true)
      → (found : Found)
      → seek p s.places ≡ found
      → Shape s (Order q accepting cause) (order_to p) (admitted s (ordered_at s p accepting cause) found)
  ordered-shape q p accepting cause named (At i ph) found = refuses refusal.has_place (inl (omega arith)) (says i ph found (inl refl))
  ordered-shape q p accepting cause named (Vacant i) found =
      orders p (displaced p accepting) (spend cause s.marks) i
      (λ train marks ok. (train, spend-marks cause s.marks marks))
      named
      found
  ordered-shape q p accepting cause named Full found =
      refuses refusal.all_taken (inl (omega arith))
      (told_none s.places (order_to p) refusal.all_taken (λ h. omega arith) (λ h. omega arith))

  called-shape : (p : Partner) → is_rbc p ≡ true → (found : Found)
      → seek p s.places ≡ found
      → Shape s (Call p) (call_of p) (admitted s (called_at s p) found)
  called-shape p rbc (At i ph) found = refuses refusal.has_place (inl (omega arith)) (says i ph found (inl refl))
  called-shape p rbc (Vacant i) found = calls p i (λ ok. ok) rbc found
  called-shape p rbc Full found =
      refuses refusal.all_taken (inl (omega arith))
      (told_none s.places (call_of p) refusal.all_taken (λ h. omega arith) (λ h. omega arith))

  named-shape : (p : Partner) (e : PartnerEvent) (found : Found)
      → seek p s.places ≡ found
      → Shape s (Named p e) (naming p e) (named_at s p e found)
  named-shape p e (At i ph) found =
      let ok = found_ok p s.places (At i ph) found in
      let same = turn-held s.limits e p ph (get_or s.places i vacant).holding ok.1 ok.2 in
      rw same (
      cond-case (Shape s (Named p e) (naming p e)) (takes (holding_turn s.limits (get_or s.places i vacant).holding e)) _ _
      (λ taken. turns p e i (and_left (named_ok p) (partner_event_ok e)) found taken)
      (λ other. refuses refusal.not_taken (inl (omega arith)) (says i ph found (inr refl)))
      )
  named-shape p e (Vacant i) found =
      refuses refusal.has_none (inl (omega arith))
      (told_none s.places (naming p e) refusal.has_none (λ h. omega arith) (λ h. omega arith))
  named-shape p e Full found =
      refuses refusal.has_none (inl (omega arith))
      (told_none s.places (naming p e) refusal.has_none (λ h. omega arith) (λ h. omega arith))

  -- every step has one of the shapes
  pub shape : (e : Event) → Shape s e (concern s.last e) (step s e)
  unfolding step
  shape (Level level manual) =
      notes (record { level = level; mission = s.train.mission }) _
      (λ train marks ok. (and_both (leb level highest_level) _ ok (and_right (leb s.train.level highest_level) _ train), marks))
  shape (Mission mission) =
      let t : Train = record { level = s.train.level; mission = mission } in
      let within : InRange s (Mission mission) t s.marks =
      λ train marks ok. (and_both _ (leb mission mission_under_way) (and_left (leb s.train.level highest_level) _ train) ok, marks) in
      cond-case (Shape s (Mission mission) nobody) (eqb mission mission_ended) _ _
      (λ ended. closes_every t within)
      (λ other. notes t s.marks within)
  shape Mode = notes s.train _ (λ train marks ok. (train, marks))
  shape (Hole entered) =
      cond-case (Shape s (Hole entered) nobody) (hole_taken s.marks entered) _ _
      (λ taken. notes s.train (mark_hole s.marks entered) (λ train marks ok. (train, hole-marks entered)))
      (λ other. refuses refusal.not_taken (inl (omega arith)) refl)
  shape (Order p accepting cause) =
      let q = meant s.last p in
      order-by s p accepting cause (Shape s (Order p accepting cause) (order_to q))
      (λ in-force known. ordered-shape p q accepting cause (meant-named s.last p known) (seek q s.places) refl)
      (refuses refusal.none_known (inr refl) (told_none s.places (order_to q) refusal.none_known (λ h. omega arith) (λ h. omega arith)))
      (refuses refusal.not_in_force (inl (omega arith))
      (told_none s.places (order_to q) refusal.not_in_force (λ h. omega arith) (λ h. omega arith)))
  shape EndAll = closes_every s.train (λ train marks ok. (train, marks))
  shape (Call p) =
      call_by s p (Shape s (Call p) (call_of p))
      (λ rbc. called-shape p rbc (seek p s.places) refl)
      (refuses refusal.call_from_riu (inl (omega arith))
      (told_none s.places (call_of p) refusal.call_from_riu (λ h. omega arith) (λ h. omega arith)))
  shape (Named p e) =
      subst (Shape s (Named p e) (naming p e)) (sym (named-found s p e)) (named-shape p e (seek p s.places) refl)

  -- a law of a step on a record, by what the record and the state are refused for
  pub by-reading : (P : Outcome → Type 0) (bytes : List ℕ) (room : ℕ)
      → P (refused refusal.no_room s)
      → P (refused refusal.not_sound s)
      → ((r : ℕ) → reading bytes ≡ Refused r → refusal.wrong_length ≤ r → r ≤ refusal.out_of_range → P (refused r s))
      → ((e : Event) → reading bytes ≡ Meant e → sound s ≡ true → event_ok e ≡ true → P (step s e))
      → P (on_record s bytes room)
  unfolding on_record
  by-reading P bytes room no_room_case not_sound_case unread steps =
      cond-case P (leb action_room room) _ _
      (λ enough. cond-case P (sound s) _ _ (by (reading bytes) refl (reading-ok bytes)) (λ unsound. not_sound_case))
      (λ small. no_room_case)
    where
      by : (r : Reading) → reading bytes ≡ r → reading_ok r ≡ true → sound s ≡ true → P (on_reading s r)
      by (Meant e) is ok good = steps e is good ok
      by (Refused r) is ok good =
          unread r is
          (leb-true refusal.wrong_length r (and_left (leb refusal.wrong_length r) (leb r refusal.out_of_range) ok))
          (leb-true r refusal.out_of_range (and_right (leb refusal.wrong_length r) (leb r refusal.out_of_range) ok))

  -- what holds of every refusal and of every step on an event holds of every record and room
  pub on-record : (P : Outcome → Type 0) (bytes : List ℕ) (room : ℕ)
      → ((r : ℕ) → RecordRefusal r → P (refused r s))
      → ((e : Event) → reading bytes ≡ Meant e → sound s ≡ true → event_ok e ≡ true → P (step s e))
      → P (on_record s bytes room)
  on-record P bytes room refusals =
      by-reading P bytes room (refusals refusal.no_room (omega arith)) (refusals refusal.not_sound (omega arith))
      (λ r is low high. refusals r (omega arith))

  -- the same of a law that goes by whom the record concerns
  pub by-concern : (P : Concern → Outcome → Type 0) (bytes : List ℕ) (room : ℕ)
      → ((c : Concern) (r : ℕ) → RecordRefusal r → P c (refused r s))
      → ((e : Event) → P (concern s.last e) (step s e))
      → P (concern_of s.last (reading bytes)) (on_record s bytes room)
  by-concern P bytes room refusals steps =
      let c = concern_of s.last (reading bytes) in
      on-record (P c) bytes room (refusals c) (λ e is good ok. rw is (steps e))

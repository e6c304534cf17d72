-- The numbers in a sheet of ours: of an action one of six, of an answer 0, 3 to 9 or 15; and how long a record of such a kind is.
-- Defines: Sendable, Measured.
-- Proves: on_record-sendable, six, length_by-some, dues-measured, cold-good, on_record-coded.
use mathlib.Core.Path.{◌≡◌, refl, sym, ap, subst, ◌∙◌}
use mathlib.Core.Bool.{Bool, true, false, cond, ◌||◌}
use mathlib.Core.List.{List, [], ◌∷◌, ◌++◌, map}
use Prim.Native.Nat.{ℕ, ◌≤◌}
use native.Mathlib.Omega.{arith}
use lib.Dec.{eqb, ltb, lit≤}
use lib.ListN.{length, get_or}
use borrow.Author.Tests.{eqb-true, ltb-true}
use Rattle.wire.specs.Bytes.{byte}
use Rattle.wire.specs.Refusals as refusal
use Rattle.wire.proofs.Tests.{true-false, cond-case, cond-holds, All}
use Rattle.record.specs.Records.{known, length_of, reading}
use Rattle.record.specs.Records.{row_of}
use Rattle.record.specs.Rows.{fields}
use Rattle.record.specs.declared.partner.Partner.{Partner}
use Rattle.record.specs.declared.event.Event.{Event}
use Rattle.record.specs.declared.event.PartnerEvent.{PartnerEvent}
use Rattle.record.specs.Readings.{Meant, Refused}
use Rattle.record.proofs.ByKind.{read-fields}
use Rattle.place.specs.Places.{vacant, tries}
use Rattle.place.specs.Table.{table, closing, again, turn, numbers, closes, one_more, judged}
use Rattle.place.specs.Table.{request, release, incompatible, initiate, terminate, established}
use Rattle.place.proofs.ByRow.{by_row, judged-case}
use Rattle.place.proofs.Holdings.{holding_turn, holding_closed_by}
use Rattle.place.specs.declared.limits.Limits.{Limits}
use Rattle.place.specs.declared.phase.Phase.{Phase}
use Rattle.place.specs.declared.phase.Phase.TheVariants.{Connecting, Contacting, Open, Lost, Ending}
use Rattle.place.specs.declared.place.Holding.{Holding}
use Rattle.place.specs.declared.place.Holding.TheVariants.{Free, Held}
use Rattle.place.specs.declared.place.Place.{Place}
use Rattle.place.specs.declared.turn.Turn.TheVariants.{Stays, Released, Sends}
use Rattle.place.specs.declared.turn.Closing.{Closing}
use Rattle.place.specs.declared.turn.Closing.TheVariants.{Every}
use Rattle.unit.specs.States.{limits_ok, sound, no_limits, cold, cold_start}
use Rattle.unit.specs.Standings.{Concern}
use Rattle.unit.specs.Steps.{Outcome, act, actions_in, closing_actions}
use Rattle.unit.specs.OnRecords.{action_size, action_room, on_reading, on_record}
use Rattle.unit.specs.RunWords.{run_code}
use Rattle.unit.specs.declared.state.State.{State}
use Rattle.unit.specs.declared.start.Started.{Started}
use Rattle.unit.specs.declared.answer.Action.{Action}
use Rattle.unit.proofs.Shapes.{Shape, refuses, notes, closes_every, orders, calls, turns, shape, on-record}
use Rattle.unit.proofs.OnBytes.{on-reading}
use Rattle.unit.proofs.Starts.{cold-sound}
use Rattle.unit.proofs.Runs.Codes.{step-code}
use Rattle.judge.specs.declared.due.Due.{Due}
use Rattle.judge.specs.declared.due.Due.TheVariants.{TheAction}
use Rattle.judge.specs.Sheets.{answer_kind, due_bytes, dues, is_record}
use Rattle.judge.specs.FrontWords.{answer_size, sendable, length_by}
use Rattle.judge.proofs.Fronts.{record-known, record-long}

-- numbers, and actions, that are all among the six
abbrev Sent : List ℕ → Type 0
Sent = All (λ n. sendable n ≡ true)

abbrev pub Sendable : List Action → Type 0
Sendable = All (λ a. sendable a.number ≡ true)

closing-sent : (ph : Phase) → Sent (numbers (closing ph))
closing-sent (Connecting t) = (refl, tt)
closing-sent (Contacting t) = (refl, tt)
closing-sent Open = (refl, tt)
closing-sent (Lost t) = (refl, tt)
closing-sent (Ending t) = tt

again-sent : (l : Limits) (number : ℕ) (ph : Phase) → sendable number ≡ true → Sent (numbers (again l number ph))
again-sent l number ph is =
    cond-holds (λ t. Sent (numbers t)) (ltb (tries ph) l.tries) (Sends number (one_more ph)) Released (is, tt) (refl, tt)

judged-sent : (l : Limits) (v : ℕ) → Sent (numbers (judged l v))
judged-sent l v = judged-case (λ t. Sent (numbers t)) l v (refl, tt) (refl, (refl, tt))

-- a turn of a place
turn-sent : (l : Limits) (ph : Phase) (e : PartnerEvent) → Sent (numbers (turn l ph e))
turn-sent l = by_row (λ ph t. Sent (numbers t)) l row (λ ph. tt)
  where
    row : (ph : Phase) (v : ℕ) → All (λ t. Sent (numbers t)) (table l v ph)
    row (Connecting t) v = ((refl, tt), ((refl, tt), (tt, (again-sent l 21 (Connecting t) refl, (tt, (tt, tt))))))
    row (Contacting t) v = ((refl, tt), (tt, ((refl, tt), (again-sent l 155 (Contacting t) refl, (judged-sent l v, (tt, tt))))))
    row Open v = ((refl, tt), (tt, ((refl, tt), (tt, (tt, (tt, tt))))))
    row (Lost t) v = ((refl, tt), (tt, (tt, (again-sent l 21 (Lost t) refl, (tt, (tt, tt))))))
    row (Ending t) v = (tt, (tt, ((refl, tt), (again-sent l 156 (Ending t) refl, (tt, ((refl, tt), tt))))))

for-partner : (p : Partner) (ks : List ℕ) → Sent ks → Sendable (map (act p) ks)
for-partner p [] all = tt
for-partner p (k ∷ ks) all = (all.0, for-partner p ks all.1)

joined : (xs ys : List Action) → Sendable xs → Sendable ys → Sendable (xs ++ ys)
joined [] ys one two = two
joined (a ∷ xs) ys one two = (one.0, joined xs ys one.1 two)

-- a closing
closing-sendable : (which : Closing) (ps : List Place) → Sendable (closing_actions which ps)
unfolding closing_actions
closing-sendable which [] = tt
closing-sendable which (p ∷ ps) =
    joined (actions_in p.holding (holding_closed_by which p.holding)) (closing_actions which ps) (by p.holding)
    (closing-sendable which ps)
  where
    by : (k : Holding) → Sendable (actions_in k (holding_closed_by which k))
    by Free = tt
    by (Held d ph q) =
        for-partner q (numbers (holding_closed_by which (Held d ph q)))
        (cond-holds (λ t. Sent (numbers t)) (closes which ph q) (closing ph) Stays (closing-sent ph) tt)

-- each step's actions have one of the six numbers
module _ (s : State) where
  held-sent : (k : Holding) (e : PartnerEvent) → Sent (numbers (holding_turn s.limits k e))
  held-sent Free e = tt
  held-sent (Held d ph p) e = turn-sent s.limits ph e

  shape-sendable : {e : Event} {c : Concern} {o : Outcome} → Shape s e c o → Sendable o.actions
  shape-sendable (refuses r may said) = tt
  shape-sendable (notes t m within) = tt
  shape-sendable (closes_every t within) = closing-sendable Every s.places
  shape-sendable (orders p which m i within ok found) =
      joined (closing_actions which s.places) (act p request ∷ []) (closing-sendable which s.places) (refl, tt)
  shape-sendable (calls p i ok rbc found) = (refl, tt)
  shape-sendable (turns p event i ok found taken) =
      let k = (get_or s.places i vacant).holding in
      for-partner p (numbers (holding_turn s.limits k event)) (held-sent k event)

  pub on_record-sendable : (bytes : List ℕ) (room : ℕ) → Sendable (on_record s bytes room).actions
  on_record-sendable bytes room =
      on-record s (λ o. Sendable o.actions) bytes room (λ r some. tt) (λ e is good ok. shape-sendable (shape s e))

-- one number more that it may be
one_of : (P : ℕ → Type 0) (n k : ℕ) (rest : Bool) → P k → (rest ≡ true → P n) → (eqb n k || rest) ≡ true → P n
one_of P n k rest here later is = by (eqb n k) refl is
  where
    by : (b : Bool) → eqb n k ≡ b → (b || rest) ≡ true → P n
    by true same h = subst P (sym (eqb-true n k same)) here
    by false other h = later h

-- the six, one by one
pub six : (P : ℕ → Type 0)
    → P request
    → P release
    → P incompatible
    → P initiate
    → P terminate
    → P established
    → (n : ℕ)
    → sendable n ≡ true
    → P n
six P a b c d e f n =
    one_of P n request _ a
    (one_of P n release _ b
    (one_of P n incompatible _ c
    (one_of P n initiate _ d (one_of P n terminate _ e (λ last. subst P (sym (eqb-true n established last)) f)))))

-- a record has a byte at least
pub length_by-some : (kind : ℕ) → 1 ≤ length_by kind
length_by-some kind =
    cond-case (λ n. 1 ≤ n) (known kind) (length_of kind) _
    (λ is. ltb-true 0 (length_of kind) is)
    (λ other. cond-holds (λ n. 1 ≤ n) (eqb kind answer_kind) answer_size _ (omega arith)
    (cond-holds (λ n. 1 ≤ n) (sendable kind) action_size 1 (omega arith) (omega arith)))

-- and one that is due behind an event record is as long as its kind says
abbrev pub Measured : Due → Type 0
Measured d = length_by (byte (due_bytes d) 0) ≡ length (due_bytes d)

pub dues-measured : (s : State) (bytes : List ℕ) → All Measured (dues (on_record s bytes action_room))
dues-measured s bytes = (refl, by (on_record s bytes action_room).actions (on_record-sendable s bytes action_room))
  where
    by : (acts : List Action) → Sendable acts → All Measured (map TheAction acts)
    by [] all = tt
    by (a ∷ acts) all = (six (λ n. length_by n ≡ action_size) refl refl refl refl refl refl a.number all.0, by acts all.1)

-- a cold start is sound
pub cold-good : (l : Limits) → limits_ok l ≡ true → sound (cold l) ≡ true
unfolding cold_start
cold-good l ok =
    ap (λ b. sound (cond b started (record { code = refusal.bad_limits; state = cold no_limits })).state) (sym ok) ∙ cold-sound l
  where
    started : Started
    started = record { code = refusal.accepted; state = cold l }

-- the answer to an event record of its kind's length
pub on_record-coded : (s : State) (bytes : List ℕ)
    → sound s ≡ true
    → is_record bytes ≡ true
    → run_code (on_record s bytes action_room).code ≡ true
on_record-coded s [] good is = true-false false is refl
on_record-coded s (kind ∷ rest) good is =
    let bytes = kind ∷ rest in
    let read : reading bytes ≡ fields (row_of kind) bytes =
    sym
    (read-fields bytes (λ none. omega arith) (length_of kind) refl (ltb-true 0 (length_of kind) (record-known kind rest is))
    (record-long kind rest is)) in
    ap (λ o. run_code o.code) (on-reading s bytes action_room (lit≤ tt) (fields (row_of kind) bytes) good read)
    ∙ cond-holds (λ r. run_code (on_reading s r).code ≡ true) ((row_of kind).ranges bytes) (Meant ((row_of kind).means bytes))
    (Refused refusal.out_of_range)
    (step-code s ((row_of kind).means bytes))
    refl

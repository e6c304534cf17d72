-- The records passed are the run so far.
use Rattle.std.proofs.Common.{None, ◌≡◌, ℕ, ◌+◌, ◌-◌, ◌≤◌, ◌<◌, true, List, length, set, drop, length-drop, refl}
use Rattle.std.proofs.Common.{sym}
use Rattle.std.proofs.Common.{ap, subst, ◌∙◌, arith}
use Rattle.wire.specs.Refusals.{number}
use Rattle.wire.proofs.Distinct.{refused-some}
use Rattle.record.specs.Ranges.{reading_ok}
use Rattle.record.specs.Takes.{longest_log, take_one}
use Rattle.record.specs.Takes.{Whole}
use Rattle.record.specs.Readings.{Reading, told_reading}
use Rattle.record.specs.Stops.{told_front}
use Rattle.unit.specs.States.{sound}
use Rattle.unit.specs.Steps.{Outcome, refused, step}
use Rattle.unit.specs.OnRecords.{on_reading}
use Rattle.unit.specs.Forms.{most_actions}
use Rattle.unit.specs.Changes.{sent_for, made, carried}
use Rattle.unit.specs.Runs.{totalled, counted, go}
use Rattle.unit.specs.Counting.{Below, Bounded, most_total, tally_of}
use Rattle.unit.specs.declared.change.Change.{Change}
use Rattle.unit.specs.declared.run.Tally.{Tally}
use Rattle.unit.proofs.Facts.{sound-facts}
use Rattle.unit.proofs.Settling.{carried-made}
use Rattle.unit.proofs.Runs.Tallies.{below_more, counted-made, counted-refused, counted-kept}
use Rattle.unit.proofs.Runs.Applied.{applied-kept, none-is, applied-set, applied-noted}
use Rattle.unit.proofs.Runs.Fronts.{front-stops, front-next}
use Rattle.unit.proofs.Closings.{sent-closings}
use Rattle.unit.proofs.Runs.Going.{whole_ready, run_on}
use Rattle.unit.proofs.run.go.Goals as goal
use Rattle.unit.proofs.run.go.Goals.{In-Next, After-change-change}

-- the record that stands at the front of the log
module _ (c : In-Next) where
  abbrev log : List ℕ
  log = c.args.log.now

  abbrev t : Tally
  t = tally_of c.loop-stop.rest c.loop-stop.places

  abbrev log-left : List ℕ
  log-left = drop t.offset log

  abbrev k : ℕ
  k = c.in-Next.length

  abbrev r : Reading
  r = told_reading c.in-Next.reading

  stands : (0 < length log-left) × (t.read ≡ c.args.budget → ⊥) × (take_one log-left ≡ Whole k r)
  stands = front-next t.read c.args.budget log-left k r (sym c.front.ensures ∙ ap told_front c.in-Next.is)

  under : t.offset < length log
  under =
      let long = length-drop t.offset log in
      omega (arith, stands.0, long)

  ready : Bounded t × (t.offset + k ≤ longest_log) × (sound t.state ≡ true) × (reading_ok r ≡ true)
  ready = whole_ready log t k r under c.requires.0 stands.2 c.loop-stop.invariant.1 c.loop-stop.invariant.2

  again : (u : Tally)
      → u ≡ counted t k (on_reading t.state r)
      → (u.offset ≤ length log)
      × Bounded u
      × (sound u.state ≡ true)
      × (u.read ≤ c.args.budget)
      × (go c.args.budget (tally_of c.fresh-rest.result c.args.state.places) log
      ≡ go (c.args.budget - u.read) u (drop u.offset log))
  again u applied =
      let inv = c.loop-stop.invariant in
      run_on log t k r under c.requires.0 stands.2 inv.2 u applied c.args.budget _ inv.1 inv.3 stands.1 inv.4

  refusing : (t.offset + k ≤ longest_log) × (t.read ≤ t.offset) × (t.refused ≤ t.read)
  refusing = (ready.1, ready.0.read, ready.0.refused)

  below : Below most_total t.totals
  below = below_more (omega (arith, ready.1, ready.0.read)) ready.0.totals

  accepting : (t.offset + k ≤ longest_log) × (t.read ≤ t.offset) × Below (most_total + most_actions) t.totals
  accepting = (ready.1, ready.0.read, below_more (omega arith) below)

  four : length t.state.places ≡ 4
  four = (sound-facts t.state c.loop-stop.invariant.2).four

-- what means no event
pub refuse-rest-requires : goal.refuse-rest-requires
refuse-rest-requires c = refusing (goal.at.refuse-rest-requires c).In-Next

pub loop-stop-preserved-in-Err : goal.loop-stop-preserved-in-Err
loop-stop-preserved-in-Err c =
    let first = (goal.at.loop-stop-preserved-in-Err c).In-Next in
    let refusal = c.in-Err.field-0 in
    let ps = c.loop-stop.places in
    again first (tally_of c.refuse-rest.result ps)
    (ap (λ x. tally_of x ps) c.refuse-rest.ensures
    ∙ counted-refused c.loop-stop.rest ps (k first)
    ∙ counted-kept (t first) (k first) (refused (number refusal) (t first).state) (λ none. omega (arith, refused-some refusal)) refl
    refl
    ∙ ap (λ x. counted (t first) (k first) (on_reading (t first).state x)) (sym (ap told_reading c.in-Err.is)))

-- an event, and what it changes
module _ (c : After-change-change) where
  abbrev so_far : Tally
  so_far = tally_of c.loop-stop.rest c.loop-stop.places

  abbrev after : Outcome
  after = on_reading so_far.state (told_reading c.in-Next.reading)

  abbrev change : Change
  change = c.change-change.result

  carries : carried so_far.state change ≡ after
  carries =
      subst (λ x. carried x change ≡ step x c.in-Ok.event) c.state.ensures c.change-change.ensures
      ∙ sym (ap (on_reading so_far.state) (ap told_reading c.in-Ok.is))

  -- that is made
  makes : change.refusal ≡ None
      → counted so_far c.in-Next.length (made so_far.state change) ≡ counted so_far c.in-Next.length after
  makes taken = ap (counted so_far c.in-Next.length) (sym (carried-made so_far.state change taken) ∙ carries)

-- with closings
pub accept-rest-requires : goal.accept-rest-requires
accept-rest-requires c =
    let whole = ready (goal.at.accept-rest-requires c).In-Next in
    (whole.1, whole.0.read, c.add_all.ensures.1)

pub loop-stop-preserved-then-closes_any : goal.loop-stop-preserved-then-closes_any
loop-stop-preserved-then-closes_any c =
    let known = goal.at.loop-stop-preserved-then-closes_any c in
    let first = known.In-Next in
    let rest = c.loop-stop.rest in
    let ps = c.loop-stop.places in
    let d = c.change-change.result in
    let next = c.seated-places.result in
    again first (tally_of c.accept-rest.result next)
    (ap (λ x. tally_of x next) c.accept-rest.ensures
    ∙ counted-made rest ps next (k first) d c.add_all.result
    (c.seated-places.ensures ∙ ap (λ l. set l d.at d.place) c.close_places-closed.ensures.0)
    (c.add_all.ensures.0 ps (four first)
    ∙ ap (totalled rest.totals) (ap (sent_for ps) c.close_places-closed.ensures.1 ∙ sent-closings d.which ps))
    ∙ makes known.After-change-change (none-is _ (sym c.is_some.ensures ∙ c.if-is_some.false)))

-- with a place set
pub accept-rest-requires-then-to-lt-PLACES : goal.accept-rest-requires-then-to-lt-PLACES
accept-rest-requires-then-to-lt-PLACES c = accepting (goal.at.accept-rest-requires-then-to-lt-PLACES c).In-Next

pub loop-stop-preserved-then-to-lt-PLACES : goal.loop-stop-preserved-then-to-lt-PLACES
loop-stop-preserved-then-to-lt-PLACES c =
    let known = goal.at.loop-stop-preserved-then-to-lt-PLACES c in
    let first = known.In-Next in
    let ps = c.loop-stop.places in
    let d = c.change-change.result in
    let next = set ps d.at d.place in
    again first (tally_of c.accept-rest-then-to-lt-PLACES.result next)
    (ap (λ x. tally_of x next) c.accept-rest-then-to-lt-PLACES.ensures
    ∙ applied-set c.loop-stop.rest ps d (sym c.closes_any.ensures ∙ c.if-closes_any.false) (k first)
    ∙ makes known.After-change-change (none-is _ (sym c.is_some.ensures ∙ c.if-is_some.false)))

-- with the train and the marks alone
pub accept-rest-requires-else-to-lt-PLACES : goal.accept-rest-requires-else-to-lt-PLACES
accept-rest-requires-else-to-lt-PLACES c = accepting (goal.at.accept-rest-requires-else-to-lt-PLACES c).In-Next

pub loop-stop-preserved : goal.loop-stop-preserved
loop-stop-preserved c =
    let known = goal.at.loop-stop-preserved c in
    let first = known.In-Next in
    let ps = c.loop-stop.places in
    again first (tally_of c.accept-rest-else-to-lt-PLACES.result ps)
    (ap (λ x. tally_of x ps) c.accept-rest-else-to-lt-PLACES.ensures
    ∙ applied-noted c.loop-stop.rest ps c.change-change.result (sym c.closes_any.ensures ∙ c.if-closes_any.false) (k first)
    (omega (arith, four first, c.if-to-lt-PLACES.false))
    ∙ makes known.After-change-change (none-is _ (sym c.is_some.ensures ∙ c.if-is_some.false)))

-- that is refused
pub refuse-rest-requires-then-is_some : goal.refuse-rest-requires-then-is_some
refuse-rest-requires-then-is_some c = refusing (goal.at.refuse-rest-requires-then-is_some c).In-Next

pub loop-stop-preserved-then-is_some : goal.loop-stop-preserved-then-is_some
loop-stop-preserved-then-is_some c =
    let known = goal.at.loop-stop-preserved-then-is_some c in
    let first = known.In-Next in
    let ps = c.loop-stop.places in
    again first (tally_of c.refuse-rest-then-is_some.result ps)
    (ap (λ x. tally_of x ps) c.refuse-rest-then-is_some.ensures
    ∙ counted-refused c.loop-stop.rest ps (k first)
    ∙ applied-kept (t first) (k first) c.change-change.result _ (carries known.After-change-change)
    (sym c.is_some.ensures ∙ c.if-is_some.true))

-- where it stops, the answer is the run's
pub returns : goal.returns
returns c =
    let t = tally_of c.loop-stop.rest c.loop-stop.places in
    let log = c.args.log.now in
    let left = drop t.offset log in
    let short : length left ≤ longest_log = simp length-drop (omega (arith, c.requires.0)) in
    c.report.ensures
    ∙ front-stops t c.args.budget left _ short c.loop-stop.invariant.3 (sym c.front.ensures ∙ ap told_front c.in-Stop.is)
    ∙ sym c.loop-stop.invariant.4
    ∙ ap (λ x. go c.args.budget x log) c.fresh-rest.ensures

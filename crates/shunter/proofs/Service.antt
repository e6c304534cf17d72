-- Served in time: a place that goes on waiting moves up by one with each modem release.
-- Proves: modems-two, none-idle, no-release, history-ready, served-in-time, served-after.
use mathlib.Core.Path.{◌≡◌, refl, sym, ap, ◌∙◌}
use mathlib.Core.Bool.{Bool, true, false, cond, ◌||◌, not}
use mathlib.Core.Logic.{◌⊎◌, inl, inr}
use mathlib.Core.List.{List, [], ◌∷◌, ◌++◌}
use Prim.Native.Nat.{ℕ, zero, suc, ◌+◌, ◌≤◌}
use native.Mathlib.Omega.{arith}
use lib.Dec.{eqb}
use lib.ListN.{length, drop}
use borrow.Author.Tests.{eqb-true, le-leb}
use Rattle.wire.specs.Refusals as refusal
use Rattle.wire.proofs.Tests.{and_left, and_right, and_both, true-false}
use Rattle.place.specs.Places.{is_free}
use Rattle.place.specs.declared.place.Place.{Place}
use Rattle.unit.specs.Kept.{count}
use Rattle.wire.specs.Bytes.{as_bit}
use Rattle.unit.specs.OnRecords.{action_room}
use Rattle.unit.specs.Standings.{Concern}
use Rattle.unit.specs.Steps.{Outcome}
use Rattle.unit.proofs.Counts.{count-append}
use Rattle.unit.proofs.Few.{busy}
use Rattle.history.specs.Histories.{is_release}
use Rattle.shunter.specs.Queues.{modem_count, waiting, among, distinct, place_at, modems_held, ready}
use Rattle.shunter.specs.Shunting.{kept, waits_for, held_back, newcomers, line_up, free_modems, served, unserved, first_requests, line_of}
use Rattle.shunter.specs.Shunting.{sends, is_call_of, all_held, shunt, call_too_many, stirs_waiting, concern_in, core_step}
use Rattle.shunter.specs.ShunterHistories.{shunter_after, shunter_sum, modem_releases, ahead, queued_at, waits_through}
use Rattle.shunter.specs.declared.state.Shunter.{Shunter}
use Rattle.shunter.proofs.TwoTests.{fails-then, or-either}
use Rattle.shunter.proofs.InRow.{among-append, among-kept, among-drop}
use Rattle.shunter.proofs.Modems.{just-held}
use Rattle.shunter.proofs.Ready.{ready-queued}
use Rattle.shunter.proofs.LinedUp.{Moved, line-apart, joins-fresh, each-fresh}
use Rattle.shunter.proofs.Balance.{account}
use Rattle.shunter.proofs.Goods.{moved, acted}
use Rattle.shunter.proofs.Cases.{by-case, sends-waiting, shunt-ready}

module _ (h : Shunter) (good : ready h ≡ true) where
  -- "no more than two modems are held"
  -- promise
  pub modems-two : modems_held h.state.places (waiting h.queue) ≤ 2
  modems-two = (ready-queued h good).most

  -- "none is idle while a place waits"
  -- promise
  pub none-idle : 1 ≤ length (waiting h.queue) → modems_held h.state.places (waiting h.queue) ≡ 2
  none-idle = (ready-queued h good).busy

-- fewer stand in front where some have left
ahead-kept : (test : ℕ → Bool) (i : ℕ) (is : List ℕ) → test i ≡ true → ahead i (kept test is) ≤ ahead i is
unfolding ahead kept
ahead-kept test i [] passes = omega arith
ahead-kept test i (j ∷ js) passes = by (test j) (eqb i j) refl refl (ahead-kept test i js passes)
  where
    by : (a b : Bool)
        → test j ≡ a
        → eqb i j ≡ b
        → ahead i (kept test js) ≤ ahead i js
        → ahead i (cond a (j ∷ kept test js) (kept test js)) ≤ cond b 0 (suc (ahead i js))
    by true true t same rest =
        let own = ap (λ c. cond c 0 (suc (ahead i (kept test js)))) same in
        omega arith
    by true false t same rest =
        let own = ap (λ c. cond c 0 (suc (ahead i (kept test js)))) same in
        omega arith
    by false true t same rest = true-false (test i) passes (ap test (eqb-true i j same) ∙ t)
    by false false t same rest = omega arith

-- those behind do not count
ahead-append : (i : ℕ) (is js : List ℕ) → among i is ≡ true → ahead i (is ++ js) ≡ ahead i is
unfolding ahead among
ahead-append i [] js one = true-false false one refl
ahead-append i (k ∷ is) js one = by (eqb i k) one (ahead-append i is js)
  where
    by : (b : Bool)
        → (b || among i is) ≡ true
        → (among i is ≡ true → ahead i (is ++ js) ≡ ahead i is)
        → cond b 0 (suc (ahead i (is ++ js))) ≡ cond b 0 (suc (ahead i is))
    by true one rest = refl
    by false one rest = ap suc (rest one)

-- the first n stand in front of each that is left
ahead-drop : (n i : ℕ) (is : List ℕ)
    → distinct is ≡ true
    → among i (drop n is) ≡ true
    → n + ahead i (drop n is) ≡ ahead i is
unfolding ahead among distinct
ahead-drop zero i is apart one = omega arith
ahead-drop (suc n) i [] apart one = true-false false one refl
ahead-drop (suc n) i (k ∷ is) apart one =
    by (eqb i k) refl (ahead-drop n i is (and_right (not (among k is)) (distinct is) apart) one)
  where
    by : (b : Bool)
        → eqb i k ≡ b
        → n + ahead i (drop n is) ≡ ahead i is
        → suc n + ahead i (drop n is) ≡ cond b 0 (suc (ahead i is))
    by true same rest =
        let more : among k is ≡ true = ap (λ j. among j is) (sym (eqb-true i k same)) ∙ among-drop n i is one in
        true-false (not (among k is)) (and_left (not (among k is)) (distinct is) apart) (ap not more)
    by false same rest = omega arith

-- a first request is no release
pub no-release : (ps : List Place) (is : List ℕ) → count is_release (first_requests ps is) ≡ 0
unfolding count
no-release ps [] = refl
no-release ps (i ∷ is) =
    let rest = no-release ps is in
    omega arith

-- one that waited and is in the line has no more in front than it had
line-ahead : (c : Concern) (before after : List Place) (is : List ℕ)
    → Moved c before after is
    → (i : ℕ)
    → among i is ≡ true
    → among i (line_up before is c after) ≡ true
    → ahead i (line_up before is c after) ≤ ahead i is
unfolding line_up
line-ahead c before after is step i waits one =
    by (or-either (among i stayers) (among i (newcomers before c)) (sym (among-append i stayers (newcomers before c)) ∙ one))
  where
    stays : ℕ → Bool
    stays j = not (is_free (place_at after j))

    stayers : List ℕ
    stayers = kept stays is

    by : (among i stayers ≡ true) ⊎ (among i (newcomers before c) ≡ true) → ahead i (stayers ++ newcomers before c) ≤ ahead i is
    by (inl old) =
        let behind = ahead-append i stayers (newcomers before c) old in
        let fewer = ahead-kept stays i is (among-kept stays i is old).1 in
        omega arith
    by (inr new) =
        true-false (busy (place_at before i)) (just-held (place_at before i) (each-fresh c before after is step i waits))
        (ap not (joins-fresh c before after is step i new).1)

module _ (h : Shunter) (bytes : List ℕ) (good : ready h ≡ true) (calm : stirs_waiting h (concern_in h bytes) ≡ false)
    (accepted : (core_step h bytes).code ≡ refusal.accepted)
    (free : call_too_many h (concern_in h bytes) ≡ false)
    (i : ℕ)
    (waits : queued_at i h ≡ true) where
  abbrev c : Concern
  c = concern_in h bytes

  abbrev o : Outcome
  o = core_step h bytes

  abbrev is : List ℕ
  is = waiting h.queue

  abbrev before : List Place
  before = h.state.places

  abbrev after : List Place
  after = o.state.places

  -- a row that it is among is not empty
  some-length : (js : List ℕ) → among i js ≡ true → 1 ≤ length js
  unfolding among
  some-length [] one = true-false false one refl
  some-length (j ∷ js) one = omega arith

  -- where one waits, as many modems are given away as are released
  free-released : count is_release (sends h c o).actions ≡ free_modems after (line_of h c o)
  unfolding sends
  free-released =
      let out = kept (λ a. not (held_back (waits_for before is) c a)) o.actions in
      let joined = count-append is_release out (first_requests after (served after (line_of h c o))) in
      let none = no-release after (served after (line_of h c o)) in
      let full = (ready-queued h good).busy (some-length is waits) in
      let balance =
      account c before after is o.actions (moved h bytes good calm accepted) (acted h bytes good calm accepted)
      (ready-queued h good) in
      let call = no_call (is_call_of c) refl full in
      omega arith
    where
      no_call : (b : Bool) → is_call_of c ≡ b → modems_held before is ≡ modem_count → as_bit b ≡ 0
      no_call true call full =
          true-false (call_too_many h (concern_in h bytes))
          (and_both (is_call_of c) (all_held h) call (le-leb modem_count (modems_held before is) (omega arith)))
          free
      no_call false call full = refl

  -- a place that goes on waiting moves up by one with each release
  sends-ahead : queued_at i (sends h c o).shunter ≡ true
      → count is_release (sends h c o).actions + ahead i (waiting (sends h c o).shunter.queue) ≤ ahead i is
  sends-ahead still =
      let line = line_of h c o in
      let left = sends-waiting h bytes good calm accepted free in
      let one : among i (unserved after line) ≡ true = sym (ap (among i) left) ∙ still in
      let shown = ap (ahead i) left in
      let gone = free-released in
      let apart = line-apart c before after is (moved h bytes good calm accepted) in
      let front = ahead-drop (free_modems after line) i line apart one in
      let lined =
      line-ahead c before after is (moved h bytes good calm accepted) i waits (among-drop (free_modems after line) i line one) in
      omega arith

-- of any step: a place that goes on waiting moves up by one with each release
step-ahead : (h : Shunter) (bytes : List ℕ) (i : ℕ)
    → ready h ≡ true
    → queued_at i h ≡ true
    → queued_at i (shunt h bytes action_room).shunter ≡ true
    → count is_release (shunt h bytes action_room).actions + ahead i (waiting (shunt h bytes action_room).shunter.queue)
    ≤ ahead i (waiting h.queue)
unfolding count
step-ahead h bytes i good waits =
    by-case (λ x. queued_at i x.shunter ≡ true
    → count is_release x.actions + ahead i (waiting x.shunter.queue) ≤ ahead i (waiting h.queue)) h bytes action_room
    (λ short still. omega arith)
    (λ enough bad still. omega arith)
    (λ enough ok stirred still. omega arith)
    (λ enough ok calm other still. omega arith)
    (λ enough ok calm taken full still. omega arith)
    (λ enough ok calm taken free still. sends-ahead h bytes ok calm taken free i waits still)

-- soundness along a history
-- promise
pub history-ready : (h : Shunter) (history : List (List ℕ)) → ready h ≡ true → ready (shunter_after h history) ≡ true
unfolding shunter_after
history-ready h [] good = good
history-ready h (bytes ∷ history) good =
    history-ready (shunt h bytes action_room).shunter history (shunt-ready h bytes action_room good)

-- while a place waits, each modem release takes one from those in front of it
-- promise
pub served-in-time : (h : Shunter) (i : ℕ) (history : List (List ℕ))
    → ready h ≡ true
    → waits_through i h history ≡ true
    → modem_releases h history + ahead i (waiting (shunter_after h history).queue) ≤ ahead i (waiting h.queue)
unfolding shunter_after shunter_sum waits_through
served-in-time h i [] good waits = omega arith
served-in-time h i (bytes ∷ history) good waits =
    let next = (shunt h bytes action_room).shunter in
    let later = and_right (queued_at i h) (waits_through i next history) waits in
    let own = step-ahead h bytes i good (and_left (queued_at i h) (waits_through i next history) waits) (starts next history later) in
    let rest = served-in-time next i history (shunt-ready h bytes action_room good) later in
    omega arith
  where
    starts : (k : Shunter) (history : List (List ℕ)) → waits_through i k history ≡ true → queued_at i k ≡ true
    starts k [] waits = waits
    starts k (b ∷ history) waits = and_left (queued_at i k) (waits_through i (shunt k b action_room).shunter history) waits

-- "a waiting place is served after at most as many modem releases as it has in front of it plus one, unless it leaves": with so many it
-- does not wait any more at some point of the history
-- promise
pub served-after : (h : Shunter) (i : ℕ) (history : List (List ℕ))
    → ready h ≡ true
    → ahead i (waiting h.queue) + 1 ≤ modem_releases h history
    → waits_through i h history ≡ false
served-after h i history good enough =
    fails-then (waits_through i h history)
    (λ waits.
    let most = served-in-time h i history good waits in
    absurd (omega arith))

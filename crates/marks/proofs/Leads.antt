-- Where a mark leads: into the log, to a sound state; and where the marks of a log lead.
-- Proves: cold-good, in-case, in-sound, begun-missing, begun-there, begun-sound, begun-coded, begun-eleven, begun-built.
use mathlib.Core.Path.{◌≡◌, sym, ap, ◌∙◌}
use mathlib.Core.Bool.{Bool, true, false, cond, ◌&&◌}
use mathlib.Core.List.{List, ◌++◌}
use Prim.Native.Nat.{ℕ, zero, suc, ◌*◌, ◌-◌, ◌≤◌, ◌<◌}
use native.Mathlib.Nat.{zero-add}
use native.Mathlib.Omega.{arith}
use lib.Dec.{eqb, leb}
use lib.ListN.{length, take, drop, length-append}
use borrow.Author.Tests.{eqb-true, leb-true, le-leb, lt-leb}
use Rattle.wire.specs.Blocks.{blocks}
use Rattle.wire.specs.Bytes.{byte}
use Rattle.wire.specs.Refusals as refusal
use Rattle.wire.proofs.Tests.{and_left, and_right, cond-case}
use Rattle.record.specs.Takes.{longest_log}
use Rattle.place.specs.declared.limits.Limits.{Limits}
use Rattle.unit.specs.States.{limits_ok, sound, cold, no_limits, cold_start}
use Rattle.unit.specs.declared.state.State.{State}
use Rattle.unit.specs.declared.start.Started.{Started}
use Rattle.unit.proofs.Starts.{cold-sound}
use Rattle.image.specs.Images.{read_a2}
use Rattle.image.proofs.RoundTrips.{written_a2-read}
use Rattle.marks.specs.declared.mark.Begun.{Begun}
use Rattle.marks.specs.Marks.{mark_kind, image_at, offset_in, mark_of, after_many, marks_from, begun_refused, mark_in, begun_at}
use Rattle.marks.proofs.Ran.{many-none, many-within, many-sound}
use Rattle.marks.proofs.MarkRows.{marks-at}
use Rattle.marks.proofs.MarkBytes.{mark-leads, marks-size, mark-block}

-- the cold start from good limits is sound
pub cold-good : (l : Limits) → limits_ok l ≡ true → sound (cold l) ≡ true
unfolding cold_start
cold-good l ok =
    ap (λ b. sound (cond b started (record { code = refusal.bad_limits; state = cold no_limits })).state) (sym ok) ∙ cold-sound l
  where
    started : Started
    started = record { code = refusal.accepted; state = cold l }

-- a mark by its three tests
module _ (log mark : List ℕ) where
  leads : Begun
  leads = record { code = refusal.accepted; state = (read_a2 (drop image_at mark)).state; offset = offset_in mark }

  pub in-case : (P : Begun → Type 0)
      → ((byte mark 0 ≡ 0xA3)
      → (offset_in mark ≤ length log)
      → ((read_a2 (drop 5 mark)).code ≡ 0)
      → P (record { code = 0; state = (read_a2 (drop 5 mark)).state; offset = offset_in mark }))
      → P (begun_refused 11)
      → P (mark_in log mark)
  unfolding leads
  in-case P taken refused =
      let kind = eqb (byte mark 0) mark_kind in
      let within = leb (offset_in mark) (length log) in
      let image = eqb (read_a2 (drop image_at mark)).code refusal.accepted in
      cond-case P (kind && (within && image)) leads (begun_refused refusal.not_sound)
      (λ all.
      let both = and_right kind (within && image) all in
      taken (eqb-true (byte mark 0) mark_kind (and_left kind (within && image) all))
      (leb-true (offset_in mark) (length log) (and_left within image both))
      (eqb-true (read_a2 (drop image_at mark)).code refusal.accepted (and_right within image both)))
      (λ bad. refused)

  pub in-sound : (mark_in log mark).code ≡ 0 → (sound (mark_in log mark).state ≡ true) × ((mark_in log mark).offset ≤ length log)
  in-sound =
      in-case (λ b. b.code ≡ 0 → (sound b.state ≡ true) × (b.offset ≤ length log))
      (λ kind within image is. ((written_a2-read (drop 5 mark) image).0, within))
      (λ is. absurd (omega arith))

-- a mark that is not there whole, and the mark of a number from 1 on
module _ (s : State) (log marks : List ℕ) where
  pub begun-missing : (number missing : ℕ) → length marks < 47 * number → begun_at s log marks number missing
      ≡ begun_refused missing
  unfolding begun_at
  begun-missing zero missing few = absurd (omega arith)
  begun-missing (suc i) missing few = simp (lt-leb (47 * suc i) (length marks) few)

  pub begun-there : (number missing : ℕ)
      → 1 ≤ number
      → 47 * number ≤ length marks
      → begun_at s log marks number missing ≡ mark_in log (take 47 (drop (47 * (number - 1)) marks))
  unfolding begun_at
  begun-there zero missing some enough = absurd (omega arith)
  begun-there (suc i) missing some enough =
      let before : 47 * i ≡ 47 * (suc i - 1) = omega arith in
      simp (le-leb (47 * suc i) (length marks) enough) (ap (λ k. mark_in log (take 47 (drop k marks))) before)

-- a point that is not refused is sound and in the log
pub begun-sound : (s : State) (log marks : List ℕ) (number missing : ℕ)
    → sound s ≡ true
    → (missing ≡ 0 → ⊥)
    → (begun_at s log marks number missing).code ≡ 0
    → (sound (begun_at s log marks number missing).state ≡ true) × ((begun_at s log marks number missing).offset ≤ length log)
unfolding begun_at
begun-sound s log marks zero missing good some = λ is. (good, omega arith)
begun-sound s log marks (suc i) missing good some =
    cond-case (λ b. b.code ≡ 0 → (sound b.state ≡ true) × (b.offset ≤ length log)) (leb (47 * suc i) (length marks))
    (mark_in log (take 47 (drop (47 * i) marks)))
    (begun_refused missing)
    (λ there. in-sound log (take 47 (drop (47 * i) marks)))
    (λ gone is. absurd (some is))

-- a point has 0, the refusal of a mark, or that of a missing one
pub begun-coded : (P : ℕ → Type 0) (s : State) (log marks : List ℕ) (number missing : ℕ)
    → P 0
    → P 11
    → P missing
    → P (begun_at s log marks number missing).code
unfolding begun_at
begun-coded P s log marks zero missing none bad gone = none
begun-coded P s log marks (suc i) missing none bad gone =
    cond-case (λ (b : Begun). P b.code) (leb (47 * suc i) (length marks)) (mark_in log (take 47 (drop (47 * i) marks)))
    (begun_refused missing)
    (λ there. in-case log (take 47 (drop (47 * i) marks)) (λ b. P b.code) (λ kind within image. none) bad)
    (λ no. gone)

-- that a mark is refused with 11 does not hang on what a missing one is refused with
pub begun-eleven : (s : State) (log marks : List ℕ) (number a b : ℕ)
    → (a ≡ 11 → ⊥)
    → (begun_at s log marks number a).code ≡ 11
    → (begun_at s log marks number b).code ≡ 11
unfolding begun_at
begun-eleven s log marks zero a b other = λ is. is
begun-eleven s log marks (suc i) a b other =
    let mark = mark_in log (take 47 (drop (47 * i) marks)) in
    by (leb (47 * suc i) (length marks)) mark
  where
    by : (there : Bool) (mark : Begun)
        → (cond there mark (begun_refused a)).code ≡ 11
        → (cond there mark (begun_refused b)).code ≡ 11
    by true mark is = is
    by false mark is = absurd (other is)

-- the marks of a log lead where its run stands
pub begun-built : (s : State) (log more : List ℕ) (count number missing : ℕ)
    → sound s ≡ true
    → length log ≤ longest_log
    → number ≤ count
    → begun_at s log (blocks (λ mark. mark) (marks_from count s 0 log) ++ more) number missing
    ≡ record { code = 0; state = (after_many s log (256 * number)).state; offset = (after_many s log (256 * number)).offset }
unfolding begun_at
begun-built s log more count zero missing good short few =
    let none = many-none s log in
    ap (λ t. record { code = 0; state = t.state; offset = t.offset }) (sym none)
begun-built s log more count (suc i) missing good short few =
    let marks = blocks (λ mark. mark) (marks_from count s 0 log) in
    let t = after_many s log (256 * suc i) in
    let size = length-append marks more in
    let own = marks-size count s 0 log short good in
    let before : 47 * (suc i - 1) ≡ 47 * i = omega arith in
    begun-there s log (marks ++ more) (suc i) missing (omega arith) (omega arith)
    ∙ ap (λ k. mark_in log (take 47 (drop k (marks ++ more)))) before
    ∙ ap (mark_in log)
    (mark-block count s 0 log short good more i (omega arith)
    ∙ marks-at i count s 0 log (omega arith)
    ∙ ap (λ n. mark_of n t.state) (zero-add t.offset))
    ∙ mark-leads t.offset t.state (many-sound s log short good (256 * suc i)) log short (many-within s log short (256 * suc i))

-- Demand 3, the waiting partner, with its hypotheses met: "whatever comes for others in between". RBC 5 and RIU 7 wait, in each phase that
-- waits, for every n from 1 to 9; before each of their timeouts comes a row of every kind of record for others and for nobody, and of
-- records that are refused as they are read. And Q-2 with its hypotheses met.
-- Proves: connecting-freed, contacting-freed, lost-freed, ending-freed, lost-freed-from, ending-freed-three, last-known-five,
-- last-known-none, five-not-reserved.
use mathlib.Core.Path.{◌≡◌, refl, sym, ap, ◌∙◌}
use mathlib.Core.Bool.{false}
use mathlib.Core.List.{List, [], ◌∷◌, ◌++◌}
use Prim.Native.Nat.{ℕ, ◌≤◌}
use native.Mathlib.Omega.{arith}
use Rattle.record.specs.Partners.{reserved}
use Rattle.record.specs.Records.{reading}
use Rattle.record.specs.declared.partner.Partner.{Partner}
use Rattle.place.specs.Places.{most_tries}
use Rattle.place.specs.Table.{turn}
use Rattle.unit.specs.States.{first, seek, places_ok, sound, cold, cold_start, some}
use Rattle.unit.specs.Steps.{act, closed, closing_actions, step}
use Rattle.unit.specs.Lasts.{to_rbc, recalled}
use Rattle.unit.specs.OnRecords.{on_record}
use Rattle.unit.specs.Kept.{count}
use Rattle.unit.specs.declared.last.Last.TheVariants.{Unknown, Known}
use Rattle.unit.proofs.Starts.{cold-limits, cold-sound}
use Rattle.history.specs.Histories.{after, timeouts, holds_place, releases_of, sent}
use Rattle.history.specs.PerEvent.{timeouts_to_release}
use Rattle.history.specs.Reaching.{rbc5}
use Rattle.history.specs.Sums.{started}
use Rattle.unit.specs.States.{one_to_two}
use Rattle.history.specs.Between.{riu7, both_connecting, both_contacting, both_lost, both_ending, among_all, among_orders, among_others}
use Rattle.history.specs.Between.{open7, to_last5, to_last7, Freed}
use Rattle.history.proofs.Along.{after-sound, after-limits}
use Rattle.history.proofs.Waiting.{waiting, released-once, demand-waiting, demand-released-once}
use Rattle.history.proofs.FromColdStart.{cold-waiting, cold-released-once}
use Rattle.history.proofs.LastKnown.{last-recent, last_none, reserved-never-known}
use Rattle.history.proofs.Meanings.{started-means}
use Rattle.history.proofs.AmongOthers.{connecting-held, contacting-held, lost-held, ending-held}

-- n timeouts are enough
enough : (n : ℕ) (p : Partner) (history : List (List ℕ)) → timeouts p history ≡ n → timeouts_to_release n ≤ timeouts p history
enough n p history many = omega arith

-- the limit stays
limit-kept : (n : ℕ) → 1 ≤ n → n ≤ most_tries → (history : List (List ℕ)) → (after (started n) history).limits.tries ≡ n
limit-kept n some-try most history =
    ap (λ l. l.tries) (after-limits (started n) history ∙ (cold-limits (one_to_two n) (started-means n some-try most).0).0)

module _ (n : ℕ) (some-try : 1 ≤ n) (most : n ≤ most_tries) where
  -- instance
  pub connecting-freed :
      Freed rbc5 n (both_connecting ++ among_orders) (to_last5 among_orders n)
      × Freed riu7 n (both_connecting ++ among_orders) (to_last7 among_orders n)
  connecting-freed =
      let taken = (started-means n some-try most).0 in
      let held = connecting-held n some-try most in
      let five = held.2 in
      let seven = held.3 in
      let whole5 = to_last5 among_orders n in
      let whole7 = to_last7 among_orders n in
      let many5 = enough n rbc5 whole5 five.2 in
      let many7 = enough n riu7 whole7 seven.2 in
      let begun = both_connecting ++ among_orders in (
        (
          cold-waiting (one_to_two n) taken begun rbc5 five.0 whole5 five.1 many5,
          cold-released-once (one_to_two n) taken begun rbc5 five.0 whole5 five.1 many5,
        ),
        (
          cold-waiting (one_to_two n) taken begun riu7 seven.0 whole7 seven.1 many7,
          cold-released-once (one_to_two n) taken begun riu7 seven.0 whole7 seven.1 many7,
        ),
      )

  -- instance
  pub contacting-freed :
      Freed rbc5 n (both_contacting ++ among_orders) (to_last5 among_orders n)
      × Freed riu7 n (both_contacting ++ among_orders) (to_last7 among_orders n)
  contacting-freed =
      let taken = (started-means n some-try most).0 in
      let held = contacting-held n some-try most in
      let five = held.2 in
      let seven = held.3 in
      let whole5 = to_last5 among_orders n in
      let whole7 = to_last7 among_orders n in
      let many5 = enough n rbc5 whole5 five.2 in
      let many7 = enough n riu7 whole7 seven.2 in
      let begun = both_contacting ++ among_orders in (
        (
          cold-waiting (one_to_two n) taken begun rbc5 five.0 whole5 five.1 many5,
          cold-released-once (one_to_two n) taken begun rbc5 five.0 whole5 five.1 many5,
        ),
        (
          cold-waiting (one_to_two n) taken begun riu7 seven.0 whole7 seven.1 many7,
          cold-released-once (one_to_two n) taken begun riu7 seven.0 whole7 seven.1 many7,
        ),
      )

  -- instance
  pub lost-freed :
      Freed rbc5 n (both_lost ++ among_others) (to_last5 among_others n)
      × Freed riu7 n (both_lost ++ among_others) (to_last7 among_others n)
  lost-freed =
      let taken = (started-means n some-try most).0 in
      let held = lost-held n some-try most in
      let five = held.2 in
      let seven = held.3 in
      let whole5 = to_last5 among_others n in
      let whole7 = to_last7 among_others n in
      let many5 = enough n rbc5 whole5 five.2 in
      let many7 = enough n riu7 whole7 seven.2 in
      let begun = both_lost ++ among_others in (
        (
          cold-waiting (one_to_two n) taken begun rbc5 five.0 whole5 five.1 many5,
          cold-released-once (one_to_two n) taken begun rbc5 five.0 whole5 five.1 many5,
        ),
        (
          cold-waiting (one_to_two n) taken begun riu7 seven.0 whole7 seven.1 many7,
          cold-released-once (one_to_two n) taken begun riu7 seven.0 whole7 seven.1 many7,
        ),
      )

  -- instance
  pub ending-freed :
      Freed rbc5 n (both_ending ++ among_all) (to_last5 among_all n)
      × Freed riu7 n (both_ending ++ among_all) (to_last7 among_all n)
  ending-freed =
      let taken = (started-means n some-try most).0 in
      let held = ending-held n some-try most in
      let five = held.2 in
      let seven = held.3 in
      let whole5 = to_last5 among_all n in
      let whole7 = to_last7 among_all n in
      let many5 = enough n rbc5 whole5 five.2 in
      let many7 = enough n riu7 whole7 seven.2 in
      let begun = both_ending ++ among_all in (
        (
          cold-waiting (one_to_two n) taken begun rbc5 five.0 whole5 five.1 many5,
          cold-released-once (one_to_two n) taken begun rbc5 five.0 whole5 five.1 many5,
        ),
        (
          cold-waiting (one_to_two n) taken begun riu7 seven.0 whole7 seven.1 many7,
          cold-released-once (one_to_two n) taken begun riu7 seven.0 whole7 seven.1 many7,
        ),
      )

  -- the same of the state in which both wait
  -- instance
  pub lost-freed-from :
      (holds_place rbc5 (after (after (started n) (both_lost ++ among_others)) (to_last5 among_others n)).places ≡ false)
      × (releases_of rbc5 (after (started n) (both_lost ++ among_others)) (to_last5 among_others n) ≡ 1)
      × (holds_place riu7 (after (after (started n) (both_lost ++ among_others)) (to_last7 among_others n)).places ≡ false)
      × (releases_of riu7 (after (started n) (both_lost ++ among_others)) (to_last7 among_others n) ≡ 1)
  lost-freed-from =
      let held = lost-held n some-try most in
      let five = held.2 in
      let seven = held.3 in
      let s = after (started n) (both_lost ++ among_others) in
      let ok = after-sound (started n) (cold-sound (one_to_two n)) (both_lost ++ among_others) in
      let own = limit-kept n some-try most (both_lost ++ among_others) in
      let many5 = enough s.limits.tries rbc5 (to_last5 among_others n) (five.2 ∙ sym own) in
      let many7 = enough s.limits.tries riu7 (to_last7 among_others n) (seven.2 ∙ sym own) in (
        waiting s ok rbc5 five.0 (to_last5 among_others n) five.1 many5,
        released-once s ok rbc5 five.0 (to_last5 among_others n) five.1 many5,
        waiting s ok riu7 seven.0 (to_last7 among_others n) seven.1 many7,
        released-once s ok riu7 seven.0 (to_last7 among_others n) seven.1 many7,
      )

-- with the three tries of document 01: "holds no place after its third one, whatever comes for others in between"
-- instance
pub ending-freed-three :
    (holds_place rbc5 (after (after (started 3) (both_ending ++ among_all)) (to_last5 among_all 3)).places ≡ false)
    × (releases_of rbc5 (after (started 3) (both_ending ++ among_all)) (to_last5 among_all 3) ≡ 1)
    × (holds_place riu7 (after (after (started 3) (both_ending ++ among_all)) (to_last7 among_all 3)).places ≡ false)
    × (releases_of riu7 (after (started 3) (both_ending ++ among_all)) (to_last7 among_all 3) ≡ 1)
ending-freed-three =
    let held = ending-held 3 (omega arith) (omega arith) in
    let five = held.2 in
    let seven = held.3 in
    let s = after (started 3) (both_ending ++ among_all) in
    let ok = after-sound (started 3) (cold-sound (one_to_two 3)) (both_ending ++ among_all) in
    let three = limit-kept 3 (omega arith) (omega arith) (both_ending ++ among_all) in
    let many5 = enough 3 rbc5 (to_last5 among_all 3) five.2 in
    let many7 = enough 3 riu7 (to_last7 among_all 3) seven.2 in (
      demand-waiting s three ok rbc5 five.0 (to_last5 among_all 3) five.1 many5,
      demand-released-once s three ok rbc5 five.0 (to_last5 among_all 3) five.1 many5,
      demand-waiting s three ok riu7 seven.0 (to_last7 among_all 3) seven.1 many7,
      demand-released-once s three ok riu7 seven.0 (to_last7 among_all 3) seven.1 many7,
    )

-- Q-2: the actions of the records by which both are lost: the 159 to RBC 5, and after it none to an RBC, though one to an RIU
sent-lost :
    sent (started 3) both_lost
    ≡ (act rbc5 21 ∷ act riu7 21 ∷ act rbc5 155 ∷ act riu7 155 ∷ [])
    ++ (act rbc5 159 ∷ (act riu7 159 ∷ act rbc5 21 ∷ act riu7 21 ∷ []))
unfolding reading turn first seek places_ok sound cold cold_start closed closing_actions step on_record some recalled sent
sent-lost = refl

-- the RBC of the most recent 159 to an RBC is known
-- instance
pub last-known-five : (after (started 3) both_lost).last ≡ Known 0 0 5
unfolding count
last-known-five =
    last-recent (one_to_two 3) both_lost (act rbc5 21 ∷ act riu7 21 ∷ act rbc5 155 ∷ act riu7 155 ∷ []) (act rbc5 159)
    (act riu7 159 ∷ act rbc5 21 ∷ act riu7 21 ∷ [])
    sent-lost
    refl
    refl

-- and it has not the reserved number
-- instance
pub five-not-reserved : reserved (record { kind = 0; high = 0; middle = 0; low = 5 }) ≡ false
five-not-reserved = reserved-never-known (one_to_two 3) both_lost 0 0 5 last-known-five

-- an RIU alone gets a 159: no RBC is known
sent-open7 : count to_rbc (sent (started 3) open7) ≡ 0
unfolding reading turn first seek places_ok sound cold cold_start closed closing_actions step on_record some recalled sent count
sent-open7 = refl

-- instance
pub last-known-none : (after (started 3) open7).last ≡ Unknown
last-known-none = last_none (one_to_two 3) open7 sent-open7

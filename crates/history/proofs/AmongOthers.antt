-- Cross-checks only: rules told a second time.
-- RBC 5 and RIU 7 wait among others: in each phase that waits both are held up to their n-th timeout, with a row of records of every kind
-- for others and for nobody before each timeout.
-- Proves: connecting-held, contacting-held, lost-held, ending-held, among-all-codes, among-orders-codes, among-others-codes.
use mathlib.Core.Path.{◌≡◌, refl, ap, subst, ◌∙◌}
use mathlib.Core.Bool.{true, false, cond, ◌&&◌, ◌||◌}
use mathlib.Core.List.{List, [], ◌∷◌, ◌++◌, map}
use Prim.Native.Nat.{ℕ, zero, suc, ◌+◌, ◌-◌, ◌≤◌, ◌<◌}
use native.Mathlib.Omega.{arith}
use lib.Dec.{eqb}
use lib.ListN.{get_or, replicate}
use borrow.Author.Tests.{lt-ltb, le-ltb}
use Rattle.wire.proofs.Tests.{All}
use Rattle.record.specs.Records.{reading}
use Rattle.record.specs.declared.partner.Partner.{Partner}
use Rattle.record.specs.declared.event.PartnerEvent.TheVariants.{Timeout}
use Rattle.place.specs.Places.{most_tries, vacant, seat, held_phase}
use Rattle.place.specs.Table.{established, turn}
use Rattle.place.specs.declared.phase.Phase.{Phase}
use Rattle.place.specs.declared.phase.Phase.TheVariants.{Connecting, Contacting, Lost, Ending}
use Rattle.place.specs.declared.place.Direction.TheVariants.{Outgoing}
use Rattle.place.specs.declared.place.Place.{Place}
use Rattle.place.specs.declared.turn.Turn.TheVariants.{Released, Sends}
use Rattle.unit.specs.States.{first, seek, places_ok, sound, cold, cold_start, some}
use Rattle.unit.specs.Steps.{act, closed, closing_actions, step}
use Rattle.unit.specs.Searching.{turned}
use Rattle.unit.specs.Lasts.{recalled}
use Rattle.unit.specs.OnRecords.{trace, on_record}
use Rattle.unit.specs.declared.last.Last.{Last}
use Rattle.unit.specs.declared.last.Last.TheVariants.{Known}
use Rattle.unit.specs.declared.state.State.{State}
use Rattle.unit.proofs.Rows.{◌▹◌}
use Rattle.unit.proofs.Starts.{cold-sound}
use Rattle.history.specs.Histories.{after, silent, timeouts, holds_place, waiting_phase, waits}
use Rattle.history.specs.Reaching.{rbc5, timeout5, repeated, one_to_nine}
use Rattle.history.specs.Sums.{started}
use Rattle.unit.specs.States.{one_to_two}
use Rattle.history.specs.Between.{riu7, timeout7, both_connecting, both_contacting, both_lost, both_ending, among_all, among_orders}
use Rattle.history.specs.Between.{among_others, rounds, before_last5, to_last5, before_last7, to_last7, BothHeld}
use Rattle.history.proofs.Along.{after-sound}
use Rattle.history.proofs.Stepping.{goes, quietly, after-goes, silent-quietly, timeouts-append, Passes, passes_on}

-- the box after such a row: level 3, two marks set, RBC 6 the last known, and these two places
unfoldable steady : ℕ → ℕ → Last → Place → Place → State
steady n mission last a b =
    record {
      limits = one_to_two n;
      train = record { level = 3; mission = mission };
      marks = record { inside = false; mode = true; manual = true; end = false };
      places = a ∷ b ∷ vacant ∷ vacant ∷ [];
      last = last;
    }

abbrev six : Last
six = Known 0 0 6

-- n tries, the phase by its tries, the number of its timeout's action
module _ (n mission : ℕ) (ph : ℕ → Phase) (number : ℕ) (other : eqb number established ≡ false)
    (once_more : (t : ℕ) → t < n → turn (one_to_two n) (ph t) Timeout ≡ Sends number (ph (t + 1)))
    (at_last : turn (one_to_two n) (ph n) Timeout ≡ Released)
    (wait : (t : ℕ) → waiting_phase (ph t) ≡ true)
  where
    -- the seats at such a try, and the box with them
    abbrev at5 : ℕ → Place
    at5 t = seat Outgoing (ph t) rbc5

    abbrev at7 : ℕ → Place
    at7 u = seat Outgoing (ph u) riu7

    abbrev S : Place → Place → State
    S a b = steady n mission six a b

    -- no action of a timeout is a 159
    kept : (p : Partner) → recalled six (act p number ∷ []) ≡ six
    unfolding recalled
    kept p = ap (λ b. cond (b && eqb p.kind 0) (Known p.high p.middle p.low) six) other

    -- a timeout is one more try
    tick5 : (t : ℕ) (b : Place) → t < n → Passes (S (at5 t) b) (timeout5 ∷ []) (S (at5 (t + 1)) b)
    unfolding goes quietly reading step seek first some steady
    tick5 t b below = (
      ap (λ x. (turned (S (at5 t) b) 0 (ph t) rbc5 x).state) (once_more t below)
          ∙ ap (λ last. steady n mission last (at5 (t + 1)) b) (kept rbc5),
      refl,
      refl,
    )

    tick7 : (t u : ℕ) → u < n → Passes (S (at5 t) (at7 u)) (timeout7 ∷ []) (S (at5 t) (at7 (u + 1)))
    unfolding goes quietly reading step seek first some steady
    tick7 t u below = (
      ap (λ x. (turned (S (at5 t) (at7 u)) 1 (ph u) riu7 x).state) (once_more u below)
          ∙ ap (λ last. steady n mission last (at5 t) (at7 (u + 1))) (kept riu7),
      refl,
      refl,
    )

    -- and the last one the release
    last5 : (b : Place) → Passes (S (at5 n) b) (timeout5 ∷ []) (S vacant b)
    unfolding goes quietly reading step seek first some steady recalled
    last5 b = (ap (λ x. (turned (S (at5 n) b) 0 (ph n) rbc5 x).state) at_last, refl, refl)

    last7 : Passes (S vacant (at7 n)) (timeout7 ∷ []) (S vacant vacant)
    unfolding goes quietly reading step seek first some steady recalled
    last7 = (ap (λ x. (turned (S vacant (at7 n)) 1 (ph n) riu7 x).state) at_last, refl, refl)

    -- a row that leaves both as they are, and RIU 7 alone too, and times out neither
    module _ (row : List (List ℕ))
        (keeps : (t u : ℕ) → Passes (S (at5 t) (at7 u)) row (S (at5 t) (at7 u)))
        (alone : (u : ℕ) → Passes (S vacant (at7 u)) row (S vacant (at7 u)))
        (none5 : timeouts rbc5 row ≡ 0)
        (none7 : timeouts riu7 row ≡ 0)
      where
        -- one round, and so many
        abbrev round : List (List ℕ)
        round = row ++ (timeout5 ∷ (row ++ (timeout7 ∷ [])))

        round-passes : (t : ℕ) → t < n → Passes (S (at5 t) (at7 t)) round (S (at5 (t + 1)) (at7 (t + 1)))
        round-passes t below =
            passes_on _ _ _ row (timeout5 ∷ (row ++ (timeout7 ∷ []))) (keeps t t)
            (passes_on _ _ _ (timeout5 ∷ []) (row ++ (timeout7 ∷ [])) (tick5 t (at7 t) below)
            (passes_on _ _ _ row (timeout7 ∷ []) (keeps (t + 1) t) (tick7 (t + 1) t below)))

        rounds-pass : (k t : ℕ) → t + k ≤ n → Passes (S (at5 t) (at7 t)) (rounds row k) (S (at5 (t + k)) (at7 (t + k)))
        unfolding repeated goes quietly
        rounds-pass zero t most = subst (λ u. Passes (S (at5 t) (at7 t)) [] (S (at5 u) (at7 u))) (omega arith) (refl, refl, refl)
        rounds-pass (suc k) t most =
            let rest = rounds-pass k (t + 1) (omega arith) in
            let whole = passes_on _ _ _ round (rounds row k) (round-passes t (omega arith)) rest in
            subst (λ u. Passes (S (at5 t) (at7 t)) (rounds row (suc k)) (S (at5 u) (at7 u))) (omega arith) whole

        module _ (some-try : 1 ≤ n) where
          before5 : Passes (S (at5 1) (at7 1)) (before_last5 row n) (S (at5 n) (at7 n))
          before5 =
              let all = rounds-pass (n - 1) 1 (omega arith) in
              passes_on _ _ _ (rounds row (n - 1)) row
              (subst (λ u. Passes (S (at5 1) (at7 1)) (rounds row (n - 1)) (S (at5 u) (at7 u))) (omega arith) all)
              (keeps n n)

          to5 : Passes (S (at5 1) (at7 1)) (to_last5 row n) (S vacant (at7 n))
          to5 = passes_on _ _ _ (before_last5 row n) (timeout5 ∷ []) before5 (last5 (at7 n))

          before7 : Passes (S (at5 1) (at7 1)) (before_last7 row n) (S vacant (at7 n))
          before7 = passes_on _ _ _ (to_last5 row n) row to5 (alone n)

          to7 : Passes (S (at5 1) (at7 1)) (to_last7 row n) (S vacant vacant)
          to7 = passes_on _ _ _ (before_last7 row n) (timeout7 ∷ []) before7 last7

          -- the timeouts of each
          rounds-count : (p : Partner) → timeouts p round ≡ 1 → (k : ℕ) → timeouts p (rounds row k) ≡ k
          unfolding repeated timeouts
          rounds-count p each zero = refl
          rounds-count p each (suc k) =
              let rest = rounds-count p each k in
              let joined = timeouts-append p round (rounds row k) in
              omega arith

          ticks5 : (timeouts rbc5 (timeout5 ∷ []) ≡ 1) × (timeouts rbc5 (timeout7 ∷ []) ≡ 0)
          unfolding timeouts reading
          ticks5 = (refl, refl)

          ticks7 : (timeouts riu7 (timeout5 ∷ []) ≡ 0) × (timeouts riu7 (timeout7 ∷ []) ≡ 1)
          unfolding timeouts reading
          ticks7 = (refl, refl)

          round-count : (p : Partner) (a b : ℕ)
              → timeouts p row ≡ 0
              → timeouts p (timeout5 ∷ []) ≡ a
              → timeouts p (timeout7 ∷ []) ≡ b
              → timeouts p round ≡ a + b
          round-count p a b none five seven =
              let first = timeouts-append p row (timeout5 ∷ (row ++ (timeout7 ∷ []))) in
              let second = timeouts-append p (timeout5 ∷ []) (row ++ (timeout7 ∷ [])) in
              let third = timeouts-append p row (timeout7 ∷ []) in
              omega arith

          to5-count : (p : Partner) (a : ℕ)
              → timeouts p row ≡ 0
              → timeouts p round ≡ 1
              → timeouts p (timeout5 ∷ []) ≡ a
              → timeouts p (to_last5 row n) + 1 ≡ n + a
          to5-count p a none each five =
              let all = rounds-count p each (n - 1) in
              let first = timeouts-append p (rounds row (n - 1)) row in
              let second = timeouts-append p (before_last5 row n) (timeout5 ∷ []) in
              omega arith

          count5 : timeouts rbc5 (to_last5 row n) ≡ n
          count5 =
              let count = to5-count rbc5 1 none5 (round-count rbc5 1 0 none5 ticks5.0 ticks5.1) ticks5.0 in
              omega arith

          count7 : timeouts riu7 (to_last7 row n) ≡ n
          count7 =
              let count = to5-count riu7 0 none7 (round-count riu7 0 1 none7 ticks7.0 ticks7.1) ticks7.0 in
              let first = timeouts-append riu7 (to_last5 row n) row in
              let second = timeouts-append riu7 (before_last7 row n) (timeout7 ∷ []) in
              let last = ticks7.1 in
              omega arith

          -- from the first records on
          module _ (records : List (List ℕ)) (starts : goes (started n) records ≡ S (at5 1) (at7 1)) where
            begun : after (started n) records ≡ S (at5 1) (at7 1)
            begun = after-goes (started n) (cold-sound (one_to_two n)) records ∙ starts

            good : sound (S (at5 1) (at7 1)) ≡ true
            good = subst (λ s. sound s ≡ true) begun (after-sound (started n) (cold-sound (one_to_two n)) records)

            silent-on : (p : Partner) (history : List (List ℕ))
                → quietly p (S (at5 1) (at7 1)) history ≡ true
                → silent p (after (started n) records) history ≡ true
            silent-on p history quiet =
                ap (λ s. silent p s history) begun ∙ silent-quietly p (S (at5 1) (at7 1)) good history ∙ quiet

            held_on : (p : Partner) (history : List (List ℕ)) (end : State)
                → goes (S (at5 1) (at7 1)) history ≡ end
                → holds_place p end.places ≡ true
                → holds_place p (after (after (started n) records) history).places ≡ true
            held_on p history end leads held =
                ap (λ s. holds_place p (after s history).places) begun
                ∙ ap (λ s. holds_place p s.places) (after-goes (S (at5 1) (at7 1)) good history ∙ leads)
                ∙ held

            both-held : BothHeld n records row (ph 1)
            unfolding some steady
            both-held = (
              ap (λ s. held_phase (get_or s.places 0 vacant)) begun,
              ap (λ s. held_phase (get_or s.places 1 vacant)) begun,
              (
                ap (λ s. waits rbc5 s.places) begun ∙ ap (λ b. b || false) (wait 1),
                silent-on rbc5 (to_last5 row n) to5.1,
                count5,
                held_on rbc5 (before_last5 row n) (S (at5 n) (at7 n)) before5.0 refl,
              ),
              (
                ap (λ s. waits riu7 s.places) begun ∙ ap (λ b. b || false) (wait 1),
                silent-on riu7 (to_last7 row n) to7.2,
                count7,
                held_on riu7 (before_last7 row n) (S vacant (at7 n)) before7.0 refl,
              ),
            )

-- what holds of each of the numbers holds of every n from 1 to 9
nine-at : (P : ℕ → Type 0) → All P one_to_nine → (n : ℕ) → 1 ≤ n → n ≤ most_tries → P n
nine-at P h zero some most = absurd (omega arith)
nine-at P h (suc zero) some most = h.0
nine-at P h (suc (suc zero)) some most = h.1.0
nine-at P h (suc (suc (suc zero))) some most = h.1.1.0
nine-at P h (suc (suc (suc (suc zero)))) some most = h.1.1.1.0
nine-at P h (suc (suc (suc (suc (suc zero))))) some most = h.1.1.1.1.0
nine-at P h (suc (suc (suc (suc (suc (suc zero)))))) some most = h.1.1.1.1.1.0
nine-at P h (suc (suc (suc (suc (suc (suc (suc zero))))))) some most = h.1.1.1.1.1.1.0
nine-at P h (suc (suc (suc (suc (suc (suc (suc (suc zero)))))))) some most = h.1.1.1.1.1.1.1.0
nine-at P h (suc (suc (suc (suc (suc (suc (suc (suc (suc zero))))))))) some most = h.1.1.1.1.1.1.1.1.0
nine-at P h (suc (suc (suc (suc (suc (suc (suc (suc (suc (suc n)))))))))) some most = absurd (omega arith)

-- what the rows come to, computed for each n, whatever the tries: the row leaves both as they are, and RIU 7 alone too; and the first
-- records lead to such a box
abbrev Rows : ℕ → (ℕ → Phase) → List (List ℕ) → List (List ℕ) → ℕ → Type 0
Rows mission ph records row n =
    ((t u : ℕ)
    → Passes (steady n mission six (seat Outgoing (ph t) rbc5) (seat Outgoing (ph u) riu7)) row
    (steady n mission six (seat Outgoing (ph t) rbc5) (seat Outgoing (ph u) riu7)))
    × ((u : ℕ)
    → Passes (steady n mission six vacant (seat Outgoing (ph u) riu7)) row
    (steady n mission six vacant (seat Outgoing (ph u) riu7)))
    × (goes (started n) (records ++ row) ≡ steady n mission six (seat Outgoing (ph 1) rbc5) (seat Outgoing (ph 1) riu7))

connecting-rows : All (Rows 2 Connecting both_connecting among_orders) one_to_nine
unfolding reading turn first seek cold cold_start closed closing_actions step goes quietly some recalled steady
connecting-rows =
    ((λ t u. (refl, refl, refl)), (λ u. (refl, refl, refl)), refl)
    ▹ ((λ t u. (refl, refl, refl)), (λ u. (refl, refl, refl)), refl)
    ▹ ((λ t u. (refl, refl, refl)), (λ u. (refl, refl, refl)), refl)
    ▹ ((λ t u. (refl, refl, refl)), (λ u. (refl, refl, refl)), refl)
    ▹ ((λ t u. (refl, refl, refl)), (λ u. (refl, refl, refl)), refl)
    ▹ ((λ t u. (refl, refl, refl)), (λ u. (refl, refl, refl)), refl)
    ▹ ((λ t u. (refl, refl, refl)), (λ u. (refl, refl, refl)), refl)
    ▹ ((λ t u. (refl, refl, refl)), (λ u. (refl, refl, refl)), refl)
    ▹ ((λ t u. (refl, refl, refl)), (λ u. (refl, refl, refl)), refl)
    ▹ tt

contacting-rows : All (Rows 2 Contacting both_contacting among_orders) one_to_nine
unfolding reading turn first seek cold cold_start closed closing_actions step goes quietly some recalled steady
contacting-rows =
    ((λ t u. (refl, refl, refl)), (λ u. (refl, refl, refl)), refl)
    ▹ ((λ t u. (refl, refl, refl)), (λ u. (refl, refl, refl)), refl)
    ▹ ((λ t u. (refl, refl, refl)), (λ u. (refl, refl, refl)), refl)
    ▹ ((λ t u. (refl, refl, refl)), (λ u. (refl, refl, refl)), refl)
    ▹ ((λ t u. (refl, refl, refl)), (λ u. (refl, refl, refl)), refl)
    ▹ ((λ t u. (refl, refl, refl)), (λ u. (refl, refl, refl)), refl)
    ▹ ((λ t u. (refl, refl, refl)), (λ u. (refl, refl, refl)), refl)
    ▹ ((λ t u. (refl, refl, refl)), (λ u. (refl, refl, refl)), refl)
    ▹ ((λ t u. (refl, refl, refl)), (λ u. (refl, refl, refl)), refl)
    ▹ tt

lost-rows : All (Rows 2 Lost both_lost among_others) one_to_nine
unfolding reading turn first seek cold cold_start closed closing_actions step goes quietly some recalled steady
lost-rows =
    ((λ t u. (refl, refl, refl)), (λ u. (refl, refl, refl)), refl)
    ▹ ((λ t u. (refl, refl, refl)), (λ u. (refl, refl, refl)), refl)
    ▹ ((λ t u. (refl, refl, refl)), (λ u. (refl, refl, refl)), refl)
    ▹ ((λ t u. (refl, refl, refl)), (λ u. (refl, refl, refl)), refl)
    ▹ ((λ t u. (refl, refl, refl)), (λ u. (refl, refl, refl)), refl)
    ▹ ((λ t u. (refl, refl, refl)), (λ u. (refl, refl, refl)), refl)
    ▹ ((λ t u. (refl, refl, refl)), (λ u. (refl, refl, refl)), refl)
    ▹ ((λ t u. (refl, refl, refl)), (λ u. (refl, refl, refl)), refl)
    ▹ ((λ t u. (refl, refl, refl)), (λ u. (refl, refl, refl)), refl)
    ▹ tt

ending-rows : All (Rows 0 Ending both_ending among_all) one_to_nine
unfolding reading turn first seek cold cold_start closed closing_actions step goes quietly some recalled steady
ending-rows =
    ((λ t u. (refl, refl, refl)), (λ u. (refl, refl, refl)), refl)
    ▹ ((λ t u. (refl, refl, refl)), (λ u. (refl, refl, refl)), refl)
    ▹ ((λ t u. (refl, refl, refl)), (λ u. (refl, refl, refl)), refl)
    ▹ ((λ t u. (refl, refl, refl)), (λ u. (refl, refl, refl)), refl)
    ▹ ((λ t u. (refl, refl, refl)), (λ u. (refl, refl, refl)), refl)
    ▹ ((λ t u. (refl, refl, refl)), (λ u. (refl, refl, refl)), refl)
    ▹ ((λ t u. (refl, refl, refl)), (λ u. (refl, refl, refl)), refl)
    ▹ ((λ t u. (refl, refl, refl)), (λ u. (refl, refl, refl)), refl)
    ▹ ((λ t u. (refl, refl, refl)), (λ u. (refl, refl, refl)), refl)
    ▹ tt

module _ (n : ℕ) (some-try : 1 ≤ n) (most : n ≤ most_tries) where
  -- meaning
  pub connecting-held : BothHeld n (both_connecting ++ among_orders) among_orders (Connecting 1)
  unfolding turn timeouts reading
  connecting-held =
      let rows = nine-at (Rows 2 Connecting both_connecting among_orders) connecting-rows n some-try most in
      both-held n 2 Connecting 21 refl
      (λ t below. ap (λ b. cond b (Sends 21 (Connecting (t + 1))) Released) (lt-ltb t n below))
      (ap (λ b. cond b (Sends 21 (Connecting (n + 1))) Released) (le-ltb n n (omega arith)))
      (λ t. refl) among_orders rows.0 rows.1 refl refl some-try (both_connecting ++ among_orders) rows.2

  -- meaning
  pub contacting-held : BothHeld n (both_contacting ++ among_orders) among_orders (Contacting 1)
  unfolding turn timeouts reading
  contacting-held =
      let rows = nine-at (Rows 2 Contacting both_contacting among_orders) contacting-rows n some-try most in
      both-held n 2 Contacting 155 refl
      (λ t below. ap (λ b. cond b (Sends 155 (Contacting (t + 1))) Released) (lt-ltb t n below))
      (ap (λ b. cond b (Sends 155 (Contacting (n + 1))) Released) (le-ltb n n (omega arith)))
      (λ t. refl) among_orders rows.0 rows.1 refl refl some-try (both_contacting ++ among_orders) rows.2

  -- meaning
  pub lost-held : BothHeld n (both_lost ++ among_others) among_others (Lost 1)
  unfolding turn timeouts reading
  lost-held =
      let rows = nine-at (Rows 2 Lost both_lost among_others) lost-rows n some-try most in
      both-held n 2 Lost 21 refl
      (λ t below. ap (λ b. cond b (Sends 21 (Lost (t + 1))) Released) (lt-ltb t n below))
      (ap (λ b. cond b (Sends 21 (Lost (n + 1))) Released) (le-ltb n n (omega arith)))
      (λ t. refl) among_others rows.0 rows.1 refl refl some-try (both_lost ++ among_others) rows.2

  -- meaning
  pub ending-held : BothHeld n (both_ending ++ among_all) among_all (Ending 1)
  unfolding turn timeouts reading
  ending-held =
      let rows = nine-at (Rows 0 Ending both_ending among_all) ending-rows n some-try most in
      both-held n 0 Ending 156 refl
      (λ t below. ap (λ b. cond b (Sends 156 (Ending (t + 1))) Released) (lt-ltb t n below))
      (ap (λ b. cond b (Sends 156 (Ending (n + 1))) Released) (le-ltb n n (omega arith)))
      (λ t. refl) among_all rows.0 rows.1 refl refl some-try (both_ending ++ among_all) rows.2

-- what the row holds, by the numbers of its steps between timeouts in Ending with three tries: its records are accepted, but a 38 of RBC 6
-- that has a place (5), timeouts and drops of RBC 7 and RIU 5 that have none (6), and those that are refused as they are read (1, 1, 2, 3)
-- meaning
pub among-all-codes :
    map (λ o. o.code) (trace (after (started 3) (both_ending ++ among_all)) among_all)
    ≡ replicate 21 0 ++ (5 ∷ 0 ∷ 0 ∷ 6 ∷ 6 ∷ 6 ∷ 6 ∷ replicate 10 0) ++ (1 ∷ 1 ∷ 2 ∷ 3 ∷ 3 ∷ 3 ∷ [])
unfolding reading turn first seek places_ok sound cold cold_start closed closing_actions step on_record after trace some recalled
among-all-codes = refl

-- meaning
pub among-orders-codes :
    map (λ o. o.code) (trace (after (started 3) (both_contacting ++ among_orders)) among_orders)
    ≡ replicate 21 0 ++ (5 ∷ 0 ∷ 0 ∷ 6 ∷ 6 ∷ 6 ∷ 6 ∷ replicate 4 0) ++ (1 ∷ 1 ∷ 2 ∷ 3 ∷ 3 ∷ 3 ∷ [])
unfolding reading turn first seek places_ok sound cold cold_start closed closing_actions step on_record after trace some recalled
among-orders-codes = refl

-- meaning
pub among-others-codes :
    map (λ o. o.code) (trace (after (started 3) (both_lost ++ among_others)) among_others)
    ≡ replicate 21 0 ++ (5 ∷ 0 ∷ 0 ∷ 6 ∷ 6 ∷ 6 ∷ 6 ∷ []) ++ (1 ∷ 1 ∷ 2 ∷ 3 ∷ 3 ∷ 3 ∷ [])
unfolding reading turn first seek places_ok sound cold cold_start closed closing_actions step on_record after trace some recalled
among-others-codes = refl

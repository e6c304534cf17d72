-- Examples only: nobody has to believe what stands here.
-- Document 01, "Worth of each promise": "the histories that reach them", from a cold start with X 1 to 2 and n tries and with one
-- partner, RBC 5.
-- Defines: rbc5, order5, drop5, up5, lost5, timeout5, version5, call5, ended5, retries, losses_in, ended_late, ordering, calling,
-- repeated, reaching, one_to_nine, HeldTo.
use Rattle.std.specs.Prelude.{ℕ, zero, suc, ◌+◌, ◌-◌, ◌≡◌, true, List, [], ◌∷◌, ◌++◌, get_or, replicate}
use Rattle.record.specs.Partners.{rbc}
use Rattle.record.specs.declared.partner.Partner.{Partner}
use Rattle.place.specs.Places.{vacant, held_phase}
use Rattle.place.specs.declared.phase.Phase.{Phase}
use Rattle.history.specs.Histories.{after, silent, timeouts, holds_place, waits}
use Rattle.history.specs.PerEvent.{timeouts_to_release}
use Rattle.history.specs.Sums.{started}

-- the partner "RBC 5"
abbrev pub rbc5 : Partner
rbc5 = record { kind = rbc; high = 0; middle = 0; low = 5 }

-- the records that name RBC 5: order with cause 1, drop, up, lost, timeout, and the messages 32 with version 17, 38, 39
abbrev pub order5 : List ℕ
order5 = 5 ∷ 0 ∷ 0 ∷ 0 ∷ 5 ∷ 1 ∷ 1 ∷ []

abbrev pub drop5 : List ℕ
drop5 = 6 ∷ 0 ∷ 0 ∷ 0 ∷ 5 ∷ []

abbrev pub up5 : List ℕ
up5 = 8 ∷ 0 ∷ 0 ∷ 0 ∷ 5 ∷ []

abbrev pub lost5 : List ℕ
lost5 = 9 ∷ 0 ∷ 0 ∷ 0 ∷ 5 ∷ []

abbrev pub timeout5 : List ℕ
timeout5 = 10 ∷ 0 ∷ 0 ∷ 0 ∷ 5 ∷ []

abbrev pub version5 : List ℕ
version5 = 11 ∷ 0 ∷ 0 ∷ 0 ∷ 5 ∷ 32 ∷ 17 ∷ []

abbrev pub call5 : List ℕ
call5 = 11 ∷ 0 ∷ 0 ∷ 0 ∷ 5 ∷ 38 ∷ 0 ∷ []

abbrev pub ended5 : List ℕ
ended5 = 11 ∷ 0 ∷ 0 ∷ 0 ∷ 5 ∷ 39 ∷ 0 ∷ []

-- all tries of a phase but the first
abbrev pub retries : ℕ → List (List ℕ)
retries n = replicate (n - 1) timeout5

-- an open session lost and won back as late as can be, so many times
unfoldable pub losses_in : ℕ → ℕ → List (List ℕ)
losses_in n zero = []
losses_in n (suc c) = lost5 ∷ (retries n ++ (up5 ∷ losses_in n c))

-- an open session ended as late as can be
abbrev pub ended_late : ℕ → List (List ℕ)
ended_late n = drop5 ∷ (retries n ++ (ended5 ∷ []))

-- one order, or one call, and c losses; "P10" is `ordering 3 0`
unfoldable pub ordering : ℕ → ℕ → List (List ℕ)
ordering n c = order5 ∷ (retries n ++ (up5 ∷ (retries n ++ (version5 ∷ (losses_in n c ++ ended_late n)))))

unfoldable pub calling : ℕ → ℕ → List (List ℕ)
calling n c = call5 ∷ (losses_in n c ++ ended_late n)

-- a history so many times
unfoldable pub repeated : ℕ → List (List ℕ) → List (List ℕ)
repeated zero history = []
repeated (suc k) history = history ++ repeated k history

-- a orders, b calls and c losses, all losses in the first session; without a session there is no loss
unfoldable pub reaching : ℕ → ℕ → ℕ → ℕ → List (List ℕ)
reaching n zero zero c = []
reaching n zero (suc b) c = calling n c ++ repeated b (calling n 0)
reaching n (suc a) b c = ordering n c ++ (repeated a (ordering n 0) ++ repeated b (calling n 0))

-- "n, 1 to 9"
abbrev pub one_to_nine : List ℕ
one_to_nine = 1 ∷ 2 ∷ 3 ∷ 4 ∷ 5 ∷ 6 ∷ 7 ∷ 8 ∷ 9 ∷ []

-- RBC 5 waits in this phase after these records, and then still holds its place after one timeout less than release it
abbrev pub HeldTo : ℕ → List (List ℕ) → Phase → Type 0
HeldTo n records ph =
    (held_phase (get_or (after (started n) records).places 0 vacant) ≡ ph)
    × (waits rbc5 (after (started n) records).places ≡ true)
    × (silent rbc5 (after (started n) records) (retries n) ≡ true)
    × (timeouts rbc5 (retries n) + 1 ≡ timeouts_to_release n)
    × (holds_place rbc5 (after (after (started n) records) (retries n)).places ≡ true)

-- Cross-checks only: nobody has to believe what stands here.
-- A cold start by its three numbers; what is counted of what C sees of a history of calls, by the numbers returned and by bytes; and
-- records that are lent with one buffer.
-- Defines: started_with, first_image, count_of, over_seen, actions_seen, orders_seen, calls_seen, losses_seen, releases_to_seen, lent_with,
-- actions_passing, releases_seen, places_passing, places_seen, held_seen, holds_seen, waits_seen.
use Rattle.std.specs.Prelude.{ℕ, ◌&&◌, List, [], ◌∷◌, map, eqb, ℤ, pos, negsuc, zero, suc, ◌+◌, Bool, not, take, drop}
use Rattle.record.specs.Partners.{same_partner}
use Rattle.record.specs.declared.partner.Partner.{Partner}
use Rattle.place.specs.Table.{release}
use Rattle.firmware.specs.Calls.{Seen}
use Rattle.firmware.specs.Along.{Lent, is_accepted}
use Rattle.history.specs.Histories.{is_order, is_call, is_loss}
use Rattle.wire.specs.Bytes.{byte}
use Rattle.record.specs.Partners.{partner_at}
use Rattle.place.specs.Places.{phase_number}
use Rattle.place.specs.declared.phase.Phase.TheVariants.{Open}
use Rattle.unit.specs.States.{place_count}
use Rattle.unit.specs.OnRecords.{action_size}
use Rattle.image.specs.Images.{place_size, head_size}
use Rattle.wire.specs.Bytes.{as_bit}
use Rattle.unit.specs.States.{cold_start}
use Rattle.unit.specs.declared.state.State.{State}
use Rattle.image.specs.Images.{size_a2}
use Rattle.firmware.specs.Starts.{limits_of, start_image}

-- the state of a cold start with the three numbers, and the image of it that a board goes on with: the first 42 bytes of the buffer
abbrev pub started_with : ℕ → ℕ → ℕ → State
started_with lowest highest tries = (cold_start (limits_of lowest highest tries)).state

abbrev pub first_image : ℕ → ℕ → ℕ → List ℕ → List ℕ
first_image lowest highest tries image = take size_a2 (start_image (limits_of lowest highest tries) image)

-- how many actions a number says
abbrev pub count_of : ℤ → ℕ
count_of (pos n) = n
count_of (negsuc n) = 0

-- the sum over the calls of a history, of what the record and what C sees after it count for
unfoldable pub over_seen : (List ℕ → Seen → ℕ) → List (List ℕ) → List Seen → ℕ
over_seen f [] seen = 0
over_seen f (bytes ∷ history) [] = 0
over_seen f (bytes ∷ history) (x ∷ seen) = f bytes x + over_seen f history seen

-- the actions, by the numbers returned
abbrev pub actions_seen : List (List ℕ) → List Seen → ℕ
actions_seen = over_seen (λ bytes x. count_of x.number)

-- the accepted orders, calls 38 and losses
abbrev pub orders_seen : List (List ℕ) → List Seen → ℕ
orders_seen = over_seen (λ bytes x. as_bit (is_order bytes && is_accepted x.number))

abbrev pub calls_seen : List (List ℕ) → List Seen → ℕ
calls_seen = over_seen (λ bytes x. as_bit (is_call bytes && is_accepted x.number))

abbrev pub losses_seen : List (List ℕ) → List Seen → ℕ
losses_seen = over_seen (λ bytes x. as_bit (is_loss bytes && is_accepted x.number))

-- how many of so many actions in a buffer pass a test of their number and partner
unfoldable pub actions_passing : (ℕ → Partner → Bool) → ℕ → List ℕ → ℕ
actions_passing test zero buffer = 0
actions_passing test (suc k) buffer =
    as_bit (test (byte buffer 0) (partner_at 1 buffer))
    + actions_passing test k (drop action_size buffer)

-- the releases, by the bytes of the buffer
abbrev pub releases_seen : List (List ℕ) → List Seen → ℕ
releases_seen = over_seen (λ bytes x. actions_passing (λ number p. eqb number release) (count_of x.number) x.actions)

-- how many of so many places in an image pass a test of their phase and partner
unfoldable pub places_passing : (ℕ → Partner → Bool) → ℕ → List ℕ → ℕ
places_passing test zero s = 0
places_passing test (suc k) s =
    as_bit (test (byte s 0) (partner_at 3 s))
    + places_passing test k (drop place_size s)

-- of all its places, which stand behind the kind and the head
abbrev pub places_seen : (ℕ → Partner → Bool) → List ℕ → ℕ
places_seen test image = places_passing test place_count (drop (1 + head_size) image)

-- the places that an image holds partners in: the phase is not 0
abbrev pub held_seen : List ℕ → ℕ
held_seen = places_seen (λ phase q. not (eqb phase 0))

-- the places that hold a partner, and those in which it waits: in any phase but Open
abbrev pub holds_seen : Partner → List ℕ → ℕ
holds_seen p = places_seen (λ phase q. not (eqb phase 0) && same_partner p q)

abbrev pub waits_seen : Partner → List ℕ → ℕ
waits_seen p = places_seen (λ phase q. (not (eqb phase 0) && not (eqb phase (phase_number Open))) && same_partner p q)

-- the releases of one partner, by the bytes of the buffer
abbrev pub releases_to_seen : Partner → List (List ℕ) → List Seen → ℕ
releases_to_seen p =
    over_seen (λ bytes x. actions_passing (λ number q. eqb number release && same_partner p q) (count_of x.number) x.actions)

-- these records, each lent with a copy of one buffer
abbrev pub lent_with : List ℕ → List (List ℕ) → List Lent
lent_with buffer = map (λ bytes. record { bytes = bytes; actions = buffer })

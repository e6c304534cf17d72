-- Cross-checks only: rules told a second time.
-- Request Q-14: what the definitions over calls mean, call by call and byte by byte.
-- Proves: roomy-means, numbers-mean, seen_along-means, last_image-means, sums_none, sums_next, actions_passing-means, places_seen-means,
-- first_image-means, lent_with-means.
use mathlib.Core.Path.{◌≡◌, refl, ap, ap₂, ◌∙◌}
use mathlib.Core.Logic.{◌↔◌}
use mathlib.Core.Bool.{Bool, true, false, ◌&&◌, not}
use mathlib.Core.List.{List, [], ◌∷◌, ◌++◌}
use Prim.Native.Nat.{ℕ, zero, suc, ◌+◌, ◌*◌, ◌≤◌, ◌<◌}
use native.Mathlib.Omega.{arith}
use lib.Dec.{eqb, leb}
use lib.IntN.{pos, negsuc}
use lib.ListN.{length, take, drop, get_or, replicate}
use lib.Seq.{take_at, drop-drop, get_or-drop}
use borrow.Author.Tests.{le-leb, leb-true}
use Rattle.wire.specs.Bytes.{byte}
use Rattle.wire.proofs.Tests.{and_left, and_right}
use Rattle.record.specs.declared.partner.Partner.{Partner}
use Rattle.record.specs.Partners.{same_partner}
use Rattle.wire.specs.Blocks.{blocks}
use Rattle.unit.specs.OnRecords.{action_room}
use Rattle.unit.specs.States.{cold}
use Rattle.image.specs.Images.{body_bytes, whole_bytes, image_a2}
use Rattle.wire.specs.Bytes.{as_bit}
use Rattle.image.specs.Calls.{on_image}
use Rattle.firmware.specs.Calls.{Seen, seen_after}
use Rattle.firmware.specs.Along.{Lent, lent_records, roomy, seen_along, last_image, is_accepted}
use Rattle.firmware.specs.AlongWords.{count_of, over_seen}
use Rattle.firmware.specs.AlongWords.{actions_seen, orders_seen, calls_seen, losses_seen}
use Rattle.firmware.specs.AlongWords.{releases_seen}
use Rattle.firmware.specs.AlongWords.{releases_to_seen, lent_with}
use Rattle.firmware.specs.AlongWords.{actions_passing, places_passing, places_seen, held_seen, holds_seen, waits_seen}
use Rattle.firmware.specs.AlongWords.{started_with, first_image}
use Rattle.firmware.proofs.Following.{done-returned, on_image-count}
use Rattle.firmware.proofs.Again.Answers.{state-is, start-done}

-- a history of calls is roomy exactly when the action buffer of each of its calls has 20 bytes or more
-- meaning
pub roomy-means : (history : List Lent)
    → (roomy history ≡ true)
    ↔ ((i : ℕ) → i < length history → 20 ≤ length (get_or history i (record { bytes = []; actions = [] })).actions)
unfolding roomy
roomy-means history = (each history, whole history)
  where
    each : (history : List Lent)
        → roomy history ≡ true
        → (i : ℕ)
        → i < length history
        → 20 ≤ length (get_or history i (record { bytes = []; actions = [] })).actions
    each [] enough i below = absurd (omega arith)
    each (x ∷ rest) enough zero below =
        leb-true action_room (length x.actions) (and_left (leb action_room (length x.actions)) (roomy rest) enough)
    each (x ∷ rest) enough (suc i) below =
        each rest (and_right (leb action_room (length x.actions)) (roomy rest) enough) i (omega arith)

    whole : (history : List Lent)
        → ((i : ℕ) → i < length history → 20 ≤ length (get_or history i (record { bytes = []; actions = [] })).actions)
        → roomy history ≡ true
    whole [] all = refl
    whole (x ∷ rest) all =
        ap₂ ◌&&◌ (le-leb action_room (length x.actions) (all 0 (omega arith)))
        (whole rest (λ i below. all (suc i) (omega arith)))

-- "the number of actions or minus the refusal": a number is of an accepted call unless it is below 0, and then counts no action; so a
-- call is accepted exactly when its code is 0, and the number counts its actions
-- meaning
pub numbers-mean : (image bytes actions : List ℕ)
    → ((n : ℕ) → (is_accepted (pos n) ≡ true) × (count_of (pos n) ≡ n))
    × ((n : ℕ) → (is_accepted (negsuc n) ≡ false) × (count_of (negsuc n) ≡ 0))
    × (is_accepted (seen_after image bytes actions).number ≡ eqb (on_image image bytes (length actions)).code 0)
    × (count_of (seen_after image bytes actions).number ≡ length (on_image image bytes (length actions)).actions)
unfolding seen_after
numbers-mean image bytes actions = (
  (λ n. (refl, refl)),
  (λ n. (refl, refl)),
  done-returned (on_image image bytes (length actions)),
  on_image-count image bytes (length actions),
)

-- what C sees is one call after another: the first with the image that it starts with, each later one with the image that the call before
-- it left, each with its own record and its own buffer
-- meaning
pub seen_along-means : (image : List ℕ) (history : List Lent) (unseen : Seen)
    → (length (seen_along image history) ≡ length history)
    × (length (lent_records history) ≡ length history)
    × (0 < length history
    → get_or (seen_along image history) 0 unseen
    ≡ seen_after image (get_or (lent_records history) 0 []) (get_or history 0 (record { bytes = []; actions = [] })).actions)
    × ((i : ℕ)
    → suc i < length history
    → get_or (seen_along image history) (suc i) unseen
    ≡ seen_after (get_or (seen_along image history) i unseen).image
    (get_or (lent_records history) (suc i) [])
    (get_or history (suc i) (record { bytes = []; actions = [] })).actions)
    × ((i : ℕ) → get_or (lent_records history) i [] ≡ (get_or history i (record { bytes = []; actions = [] })).bytes)
unfolding seen_along
seen_along-means image history unseen =
    (as_many image history, records-many history, first image history, next image history, own history)
  where
    as_many : (image : List ℕ) (history : List Lent) → length (seen_along image history) ≡ length history
    as_many image [] = refl
    as_many image (x ∷ rest) = ap suc (as_many (seen_after image x.bytes x.actions).image rest)

    records-many : (history : List Lent) → length (lent_records history) ≡ length history
    records-many [] = refl
    records-many (x ∷ rest) = ap suc (records-many rest)

    first : (image : List ℕ) (history : List Lent)
        → 0 < length history
        → get_or (seen_along image history) 0 unseen
        ≡ seen_after image (get_or (lent_records history) 0 []) (get_or history 0 (record { bytes = []; actions = [] })).actions
    first image [] below = absurd (omega arith)
    first image (x ∷ rest) below = refl

    next : (image : List ℕ) (history : List Lent) (i : ℕ)
        → suc i < length history
        → get_or (seen_along image history) (suc i) unseen
        ≡ seen_after (get_or (seen_along image history) i unseen).image
        (get_or (lent_records history) (suc i) [])
        (get_or history (suc i) (record { bytes = []; actions = [] })).actions
    next image [] i below = absurd (omega arith)
    next image (x ∷ rest) zero below = first (seen_after image x.bytes x.actions).image rest (omega arith)
    next image (x ∷ rest) (suc i) below = next (seen_after image x.bytes x.actions).image rest i (omega arith)

    own : (history : List Lent) (i : ℕ)
        → get_or (lent_records history) i [] ≡ (get_or history i (record { bytes = []; actions = [] })).bytes
    own [] i = refl
    own (x ∷ rest) zero = refl
    own (x ∷ rest) (suc i) = own rest i

-- the image after the calls is the one that the last of them left, or the first where there is none
-- meaning
pub last_image-means : (image : List ℕ)
    → (last_image image [] ≡ image)
    × ((seen : List Seen) (x : Seen) → last_image image (seen ++ (x ∷ [])) ≡ x.image)
unfolding last_image
last_image-means image = (refl, λ seen x. last image seen x)
  where
    last : (image : List ℕ) (seen : List Seen) (x : Seen) → last_image image (seen ++ (x ∷ [])) ≡ x.image
    last image [] x = refl
    last image (y ∷ seen) x = last y.image seen x

-- a sum over calls and one more
over-next : (f : List ℕ → Seen → ℕ) (history : List (List ℕ)) (seen : List Seen) (bytes : List ℕ) (x : Seen)
    → length history ≡ length seen
    → over_seen f (history ++ (bytes ∷ [])) (seen ++ (x ∷ [])) ≡ over_seen f history seen + f bytes x
unfolding over_seen
over-next f [] [] bytes x as_many = omega arith
over-next f [] (y ∷ seen) bytes x as_many = absurd (omega arith)
over-next f (first ∷ history) [] bytes x as_many = absurd (omega arith)
over-next f (first ∷ history) (y ∷ seen) bytes x as_many =
    let rest = over-next f history seen bytes x (omega arith) in
    omega arith

-- of no call C counts nothing, and nothing of a record that no call was made with
-- meaning
pub sums_none : (p : Partner) (f : List ℕ → Seen → ℕ) (history : List (List ℕ)) (seen : List Seen)
    → (over_seen f [] seen ≡ 0)
    × (over_seen f history [] ≡ 0)
    × (actions_seen [] [] ≡ 0)
    × (orders_seen [] [] ≡ 0)
    × (calls_seen [] [] ≡ 0)
    × (losses_seen [] [] ≡ 0)
    × (releases_seen [] [] ≡ 0)
    × (releases_to_seen p [] [] ≡ 0)
unfolding over_seen
sums_none p f history seen = (refl, none history, refl, refl, refl, refl, refl, refl)
  where
    none : (history : List (List ℕ)) → over_seen f history [] ≡ 0
    none [] = refl
    none (bytes ∷ rest) = refl

-- one call more counts its number of actions; 1 if it is an accepted order (kind 5), call (kind 11 with message 38), loss (kind 9); and
-- the actions 22 in its buffer, all and those to one partner
-- meaning
pub sums_next : (history : List (List ℕ)) (seen : List Seen)
    → length history ≡ length seen
    → (bytes : List ℕ) (x : Seen) (p : Partner)
    → (actions_seen (history ++ (bytes ∷ [])) (seen ++ (x ∷ [])) ≡ actions_seen history seen + count_of x.number)
    × (orders_seen (history ++ (bytes ∷ [])) (seen ++ (x ∷ []))
    ≡ orders_seen history seen + as_bit (eqb (byte bytes 0) 5 && is_accepted x.number))
    × (calls_seen (history ++ (bytes ∷ [])) (seen ++ (x ∷ []))
    ≡ calls_seen history seen + as_bit ((eqb (byte bytes 0) 11 && eqb (byte bytes 5) 38) && is_accepted x.number))
    × (losses_seen (history ++ (bytes ∷ [])) (seen ++ (x ∷ []))
    ≡ losses_seen history seen + as_bit (eqb (byte bytes 0) 9 && is_accepted x.number))
    × (releases_seen (history ++ (bytes ∷ [])) (seen ++ (x ∷ []))
    ≡ releases_seen history seen + actions_passing (λ number q. eqb number 22) (count_of x.number) x.actions)
    × (releases_to_seen p (history ++ (bytes ∷ [])) (seen ++ (x ∷ []))
    ≡ releases_to_seen p history seen
    + actions_passing (λ number q. eqb number 22 && same_partner p q) (count_of x.number) x.actions)
sums_next history seen as_many bytes x p = (
  over-next _ history seen bytes x as_many,
  over-next _ history seen bytes x as_many,
  over-next _ history seen bytes x as_many,
  over-next _ history seen bytes x as_many,
  over-next _ history seen bytes x as_many,
  over-next _ history seen bytes x as_many,
)

-- so many actions in a buffer, and one more: its number is the byte at 5 times their number, its partner the four bytes behind it
-- meaning
pub actions_passing-means : (test : ℕ → Partner → Bool) (buffer : List ℕ)
    → (actions_passing test 0 buffer ≡ 0)
    × ((k : ℕ)
    → actions_passing test (suc k) buffer
    ≡ actions_passing test k buffer
    + as_bit
    (test (byte buffer (5 * k))
    (record {
      kind = byte buffer (5 * k + 1);
      high = byte buffer (5 * k + 2);
      middle = byte buffer (5 * k + 3);
      low = byte buffer (5 * k + 4);
    })))
unfolding actions_passing
actions_passing-means test buffer = (refl, λ k. next k buffer)
  where
    At : List ℕ → ℕ → ℕ → ℕ → ℕ → ℕ → ℕ
    At buffer a b c d e =
        as_bit
        (test (byte buffer a)
        (record { kind = byte buffer b; high = byte buffer c; middle = byte buffer d; low = byte buffer e }))

    Own : List ℕ → ℕ → ℕ
    Own buffer k = At buffer (5 * k) (5 * k + 1) (5 * k + 2) (5 * k + 3) (5 * k + 4)

    -- the bytes behind the first action, five further on
    there : (buffer : List ℕ) (j : ℕ) (far : ℕ) → 5 + j ≡ far → byte (drop 5 buffer) j ≡ byte buffer far
    there buffer j far is = get_or-drop 5 buffer j 0 ∙ ap (byte buffer) is

    behind : (buffer : List ℕ) (k : ℕ) → Own (drop 5 buffer) k ≡ Own buffer (suc k)
    behind buffer k =
        let a = there buffer (5 * k) (5 * suc k) (omega arith) in
        let b = there buffer (5 * k + 1) (5 * suc k + 1) (omega arith) in
        let c = there buffer (5 * k + 2) (5 * suc k + 2) (omega arith) in
        let d = there buffer (5 * k + 3) (5 * suc k + 3) (omega arith) in
        let e = there buffer (5 * k + 4) (5 * suc k + 4) (omega arith) in
        λ z. as_bit (test (a z) (record { kind = b z; high = c z; middle = d z; low = e z }))

    next : (k : ℕ) (buffer : List ℕ) → actions_passing test (suc k) buffer ≡ actions_passing test k buffer + Own buffer k
    next zero buffer = omega arith
    next (suc k) buffer =
        let rest = next k (drop 5 buffer) in
        let same = behind buffer k in
        omega arith

-- the four places of an image: the phase of place i is the byte at 9 + 7i, its partner the four bytes at 12 + 7i; a place holds a partner
-- unless its phase is 0, and the partner waits there unless it is 0 or 3, which is Open
-- meaning
pub places_seen-means : (image : List ℕ)
    → ((test : ℕ → Partner → Bool)
    → places_seen test image
    ≡ as_bit
    (test (byte image 9)
    (record { kind = byte image 12; high = byte image 13; middle = byte image 14; low = byte image 15 }))
    + as_bit
    (test (byte image 16)
    (record { kind = byte image 19; high = byte image 20; middle = byte image 21; low = byte image 22 }))
    + as_bit
    (test (byte image 23)
    (record { kind = byte image 26; high = byte image 27; middle = byte image 28; low = byte image 29 }))
    + as_bit
    (test (byte image 30)
    (record { kind = byte image 33; high = byte image 34; middle = byte image 35; low = byte image 36 })))
    × (held_seen image ≡ places_seen (λ phase q. not (eqb phase 0)) image)
    × ((p : Partner)
    → (holds_seen p image ≡ places_seen (λ phase q. not (eqb phase 0) && same_partner p q) image)
    × (waits_seen p image
    ≡ places_seen (λ phase q. (not (eqb phase 0) && not (eqb phase 3)) && same_partner p q) image))
unfolding places_passing
places_seen-means image = (sums, refl, λ p. (refl, refl))
  where
    -- what stands behind the first bytes of an image
    there : (far i : ℕ) → byte (drop far image) i ≡ byte image (far + i)
    there far i = get_or-drop far image i 0

    seat : (test : ℕ → Partner → Bool) → List ℕ → ℕ
    seat test s = as_bit (test (byte s 0) (record { kind = byte s 3; high = byte s 4; middle = byte s 5; low = byte s 6 }))

    at : (test : ℕ → Partner → Bool) (far : ℕ)
        → seat test (drop far image)
        ≡ as_bit
        (test (byte image (far + 0))
        (record { kind = byte image (far + 3); high = byte image (far + 4); middle = byte image (far + 5); low = byte image (far + 6) }))
    at test far =
        λ z.
        as_bit
        (test (there far 0 z)
        (record { kind = there far 3 z; high = there far 4 z; middle = there far 5 z; low = there far 6 z }))

    sums : (test : ℕ → Partner → Bool)
        → places_seen test image
        ≡ as_bit
        (test (byte image 9)
        (record { kind = byte image 12; high = byte image 13; middle = byte image 14; low = byte image 15 }))
        + as_bit
        (test (byte image 16)
        (record { kind = byte image 19; high = byte image 20; middle = byte image 21; low = byte image 22 }))
        + as_bit
        (test (byte image 23)
        (record { kind = byte image 26; high = byte image 27; middle = byte image 28; low = byte image 29 }))
        + as_bit
        (test (byte image 30)
        (record { kind = byte image 33; high = byte image 34; middle = byte image 35; low = byte image 36 }))
    sums test =
        let second : seat test (drop 7 (drop 9 image)) ≡ _ = ap (seat test) (drop-drop 7 9 image) ∙ at test 16 in
        let third : seat test (drop 7 (drop 7 (drop 9 image))) ≡ _ =
        ap (λ s. seat test (drop 7 s)) (drop-drop 7 9 image) ∙ ap (seat test) (drop-drop 7 16 image) ∙ at test 23 in
        let fourth : seat test (drop 7 (drop 7 (drop 7 (drop 9 image)))) ≡ _ =
        ap (λ s. seat test (drop 7 (drop 7 s))) (drop-drop 7 9 image)
        ∙ ap (λ s. seat test (drop 7 s)) (drop-drop 7 16 image)
        ∙ ap (seat test) (drop-drop 7 23 image)
        ∙ at test 30 in
        let one-first = at test 9 in
        omega (arith, one-first, second, third, fourth)

-- "starting from one that a cold start wrote": the state that histories of calls start from, and its 42 bytes; behind the kind A2 hex and
-- the two X numbers all are zero, but for n
-- meaning
pub first_image-means : (lowest highest tries : ℕ)
    → (lowest ≤ highest) × (highest ≤ 7) × (1 ≤ tries) × (tries ≤ 9)
    → (room : List ℕ)
    → 42 ≤ length room
    → (started_with lowest highest tries ≡ cold (record { lowest = lowest; highest = highest; tries = tries }))
    × (first_image lowest highest tries room
    ≡ 162 ∷ lowest ∷ highest ∷ (replicate 34 0 ++ (tries ∷ 0 ∷ 0 ∷ 0 ∷ 0 ∷ [])))
unfolding cold image_a2 whole_bytes body_bytes blocks
first_image-means lowest highest tries within room long =
    let whole = image_a2 (cold (record { lowest = lowest; highest = highest; tries = tries })) in (
      state-is lowest highest tries room within,
      ap (take 42) (start-done lowest highest tries room within long).1 ∙ take_at whole (drop 42 room) 42 refl,
    )

-- records lent with a buffer are these records, in as many calls, each with that buffer
-- meaning
pub lent_with-means : (buffer : List ℕ) (records : List (List ℕ))
    → (lent_records (lent_with buffer records) ≡ records)
    × (20 ≤ length buffer → roomy (lent_with buffer records) ≡ true)
    × ((i : ℕ)
    → i < length records
    → get_or (lent_with buffer records) i (record { bytes = []; actions = [] })
    ≡ record { bytes = get_or records i []; actions = buffer })
unfolding roomy
lent_with-means buffer records = (own records, room records, each records)
  where
    own : (records : List (List ℕ)) → lent_records (lent_with buffer records) ≡ records
    own [] = refl
    own (bytes ∷ records) = ap (◌∷◌ bytes) (own records)

    room : (records : List (List ℕ)) → 20 ≤ length buffer → roomy (lent_with buffer records) ≡ true
    room [] enough = refl
    room (bytes ∷ records) enough = ap₂ ◌&&◌ (le-leb action_room (length buffer) enough) (room records enough)

    each : (records : List (List ℕ)) (i : ℕ)
        → i < length records
        → get_or (lent_with buffer records) i (record { bytes = []; actions = [] })
        ≡ record { bytes = get_or records i []; actions = buffer }
    each [] i below = absurd (omega arith)
    each (bytes ∷ records) zero below = refl
    each (bytes ∷ records) (suc i) below = each records i (omega arith)

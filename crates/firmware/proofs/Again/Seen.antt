-- Request Q-14: "Demands 2 and 3 are read through the images, starting from one that a cold start wrote".
-- Proves: image_a2-seen, image-follows, numbers-follow, bytes-follow, sums-follow, seen-bound, seen-taken-in, seen-reached,
-- seen-reached-lent, seen-waiting, seen-released-once.
use mathlib.Core.Path.{◌≡◌, refl, sym, ap, ap₂, subst, ◌∙◌}
use mathlib.Core.Logic.{◌↔◌, ◌⊎◌}
use mathlib.Core.Bool.{Bool, true, false, cond, ◌&&◌}
use mathlib.Core.List.{List, ◌++◌, map}
use Prim.Native.Nat.{ℕ, ◌+◌, ◌*◌, ◌≤◌, ◌<◌}
use native.Mathlib.Omega.{arith}
use lib.Dec.{eqb}
use lib.IntN.{pos, neg_ℤ}
use lib.ListN.{length, take, drop, replicate}
use lib.Seq.{take_at}
use borrow.Author.Tests.{eq-eqb}
use Rattle.wire.specs.Refusals.{accepted}
use Rattle.wire.specs.Bytes.{byte}
use Rattle.record.specs.declared.partner.Partner.{Partner}
use Rattle.record.specs.Partners.{same_partner}
use Rattle.place.specs.Table.{release}
use Rattle.unit.specs.Steps.{Outcome}
use Rattle.unit.specs.Kept.{count}
use Rattle.unit.specs.States.{place_count, sound, cold_start}
use Rattle.unit.specs.OnRecords.{action_room, action_size, on_record, trace, action_bytes, written}
use Rattle.unit.specs.declared.state.State.{State}
use Rattle.unit.specs.declared.answer.Action.{Action}
use Rattle.unit.proofs.Facts.{sound-facts}
use Rattle.unit.proofs.Starts.{cold-sound}
use Rattle.unit.proofs.Again.Starts.{cold_start-accepted}
use Rattle.unit.proofs.Again.Writing.{written-front}
use Rattle.image.specs.Images.{image_a2, imaged_a2, read_a2}
use Rattle.image.proofs.Bytes.{image_a2-length}
use Rattle.image.proofs.Putting.{wrote-a2}
use Rattle.image.proofs.RoundTrips.{read_a2-written, written_a2-read}
use Rattle.image.proofs.Again.Tails.{image_a2-tries}
use Rattle.history.specs.Histories.{after, summed, orders, calls, losses, actions, releases, places_held, silent, timeouts}
use Rattle.history.specs.Histories.{is_order, is_call, is_loss, holds_place, waits}
use Rattle.history.specs.Histories.{accepted_as}
use Rattle.wire.specs.Bytes.{as_bit}
use Rattle.history.specs.PerEvent.{per_order, per_call, per_loss, timeouts_to_release}
use Rattle.history.specs.Reaching.{reaching}
use Rattle.history.specs.Sums.{Sums, sums_of}
use Rattle.history.proofs.Along.{after-sound}
use Rattle.history.proofs.Bounds.{bound}
use Rattle.history.proofs.Reached.{reached}
use Rattle.history.proofs.TakenIn.{taken_in}
use Rattle.history.proofs.Waiting.{waiting, released-once}
use Rattle.firmware.specs.Calls.{returned, Seen}
use Rattle.firmware.specs.Along.{Lent, lent_records, roomy, seen_along, last_image, is_accepted}
use Rattle.firmware.specs.AlongWords.{count_of, over_seen}
use Rattle.firmware.specs.AlongWords.{actions_seen, orders_seen, calls_seen, losses_seen}
use Rattle.firmware.specs.AlongWords.{lent_with, releases_to_seen}
use Rattle.firmware.specs.AlongWords.{actions_passing, releases_seen, held_seen, holds_seen, waits_seen}
use Rattle.firmware.specs.Starts.{limits_of}
use Rattle.firmware.specs.AlongWords.{started_with, first_image}
use Rattle.firmware.proofs.Following.{call-number, call-actions, map-follows, over-follows, image-after}
use Rattle.firmware.proofs.Following.{done-returned, count-returned}
use Rattle.firmware.proofs.Again.Meanings.{lent_with-means}
use Rattle.firmware.proofs.Reading.{actions_passing-counts, held_bytes, holds-bytes, waits-bytes}

-- the actions that a call wrote, counted by their bytes
counted : (test : ℕ → Partner → Bool) (acts : List Action) (buffer : List ℕ)
    → actions_passing test (length acts) (written acts buffer) ≡ count (λ a. test a.number a.partner) acts
unfolding written
counted test acts buffer = actions_passing-counts test acts (drop (action_size * length acts) buffer)

-- the sums of what C sees are those of the steps
module _ (s : State) (good : sound s ≡ true) (history : List Lent) (enough : roomy history ≡ true) where
  actions-same : actions_seen (lent_records history) (seen_along (image_a2 s) history) ≡ actions s (lent_records history)
  actions-same =
      over-follows (λ bytes x. count_of x.number) (λ s bytes o. length o.actions)
      (λ s bytes buffer good enough. ap count_of (call-number s good bytes buffer enough) ∙ count-returned s bytes)
      s history good enough

  accepted-same : (test : List ℕ → Bool)
      → over_seen (λ bytes x. as_bit (test bytes && is_accepted x.number)) (lent_records history) (seen_along (image_a2 s) history)
      ≡ summed (accepted_as (λ s. test)) s (lent_records history)
  accepted-same test =
      over-follows (λ bytes x. as_bit (test bytes && is_accepted x.number)) (accepted_as (λ s. test))
      (λ s bytes buffer good enough.
      ap (λ z. as_bit (test bytes && is_accepted z)) (call-number s good bytes buffer enough)
      ∙ ap (λ b. as_bit (test bytes && b)) (done-returned (on_record s bytes action_room)))
      s history good enough

  sent-same : (test : ℕ → Partner → Bool)
      → over_seen (λ bytes x. actions_passing test (count_of x.number) x.actions)
      (lent_records history) (seen_along (image_a2 s) history)
      ≡ summed (λ s bytes o. count (λ a. test a.number a.partner) o.actions) s (lent_records history)
  sent-same test =
      over-follows (λ bytes x. actions_passing test (count_of x.number) x.actions)
      (λ s bytes o. count (λ a. test a.number a.partner) o.actions)
      (λ s bytes buffer good enough.
      ap₂ (actions_passing test) (ap count_of (call-number s good bytes buffer enough) ∙ count-returned s bytes)
      (call-actions s good bytes buffer enough)
      ∙ counted test (on_record s bytes action_room).actions buffer)
      s history good enough

-- the places that C counts in the image of a sound state are those of the state
-- promise
pub image_a2-seen : (s : State) (p : Partner)
    → sound s ≡ true
    → (held_seen (image_a2 s) ≡ places_held s.places)
    × ((holds_seen p (image_a2 s) ≡ 0) ↔ (holds_place p s.places ≡ false))
    × ((1 ≤ waits_seen p (image_a2 s)) ↔ (waits p s.places ≡ true))
image_a2-seen s p good =
    let four = (sound-facts s good).four in
    (held_bytes s four, holds-bytes s four p, waits-bytes s four p)

-- a bound in other numbers that are the same
same-bound : (n : ℕ) {a b c d x y z w : ℕ}
    → a ≡ x
    → b ≡ y
    → c ≡ z
    → d ≡ w
    → x ≤ per_order n * y + per_call n * z + per_loss n * w
    → a ≤ (3 * n + 2) * b + (n + 2) * c + n * d
same-bound n {a} {b} {c} {d} {x} {y} {z} {w} ea eb ec ed h =
    subst (λ k. k ≤ (3 * n + 2) * b + (n + 2) * c + n * d) (sym ea)
    (subst (λ k. x ≤ (3 * n + 2) * k + (n + 2) * c + n * d) (sym eb)
    (subst (λ k. x ≤ (3 * n + 2) * y + (n + 2) * k + n * d) (sym ec)
    (subst (λ k. x ≤ (3 * n + 2) * y + (n + 2) * z + n * k) (sym ed) h)))

-- a history of calls from the image that a cold start wrote, at the front of a buffer of 42 bytes or more
module _ (lowest highest tries : ℕ)
    (within : (lowest ≤ highest) × (highest ≤ 7) × (1 ≤ tries) × (tries ≤ 9))
    (room : List ℕ)
    (long : 42 ≤ length room)
    (history : List Lent)
    (enough : roomy history ≡ true) where
  accepted-start : (cold_start (limits_of lowest highest tries)).code ≡ accepted
  accepted-start = (cold_start-accepted (limits_of lowest highest tries)).1 within

  good : sound (started_with lowest highest tries) ≡ true
  good = cold-sound (limits_of lowest highest tries)

  first-is : first_image lowest highest tries room ≡ image_a2 (started_with lowest highest tries)
  first-is =
      let m = limits_of lowest highest tries in
      let s = (cold_start m).state in
      ap (take 42)
      (ap (λ b. cond b (imaged_a2 s room) room) (eq-eqb (cold_start m).code accepted accepted-start)
      ∙ sym (wrote-a2 s room long (image_a2 s ++ drop 42 room) (cold-sound m) refl).1)
      ∙ take_at (image_a2 s) (drop 42 room) 42 (image_a2-length s (sound-facts s (cold-sound m)).four)

  seen-is : seen_along (first_image lowest highest tries room) history
      ≡ seen_along (image_a2 (started_with lowest highest tries)) history
  seen-is = ap (λ image. seen_along image history) first-is

  -- demand 2: the image after a history is the image of the state after it, and reads as that state
  -- promise
  pub image-follows :
      (last_image (first_image lowest highest tries room)
      (seen_along (first_image lowest highest tries room) history)
      ≡ image_a2 (after (started_with lowest highest tries) (lent_records history)))
      × (read_a2
      (last_image (first_image lowest highest tries room)
      (seen_along (first_image lowest highest tries room) history))
      ≡ record { code = accepted; state = after (started_with lowest highest tries) (lent_records history) })
  image-follows =
      let s = started_with lowest highest tries in
      let is = ap (λ image. last_image image (seen_along image history)) first-is ∙ image-after s history good enough in
      (is, ap read_a2 is ∙ read_a2-written (after s (lent_records history)) (after-sound s good (lent_records history)))

  -- the numbers returned are those of the steps
  -- promise
  pub numbers-follow :
      map (λ (x : Seen). x.number) (seen_along (first_image lowest highest tries room) history)
      ≡ map (λ (o : Outcome). cond (eqb o.code 0) (pos (length o.actions)) (neg_ℤ (pos o.code)))
      (trace (started_with lowest highest tries) (lent_records history))
  numbers-follow =
      ap (map (λ (x : Seen). x.number)) seen-is
      ∙ map-follows (λ (x : Seen). x.number) returned (λ s bytes buffer good enough. call-number s good bytes buffer enough)
      (started_with lowest highest tries)
      history
      good
      enough

  -- and the bytes at the front of each buffer, five for each action of the number returned, are those of the step's actions
  -- promise
  pub bytes-follow :
      map (λ (x : Seen). take (5 * count_of x.number) x.actions)
      (seen_along (first_image lowest highest tries room) history)
      ≡ map (λ (o : Outcome). action_bytes o.actions)
      (trace (started_with lowest highest tries) (lent_records history))
  bytes-follow =
      ap (map (λ (x : Seen). take (5 * count_of x.number) x.actions)) seen-is
      ∙ map-follows (λ (x : Seen). take (5 * count_of x.number) x.actions) (λ o. action_bytes o.actions)
      (λ s bytes buffer good enough.
      ap₂ (λ n l. take (5 * n) l)
      (ap count_of (call-number s good bytes buffer enough) ∙ count-returned s bytes)
      (call-actions s good bytes buffer enough)
      ∙ written-front (on_record s bytes action_room).actions buffer)
      (started_with lowest highest tries)
      history
      good
      enough

  -- what C counts are the sums over the steps
  -- promise
  pub sums-follow :
      (actions_seen (lent_records history) (seen_along (first_image lowest highest tries room) history)
      ≡ actions (started_with lowest highest tries) (lent_records history))
      × (orders_seen (lent_records history) (seen_along (first_image lowest highest tries room) history)
      ≡ orders (started_with lowest highest tries) (lent_records history))
      × (calls_seen (lent_records history) (seen_along (first_image lowest highest tries room) history)
      ≡ calls (started_with lowest highest tries) (lent_records history))
      × (losses_seen (lent_records history) (seen_along (first_image lowest highest tries room) history)
      ≡ losses (started_with lowest highest tries) (lent_records history))
      × (releases_seen (lent_records history) (seen_along (first_image lowest highest tries room) history)
      ≡ releases (started_with lowest highest tries) (lent_records history))
  sums-follow =
      let s = started_with lowest highest tries in
      let records = lent_records history in (
        ap (actions_seen records) seen-is ∙ actions-same s good history enough,
        ap (orders_seen records) seen-is ∙ accepted-same s good history enough is_order,
        ap (calls_seen records) seen-is ∙ accepted-same s good history enough is_call,
        ap (losses_seen records) seen-is ∙ accepted-same s good history enough is_loss,
        ap (releases_seen records) seen-is ∙ sent-same s good history enough (λ number p. eqb number release),
      )

  -- demand 3: "at most" 3n + 2 actions "for each order accepted", n + 2 "for each accepted call from an RBC", n "for each accepted
  -- loss", all counted from the numbers returned
  -- promise
  pub seen-bound :
      actions_seen (lent_records history) (seen_along (first_image lowest highest tries room) history)
      ≤ (3 * tries + 2)
      * orders_seen (lent_records history) (seen_along (first_image lowest highest tries room) history)
      + (tries + 2) * calls_seen (lent_records history) (seen_along (first_image lowest highest tries room) history)
      + tries * losses_seen (lent_records history) (seen_along (first_image lowest highest tries room) history)
  seen-bound =
      let same = sums-follow in
      same-bound tries same.0 same.1 same.2 same.3
      (bound (limits_of lowest highest tries) accepted-start (lent_records history))

  -- "Partners taken in equal releases plus places held": the releases counted from the bytes of the buffers, the places from those of
  -- the last image
  -- promise
  pub seen-taken-in :
      orders_seen (lent_records history) (seen_along (first_image lowest highest tries room) history)
      + calls_seen (lent_records history) (seen_along (first_image lowest highest tries room) history)
      ≡ releases_seen (lent_records history) (seen_along (first_image lowest highest tries room) history)
      + held_seen
      (last_image (first_image lowest highest tries room)
      (seen_along (first_image lowest highest tries room) history))
  seen-taken-in =
      let same = sums-follow in
      let s = started_with lowest highest tries in
      let last = after s (lent_records history) in
      ap₂ ◌+◌ same.1 same.2
      ∙ taken_in (limits_of lowest highest tries) accepted-start (lent_records history)
      ∙ sym
      (ap₂ ◌+◌ same.4
      (ap held_seen image-follows.0 ∙ held_bytes last (sound-facts last (after-sound s good (lent_records history))).four))

-- "and histories are shown that reach" the bounds: for every n from 1 to 9, X from 1 to 2, and any numbers of orders, calls and losses
-- promise
pub seen-reached : (n a b c : ℕ)
    → 1 ≤ n
    → n ≤ 9
    → (c ≡ 0) ⊎ (0 < a + b)
    → (room : List ℕ)
    → 42 ≤ length room
    → (history : List Lent)
    → roomy history ≡ true
    → lent_records history ≡ reaching n a b c
    → (actions_seen (lent_records history) (seen_along (first_image 1 2 n room) history) ≡ (3 * n + 2) * a + (n + 2) * b + n * c)
    × (orders_seen (lent_records history) (seen_along (first_image 1 2 n room) history) ≡ a)
    × (calls_seen (lent_records history) (seen_along (first_image 1 2 n room) history) ≡ b)
    × (losses_seen (lent_records history) (seen_along (first_image 1 2 n room) history) ≡ c)
unfolding sums_of
seen-reached n a b c some-try most h room long history enough is =
    let same = sums-follow 1 2 n (omega arith, omega arith, some-try, most) room long history enough in
    let sums = reached n some-try most a b c h in (
      same.0 ∙ ap (actions (started_with 1 2 n)) is ∙ ap (λ (x : Sums). x.actions) sums,
      same.1 ∙ ap (orders (started_with 1 2 n)) is ∙ ap (λ (x : Sums). x.orders) sums,
      same.2 ∙ ap (calls (started_with 1 2 n)) is ∙ ap (λ (x : Sums). x.calls) sums,
      same.3 ∙ ap (losses (started_with 1 2 n)) is ∙ ap (λ (x : Sums). x.losses) sums,
    )

-- the same of calls that are there: the records that reach the bounds, each lent with a buffer of 20 zeros, from the image that a cold
-- start wrote over 42 zeros
-- promise
pub seen-reached-lent : (n a b c : ℕ)
    → 1 ≤ n
    → n ≤ 9
    → (c ≡ 0) ⊎ (0 < a + b)
    → (actions_seen (reaching n a b c)
    (seen_along (first_image 1 2 n (replicate 42 0)) (lent_with (replicate 20 0) (reaching n a b c)))
    ≡ (3 * n + 2) * a + (n + 2) * b + n * c)
    × (orders_seen (reaching n a b c)
    (seen_along (first_image 1 2 n (replicate 42 0)) (lent_with (replicate 20 0) (reaching n a b c)))
    ≡ a)
    × (calls_seen (reaching n a b c)
    (seen_along (first_image 1 2 n (replicate 42 0)) (lent_with (replicate 20 0) (reaching n a b c)))
    ≡ b)
    × (losses_seen (reaching n a b c)
    (seen_along (first_image 1 2 n (replicate 42 0)) (lent_with (replicate 20 0) (reaching n a b c)))
    ≡ c)
seen-reached-lent n a b c some-try most h =
    let history = lent_with (replicate 20 0) (reaching n a b c) in
    let means = lent_with-means (replicate 20 0) (reaching n a b c) in
    let seen = seen_along (first_image 1 2 n (replicate 42 0)) history in
    let own = means.0 in
    let sums = seen-reached n a b c some-try most h (replicate 42 0) (omega arith) history (means.1 (omega arith)) own in (
      ap (λ records. actions_seen records seen) (sym own) ∙ sums.0,
      ap (λ records. orders_seen records seen) (sym own) ∙ sums.1,
      ap (λ records. calls_seen records seen) (sym own) ∙ sums.2,
      ap (λ records. losses_seen records seen) (sym own) ∙ sums.3,
    )

-- "A partner that waits (any phase but Open) and is from then on named by nothing but timeouts holds no place after its" n-th one, n
-- being the number in the image, "whatever comes for others in between": of every image that reads, as those after a history do
module _ (image : List ℕ)
    (read : (read_a2 image).code ≡ accepted)
    (p : Partner)
    (waits-now : 1 ≤ waits_seen p image)
    (history : List Lent)
    (enough : roomy history ≡ true)
    (quiet : silent p (read_a2 image).state (lent_records history) ≡ true)
    (timed-out : byte image 37 ≤ timeouts p (lent_records history)) where
  image-good : sound (read_a2 image).state ≡ true
  image-good = (written_a2-read image read).0

  own : image_a2 (read_a2 image).state ≡ image
  own = (written_a2-read image read).1

  four : length (read_a2 image).state.places ≡ place_count
  four = (sound-facts (read_a2 image).state image-good).four

  waits-then : waits p (read_a2 image).state.places ≡ true
  waits-then = (waits-bytes (read_a2 image).state four p).0 (subst (λ b. 1 ≤ waits_seen p b) (sym own) waits-now)

  many : timeouts_to_release (read_a2 image).state.limits.tries ≤ timeouts p (lent_records history)
  many =
      let in_image = image_a2-tries (read_a2 image).state four in
      let here = ap (λ b. byte b 37) own in
      omega (arith, in_image, here, timed-out)

  -- promise
  pub seen-waiting : holds_seen p (last_image image (seen_along image history)) ≡ 0
  seen-waiting =
      let last = after (read_a2 image).state (lent_records history) in
      ap (holds_seen p)
      (ap (λ b. last_image b (seen_along b history)) (sym own) ∙ image-after (read_a2 image).state history image-good enough)
      ∙ (holds-bytes last (sound-facts last (after-sound (read_a2 image).state image-good (lent_records history))).four p).1
      (waiting (read_a2 image).state image-good p waits-then (lent_records history) quiet many)

  -- and it was released once, by an action 22 to it in the bytes of a buffer
  -- promise
  pub seen-released-once : releases_to_seen p (lent_records history) (seen_along image history) ≡ 1
  seen-released-once =
      ap (λ b. releases_to_seen p (lent_records history) (seen_along b history)) (sym own)
      ∙ sent-same (read_a2 image).state image-good history enough (λ number q. eqb number release && same_partner p q)
      ∙ released-once (read_a2 image).state image-good p waits-then (lent_records history) quiet many

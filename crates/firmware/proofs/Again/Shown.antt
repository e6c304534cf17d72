-- Request Q-14: the promises over calls can be met: each of calls that are written out, with the numbers and bytes that come of them.
-- Proves: waiting-shown, released-once-shown, image-shown, numbers-shown, bytes-shown, sums-shown, bound-shown, taken-in-shown,
-- reached-shown, accepted-shown, refused-shown.
use mathlib.Core.Path.{◌≡◌, refl, ap, ◌∙◌}
use mathlib.Core.Bool.{true}
use mathlib.Core.Logic.{inr}
use mathlib.Core.List.{[], ◌∷◌, map}
use Prim.Native.Nat.{ℕ, zero, suc, ◌*◌, ◌≤◌}
use native.Mathlib.Omega.{arith}
use lib.IntN.{pos, negsuc}
use lib.ListN.{length, take, replicate}
use Rattle.wire.specs.Refusals.{accepted}
use Rattle.wire.specs.Bytes.{byte}
use Rattle.wire.specs.Blocks.{blocks}
use Rattle.record.specs.Records.{reading}
use Rattle.place.specs.Table.{turn, turned_to}
use Rattle.unit.specs.States.{some, first, seek, places_ok, sound, cold, cold_start}
use Rattle.unit.specs.Steps.{closed, closing_actions, step}
use Rattle.unit.specs.Kept.{count}
use Rattle.unit.specs.Lasts.{recalled}
use Rattle.unit.specs.OnRecords.{on_record, trace, written}
use Rattle.unit.specs.declared.start.Started.{Started}
use Rattle.image.specs.Images.{body_bytes, whole_bytes, image_a2, imaged_a2, places_in, state_in, same_bytes, read_a2}
use Rattle.history.specs.Histories.{after, summed, silent, timeouts}
use Rattle.history.specs.Reaching.{rbc5, order5, losses_in, ordering, calling, repeated, reaching}
use Rattle.image.specs.Calls.{on_image}
use Rattle.firmware.specs.Calls.{Seen, seen_after}
use Rattle.firmware.specs.Along.{lent_records, roomy, seen_along, last_image}
use Rattle.firmware.specs.AlongWords.{count_of}
use Rattle.firmware.specs.AlongWords.{places_passing, held_seen, holds_seen, waits_seen}
use Rattle.firmware.specs.AlongWords.{actions_seen, orders_seen, calls_seen, losses_seen}
use Rattle.firmware.specs.AlongWords.{releases_seen}
use Rattle.firmware.specs.AlongWords.{releases_to_seen, lent_with}
use Rattle.firmware.specs.AlongWords.{first_image}
use Rattle.firmware.specs.Shown.{shown_start, shown_image, shown_rounds, shown_short, shown_calls}
use Rattle.firmware.proofs.Again.Answers.{step-refused, step-accepted}
use Rattle.firmware.proofs.Again.Seen.{image-follows, numbers-follow, bytes-follow, sums-follow, seen-bound, seen-taken-in}
use Rattle.firmware.proofs.Again.Seen.{seen-reached, seen-waiting, seen-released-once}

-- what the promises over a waiting partner ask of the calls
abbrev Asked : ℕ → Type 0
Asked n =
    ((read_a2 (shown_image n)).code ≡ accepted)
    × (waits_seen rbc5 (shown_image n) ≡ 1)
    × (roomy (shown_rounds n) ≡ true)
    × (silent rbc5 (read_a2 (shown_image n)).state (lent_records (shown_rounds n)) ≡ true)
    × (byte (shown_image n) 37 ≡ n)
    × (timeouts rbc5 (lent_records (shown_rounds n)) ≡ n)
    × (holds_seen rbc5 (last_image (shown_image n) (seen_along (shown_image n) (shown_short n))) ≡ 1)

-- for every limit of tries, by computation
met : (n : ℕ) → 1 ≤ n → n ≤ 9 → Asked n
unfolding reading turn turned_to first seek places_ok sound cold cold_start closed closing_actions step on_record some recalled blocks
    body_bytes whole_bytes image_a2 imaged_a2 places_in state_in same_bytes read_a2 written on_image seen_after seen_along last_image
    silent timeouts roomy places_passing shown_image shown_rounds
met zero some-try most = absurd (omega arith)
met (suc zero) some-try most = (refl, refl, refl, refl, refl, refl, refl)
met (suc (suc zero)) some-try most = (refl, refl, refl, refl, refl, refl, refl)
met (suc (suc (suc zero))) some-try most = (refl, refl, refl, refl, refl, refl, refl)
met (suc (suc (suc (suc zero)))) some-try most = (refl, refl, refl, refl, refl, refl, refl)
met (suc (suc (suc (suc (suc zero))))) some-try most = (refl, refl, refl, refl, refl, refl, refl)
met (suc (suc (suc (suc (suc (suc zero)))))) some-try most = (refl, refl, refl, refl, refl, refl, refl)
met (suc (suc (suc (suc (suc (suc (suc zero))))))) some-try most = (refl, refl, refl, refl, refl, refl, refl)
met (suc (suc (suc (suc (suc (suc (suc (suc zero)))))))) some-try most = (refl, refl, refl, refl, refl, refl, refl)
met (suc (suc (suc (suc (suc (suc (suc (suc (suc zero))))))))) some-try most = (refl, refl, refl, refl, refl, refl, refl)
met (suc (suc (suc (suc (suc (suc (suc (suc (suc (suc n)))))))))) some-try most = absurd (omega arith)

module _ (n : ℕ) (some-try : 1 ≤ n) (most : n ≤ 9) where
  asked : Asked n
  asked = met n some-try most

  -- RBC 5 waits in Contacting, and holds its place until its n-th timeout and not after it, whatever comes between for others, for nobody
  -- or is refused
  -- instance
  pub waiting-shown :
      (1 ≤ waits_seen rbc5 (shown_image n))
      × (holds_seen rbc5 (last_image (shown_image n) (seen_along (shown_image n) (shown_short n))) ≡ 1)
      × (holds_seen rbc5 (last_image (shown_image n) (seen_along (shown_image n) (shown_rounds n))) ≡ 0)
  waiting-shown =
      let there : 1 ≤ waits_seen rbc5 (shown_image n) = omega (arith, asked.1) in
      let many : byte (shown_image n) 37 ≤ timeouts rbc5 (lent_records (shown_rounds n)) = omega (arith, asked.4, asked.5) in (
        there,
        asked.6,
        seen-waiting (shown_image n) asked.0 rbc5 there (shown_rounds n) asked.2 asked.3 many,
      )

  -- and is released once
  -- instance
  pub released-once-shown : releases_to_seen rbc5 (lent_records (shown_rounds n)) (seen_along (shown_image n) (shown_rounds n)) ≡ 1
  released-once-shown =
      seen-released-once (shown_image n) asked.0 rbc5 (omega (arith, asked.1)) (shown_rounds n) asked.2 asked.3
      (omega (arith, asked.4, asked.5))

-- a history with three tries
within : (1 ≤ 2) × (2 ≤ 7) × (1 ≤ 3) × (3 ≤ 9)
within = (omega arith, omega arith, omega arith, omega arith)

long : 42 ≤ length {A = ℕ} (replicate 50 1)
long = omega arith

room : roomy shown_calls ≡ true
unfolding roomy shown_rounds
room = refl

-- the last image in bytes: RBC 5 lost in place 0, RBC 6 open in place 2, the mark of the mode change, n, the last known RBC
-- instance
pub image-shown :
    (last_image (shown_start 3) (seen_along (shown_start 3) shown_calls)
    ≡ 162 ∷ 1 ∷ 2 ∷ 0 ∷ 0 ∷ 0 ∷ 1 ∷ 0 ∷ 0
    ∷ 4 ∷ 1 ∷ 1 ∷ 0 ∷ 0 ∷ 0 ∷ 5
    ∷ 0 ∷ 0 ∷ 0 ∷ 0 ∷ 0 ∷ 0 ∷ 0
    ∷ 3 ∷ 1 ∷ 0 ∷ 0 ∷ 0 ∷ 0 ∷ 6
    ∷ 0 ∷ 0 ∷ 0 ∷ 0 ∷ 0 ∷ 0 ∷ 0
    ∷ 3 ∷ 1 ∷ 0 ∷ 0 ∷ 5 ∷ [])
    × ((read_a2 (last_image (shown_start 3) (seen_along (shown_start 3) shown_calls))).code ≡ 0)
unfolding reading turn turned_to first seek places_ok sound cold cold_start closed closing_actions step on_record some recalled blocks
    body_bytes whole_bytes image_a2 trace after shown_rounds
image-shown =
    let follows = image-follows 1 2 3 within (replicate 50 1) long shown_calls room in
    (follows.0 ∙ refl, ap (λ (r : Started). r.code) follows.1)

-- the numbers: 1, 2 and 3 of the refused records, 5 of a second call from RBC 6, 0 of the mode changes
-- instance
pub numbers-shown :
    map (λ (x : Seen). x.number) (seen_along (shown_start 3) shown_calls)
    ≡ pos 1 ∷ pos 1 ∷ pos 1
    ∷ pos 0 ∷ pos 1 ∷ pos 1 ∷ negsuc 0 ∷ negsuc 1 ∷ negsuc 2 ∷ pos 1
    ∷ pos 0 ∷ pos 1 ∷ negsuc 4 ∷ negsuc 0 ∷ negsuc 1 ∷ negsuc 2 ∷ pos 1
    ∷ pos 0 ∷ pos 1 ∷ negsuc 4 ∷ negsuc 0 ∷ negsuc 1 ∷ negsuc 2 ∷ pos 1
    ∷ pos 1 ∷ pos 1 ∷ []
unfolding reading turn turned_to first seek places_ok sound cold cold_start closed closing_actions step on_record some recalled
    trace shown_rounds
numbers-shown = numbers-follow 1 2 3 within (replicate 50 1) long shown_calls room ∙ refl

-- the actions at the front of the buffers
-- instance
pub bytes-shown :
    map (λ (x : Seen). take (5 * count_of x.number) x.actions) (seen_along (shown_start 3) shown_calls)
    ≡ (21 ∷ 0 ∷ 0 ∷ 0 ∷ 5 ∷ []) ∷ (155 ∷ 0 ∷ 0 ∷ 0 ∷ 5 ∷ []) ∷ (21 ∷ 1 ∷ 0 ∷ 0 ∷ 7 ∷ [])
    ∷ [] ∷ (21 ∷ 1 ∷ 0 ∷ 0 ∷ 7 ∷ []) ∷ (159 ∷ 0 ∷ 0 ∷ 0 ∷ 6 ∷ [])
    ∷ [] ∷ [] ∷ [] ∷ (155 ∷ 0 ∷ 0 ∷ 0 ∷ 5 ∷ [])
    ∷ [] ∷ (21 ∷ 1 ∷ 0 ∷ 0 ∷ 7 ∷ []) ∷ [] ∷ [] ∷ [] ∷ [] ∷ (155 ∷ 0 ∷ 0 ∷ 0 ∷ 5 ∷ [])
    ∷ [] ∷ (22 ∷ 1 ∷ 0 ∷ 0 ∷ 7 ∷ []) ∷ [] ∷ [] ∷ [] ∷ [] ∷ (22 ∷ 0 ∷ 0 ∷ 0 ∷ 5 ∷ [])
    ∷ (159 ∷ 0 ∷ 0 ∷ 0 ∷ 5 ∷ []) ∷ (21 ∷ 0 ∷ 0 ∷ 0 ∷ 5 ∷ []) ∷ []
unfolding reading turn turned_to first seek places_ok sound cold cold_start closed closing_actions step on_record some recalled blocks
    trace shown_rounds
bytes-shown = bytes-follow 1 2 3 within (replicate 50 1) long shown_calls room ∙ refl

-- 12 actions, 2 orders, 2 calls, 1 loss, 2 releases
-- instance
pub sums-shown :
    (actions_seen (lent_records shown_calls) (seen_along (shown_start 3) shown_calls) ≡ 12)
    × (orders_seen (lent_records shown_calls) (seen_along (shown_start 3) shown_calls) ≡ 2)
    × (calls_seen (lent_records shown_calls) (seen_along (shown_start 3) shown_calls) ≡ 2)
    × (losses_seen (lent_records shown_calls) (seen_along (shown_start 3) shown_calls) ≡ 1)
    × (releases_seen (lent_records shown_calls) (seen_along (shown_start 3) shown_calls) ≡ 2)
unfolding reading turn turned_to first seek places_ok sound cold cold_start closed closing_actions step on_record some recalled
    trace summed count shown_rounds
sums-shown =
    let sums = sums-follow 1 2 3 within (replicate 50 1) long shown_calls room in
    (sums.0 ∙ refl, sums.1 ∙ refl, sums.2 ∙ refl, sums.3 ∙ refl, sums.4 ∙ refl)

-- so at most 11, 5 and 3 actions for each: 12 are at most 35
-- instance
pub bound-shown : actions_seen (lent_records shown_calls) (seen_along (shown_start 3) shown_calls) ≤ 35
bound-shown =
    let most = seen-bound 1 2 3 within (replicate 50 1) long shown_calls room in
    let sums = sums-shown in
    omega (arith, most, sums.1, sums.2, sums.3)

-- four partners are taken in, two are released, two hold a place
-- instance
pub taken-in-shown : held_seen (last_image (shown_start 3) (seen_along (shown_start 3) shown_calls)) ≡ 2
taken-in-shown =
    let account = seen-taken-in 1 2 3 within (replicate 50 1) long shown_calls room in
    let sums = sums-shown in
    omega (arith, account, sums.1, sums.2, sums.4)

-- two orders, a call and a loss reach 30 actions, with buffers of 21 bytes
-- instance
pub reached-shown :
    actions_seen (lent_records (lent_with (replicate 21 0) (reaching 3 2 1 1)))
    (seen_along (first_image 1 2 3 (replicate 42 0)) (lent_with (replicate 21 0) (reaching 3 2 1 1)))
    ≡ 30
unfolding roomy reaching ordering calling repeated losses_in
reached-shown =
    (seen-reached 3 2 1 1 (omega arith) (omega arith) (inr (omega arith)) (replicate 42 0) (omega arith)
    (lent_with (replicate 21 0) (reaching 3 2 1 1))
    refl
    refl
    ).0

-- one call with the image of the cold start: an order for RBC 5 is accepted
-- instance
pub accepted-shown : length (seen_after (shown_start 3) order5 (replicate 20 0)).image ≡ 42
unfolding reading turn first seek places_ok sound cold cold_start closed closing_actions step on_record some recalled blocks
    body_bytes whole_bytes image_a2 imaged_a2 places_in state_in same_bytes read_a2 on_image seen_after
accepted-shown = (step-accepted (shown_start 3) order5 (replicate 20 0) refl).0

-- and a kind 12 is refused
-- instance
pub refused-shown :
    ((seen_after (shown_start 3) (12 ∷ []) (replicate 20 9)).image ≡ shown_start 3)
    × ((seen_after (shown_start 3) (12 ∷ []) (replicate 20 9)).actions ≡ replicate 20 9)
unfolding reading places_ok sound cold cold_start on_record blocks
    body_bytes whole_bytes image_a2 imaged_a2 places_in state_in same_bytes read_a2 on_image seen_after
refused-shown = step-refused (shown_start 3) (12 ∷ []) (replicate 20 9) refl

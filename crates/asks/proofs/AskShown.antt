-- Requests Q-6 and Q-14: the promises over what C asks can be met, of an image that calls of the step left: RBC 5 in Contacting in place 0,
-- RIU 7 in Connecting in place 1.
-- Proves: standing-shown, standing-silent-shown, reads-shown.
use mathlib.Core.Path.{◌≡◌, refl, sym, ap, ◌∙◌}
use mathlib.Core.Logic.{inr}
use mathlib.Core.Bool.{true}
use mathlib.Core.List.{List, [], ◌∷◌}
use Prim.Native.Nat.{ℕ, ◌≤◌}
use native.Mathlib.Omega.{arith}
use lib.IntN.{pos, negsuc}
use lib.ListN.{length, replicate}
use Rattle.wire.specs.Refusals.{accepted}
use Rattle.wire.specs.Blocks.{blocks}
use Rattle.wire.proofs.Tests.{true-false}
use Rattle.record.specs.Records.{reading}
use Rattle.place.specs.Table.{turn, turned_to}
use Rattle.unit.specs.States.{some, first, seek, places_ok, sound, cold, cold_start}
use Rattle.unit.specs.Steps.{closed, closing_actions, step}
use Rattle.unit.specs.Lasts.{recalled}
use Rattle.unit.specs.OnRecords.{on_record, written}
use Rattle.unit.specs.Standings.{Concern, nobody, by_concern, concern_of}
use Rattle.image.specs.Images.{body_bytes, whole_bytes, image_a2, imaged_a2, places_in, state_in, same_bytes, read_a2}
use Rattle.image.specs.Calls.{on_image}
use Rattle.firmware.specs.Calls.{seen_after}
use Rattle.firmware.specs.Along.{seen_along, last_image, is_accepted}
use Rattle.firmware.specs.Shown.{shown_image}
use Rattle.asks.specs.Asks.{reads_returned, standing_returned}
use Rattle.asks.proofs.Asking.{reads-step, standing-says, standing-silent}

-- a loss of RIU 7, which has no connection yet
abbrev loss : List ℕ
loss = 9 ∷ 1 ∷ 0 ∷ 0 ∷ 7 ∷ []

abbrev room : List ℕ
room = replicate 20 0

-- whether a record concerns a partner
abbrev of_partner : Concern → ℕ
of_partner = by_concern 0 (λ p. 1) (λ p. 1) (λ p e. 1)

-- what the promises ask of the image and the record, and the place and the phase of RIU 7
record Met : Type 0 where
  read : (read_a2 (shown_image 3)).code ≡ accepted
  enough : 20 ≤ length room
  seven : (seen_after (shown_image 3) loss room).number ≡ negsuc 6
  named : of_partner (concern_of (read_a2 (shown_image 3)).state.last (reading loss)) ≡ 1
  place : (on_record (read_a2 (shown_image 3)).state loss 20).standing.place ≡ 1
  phase : (on_record (read_a2 (shown_image 3)).state loss 20).standing.phase ≡ 1
  taken : (seen_after (shown_image 3) (3 ∷ []) room).number ≡ pos 0
  old : reads_returned (0xA1 ∷ []) ≡ negsuc 1

met : Met
unfolding reading turn turned_to first seek places_ok sound cold cold_start closed closing_actions step on_record some recalled blocks
    body_bytes whole_bytes image_a2 imaged_a2 places_in state_in same_bytes read_a2 written on_image seen_after seen_along
    last_image shown_image
met = record { read = refl; enough = omega arith; seven = refl; named = refl; place = refl; phase = refl; taken = refl; old = refl }

-- minus 7, and C is told place 1 and phase 1
-- instance
pub standing-shown : standing_returned (shown_image 3) (9 ∷ 1 ∷ 0 ∷ 0 ∷ 7 ∷ []) ≡ pos 17
standing-shown =
    let somebody : concern_of (read_a2 (shown_image 3)).state.last (reading loss) ≡ nobody → ⊥ =
    λ none.
    let is = ap of_partner none in
    let one = met.named in
    absurd (omega (arith, is, one)) in
    let place = met.place in
    let phase = met.phase in
    (standing-says (shown_image 3) room met.enough loss met.read somebody (inr met.seven)).1
    ∙ ap pos (omega (arith, place, phase))

-- a mode change is taken, and C is told nothing
-- instance
pub standing-silent-shown : standing_returned (shown_image 3) (3 ∷ []) ≡ pos 0
standing-silent-shown =
    let other : (n : ℕ) → (seen_after (shown_image 3) (3 ∷ []) room).number ≡ negsuc n → ⊥ =
    λ n minus. true-false true refl (ap is_accepted (sym met.taken ∙ minus)) in
    standing-silent (shown_image 3) room met.enough (3 ∷ []) met.read (other 4) (other 6)

-- an image that begins with A1: minus 2, of the asking and of a step
-- instance
pub reads-shown : (seen_after (0xA1 ∷ []) (3 ∷ []) (replicate 20 0)).number ≡ negsuc 1
reads-shown =
    reads-step (0xA1 ∷ []) room met.enough (3 ∷ []) (λ zero. true-false true refl (ap is_accepted (sym zero ∙ met.old)))
    ∙ met.old

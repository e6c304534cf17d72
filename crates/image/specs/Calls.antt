-- Request Q-14: one step on a stored image: the image read, one step, the image written.
-- Defines: stepped_from, on_image, image_after, actions_after, called_by.
use Rattle.std.specs.Prelude.{ℕ, cond, List, eqb, leb, length}
use Rattle.wire.specs.Refusals.{accepted, no_room}
use Rattle.unit.specs.OnRecords.{action_room, on_record, written}
use Rattle.unit.specs.Steps.{Outcome, refused}
use Rattle.unit.specs.declared.start.Started.{Started}
use Rattle.image.specs.Images.{image_a2, read_a2}
use Rattle.image.specs.declared.call.Called.{Called}

-- "Refusals: .. those of reading an A2 image (A1 gives 2), then the step's": a step of the state that was read
abbrev pub stepped_from : Started → List ℕ → ℕ → Outcome
stepped_from held bytes room = cond (eqb held.code accepted) (on_record held.state bytes room) (refused held.code held.state)

-- "It equals reading the image, one step and writing it"; "10 for the action buffer, then ..": room is its length
unfoldable pub on_image : List ℕ → List ℕ → ℕ → Outcome
on_image image bytes room = cond (leb action_room room) (stepped_from (read_a2 image) bytes room) (refused no_room (read_a2 image).state)

-- "the image then holds the next state"; "A refusal writes neither image nor actions"
abbrev pub image_after : Outcome → List ℕ → List ℕ
image_after o image = cond (eqb o.code accepted) (image_a2 o.state) image

abbrev pub actions_after : Outcome → List ℕ → List ℕ
actions_after o actions = written o.actions actions

-- what is answered beside the image and the action buffer
abbrev pub called_by : Outcome → Called
called_by o = record { code = o.code; count = length o.actions }

-- Cross-checks only: rules told a second time.
-- What a step writes into the action buffer.
-- Proves: written_none, written-front, written-later, on_record-writes-nothing.
use mathlib.Core.Path.{◌≡◌, refl, sym, ap, ◌∙◌}
use mathlib.Core.List.{List, []}
use Prim.Native.Nat.{ℕ, ◌*◌}
use lib.ListN.{length, take, drop}
use lib.Seq.{take-append_seam, drop-append_seam}
use Rattle.wire.specs.Blocks.{blocks}
use Rattle.wire.specs.Refusals.{accepted}
use Rattle.wire.proofs.Blocks.{blocks-length}
use Rattle.unit.specs.OnRecords.{action_size, bytes_of, action_bytes, on_record, written}
use Rattle.unit.specs.declared.state.State.{State}
use Rattle.unit.specs.declared.answer.Action.{Action}
use Rattle.unit.proofs.Again.Refusals.{on_record-kept}

-- no action, no byte
pub written_none : (buffer : List ℕ) → written [] buffer ≡ buffer
unfolding written blocks
written_none buffer = refl

module _ (acts : List Action) (buffer : List ℕ) where
  long : length (action_bytes acts) ≡ action_size * length acts
  long = blocks-length bytes_of action_size (λ a. refl) acts

  -- the actions' bytes stand at the front
  -- promise
  pub written-front : take (action_size * length acts) (written acts buffer) ≡ action_bytes acts
  unfolding written
  written-front =
      ap (λ k. take k (written acts buffer)) (sym long) ∙ take-append_seam (action_bytes acts) (drop (action_size * length acts) buffer)

  -- "later bytes stay"
  -- promise
  pub written-later : drop (action_size * length acts) (written acts buffer) ≡ drop (action_size * length acts) buffer
  unfolding written
  written-later =
      ap (λ k. drop k (written acts buffer)) (sym long) ∙ drop-append_seam (action_bytes acts) (drop (action_size * length acts) buffer)

-- "A refused step .. writes nothing"
-- promise
pub on_record-writes-nothing : (s : State) (bytes : List ℕ) (room : ℕ) (buffer : List ℕ)
    → ((on_record s bytes room).code ≡ accepted → ⊥)
    → written (on_record s bytes room).actions buffer ≡ buffer
on_record-writes-nothing s bytes room buffer refused =
    ap (λ acts. written acts buffer) (on_record-kept s bytes room refused).1 ∙ written_none buffer

-- The round trips, of the bytes that a write leaves in its buffer.
-- Proves: imaged_a2-reads, imaged_a1-reads, read_a2-imaged, read-imaged_a2, read-imaged_a1.
use mathlib.Core.Path.{◌≡◌, ap, ◌∙◌}
use mathlib.Core.Bool.{true}
use mathlib.Core.List.{List, ◌++◌}
use Prim.Native.Nat.{ℕ, ◌≤◌}
use lib.ListN.{length, take, drop}
use lib.Seq.{take_at}
use Rattle.wire.specs.Bytes.{byte}
use Rattle.wire.specs.Refusals.{accepted}
use Rattle.unit.specs.States.{sound}
use Rattle.unit.specs.declared.state.State.{State}
use Rattle.unit.proofs.Facts.{sound-facts}
use Rattle.image.specs.Images.{image_a1, image_a2, write_a2, write_a1, imaged_a2, imaged_a1}
use Rattle.image.specs.Images.{read_a2, read_image}
use Rattle.image.proofs.Bytes.{image_a1-length, image_a2-length}
use Rattle.image.proofs.RoundTrips.{read_a2-written, read-written, read_a1-written, written_a2-read}
use Rattle.image.proofs.Again.ThereAndBack.{from-a1, from-a2, good}
use Rattle.image.proofs.Again.Writing.{fits_a1-means, write_a2-accepted, write_a1-accepted, imaged_a2-written, imaged_a1-written}

-- "what is written reads back", from the front of the buffer that it was written into
module _ (s : State) (buffer : List ℕ) where
  -- promise
  pub imaged_a2-reads : (write_a2 s (length buffer)).code ≡ accepted
      → (read_a2 (take 42 (imaged_a2 s buffer)) ≡ record { code = accepted; state = s })
      × (read_image (take 42 (imaged_a2 s buffer)) ≡ record { code = accepted; state = s })
  imaged_a2-reads h =
      let ok = ((write_a2-accepted s (length buffer)).0 h).1 in
      let front = front_of h ok in
      (ap read_a2 front ∙ read_a2-written s ok, ap read_image front ∙ read-written s ok)
    where
      front_of : (write_a2 s (length buffer)).code ≡ accepted → sound s ≡ true → take 42 (imaged_a2 s buffer) ≡ image_a2 s
      front_of h ok =
          ap (take 42) (imaged_a2-written s buffer h).0
          ∙ take_at (image_a2 s) (drop 42 buffer) 42 (image_a2-length s (sound-facts s ok).four)

  -- promise
  pub imaged_a1-reads : (write_a1 s (length buffer)).code ≡ accepted
      → read_image (take 37 (imaged_a1 s buffer)) ≡ record { code = accepted; state = s }
  imaged_a1-reads h =
      let means = (write_a1-accepted s (length buffer)).0 h in
      let ok = means.1 in
      ap (λ l. read_image (take 37 l)) (imaged_a1-written s buffer h).0
      ∙ ap read_image (take_at (image_a1 s) (drop 37 buffer) 37 (image_a1-length s (sound-facts s ok).four))
      ∙ read_a1-written s ok ((fits_a1-means s).1 (means.2, means.3))

-- "each image that is read is the one its state writes", into any buffer that has room for it
module _ (bytes buffer : List ℕ) where
  -- promise
  pub read_a2-imaged : (read_a2 bytes).code ≡ accepted
      → 42 ≤ length buffer
      → imaged_a2 (read_a2 bytes).state buffer ≡ bytes ++ drop 42 buffer
  read_a2-imaged h room =
      let own = written_a2-read bytes h in
      let s = (read_a2 bytes).state in
      (imaged_a2-written s buffer ((write_a2-accepted s (length buffer)).1 (room, own.0))).0 ∙ ap (λ l. l ++ drop 42 buffer) own.1

  module _ (h : (read_image bytes).code ≡ accepted) where
    -- promise
    pub read-imaged_a2 : byte bytes 0 ≡ 0xA2
        → 42 ≤ length buffer
        → imaged_a2 (read_image bytes).state buffer ≡ bytes ++ drop 42 buffer
    read-imaged_a2 kind room =
        let s = (read_image bytes).state in
        (imaged_a2-written s buffer ((write_a2-accepted s (length buffer)).1 (room, good bytes h))).0
        ∙ ap (λ l. l ++ drop 42 buffer) (from-a2 bytes h kind)

    -- promise
    pub read-imaged_a1 : byte bytes 0 ≡ 0xA1
        → 37 ≤ length buffer
        → imaged_a1 (read_image bytes).state buffer ≡ bytes ++ drop 37 buffer
    read-imaged_a1 kind room =
        let s = (read_image bytes).state in
        let own = from-a1 bytes h kind in
        let means = (fits_a1-means s).0 own.0 in
        (imaged_a1-written s buffer ((write_a1-accepted s (length buffer)).1 (room, good bytes h, means.0, means.1))).0
        ∙ ap (λ l. l ++ drop 37 buffer) own.1

-- Cross-checks only: rules told a second time.
-- "kind A3, the offset in four bytes, big-endian, and the A2 image, 47 bytes in all".
-- Proves: mark-layout, mark-back, mark-written.
use mathlib.Core.Path.{◌≡◌, refl, sym, ap, ap₂, ◌∙◌}
use mathlib.Core.Bool.{true}
use mathlib.Core.List.{List, [], ◌∷◌, ◌++◌}
use Prim.Native.Nat.{ℕ, ◌+◌, ◌*◌, ◌≤◌, ◌<◌}
use native.Mathlib.Omega.{arith}
use lib.ListN.{length, drop}
use Rattle.wire.specs.Bytes.{byte}
use Rattle.unit.specs.States.{sound}
use Rattle.unit.specs.declared.state.State.{State}
use Rattle.image.specs.Images.{image_a2, read_a2}
use Rattle.image.proofs.Again.Reading.{read-empty}
use Rattle.image.proofs.RoundTrips.{written_a2-read}
use Rattle.marks.specs.Marks.{offset_in, mark_of, mark_in}
use Rattle.marks.proofs.MarkBytes.{offset_read, mark-size, mark-leads}
use Rattle.marks.proofs.Leads.{in-case}
use Rattle.marks.proofs.Again.Meanings.{offset-means}

module _ (offset : ℕ) (s : State) (good : sound s ≡ true) where
  -- kind, offset and image, for every offset that four bytes hold
  -- promise
  pub mark-layout : offset < 4_294_967_296
      → (length (mark_of offset s) ≡ 47)
      × (byte (mark_of offset s) 0 ≡ 0xA3)
      × (byte (mark_of offset s) 1 * 16_777_216
      + (byte (mark_of offset s) 2 * 65_536 + (byte (mark_of offset s) 3 * 256 + byte (mark_of offset s) 4))
      ≡ offset)
      × (drop 5 (mark_of offset s) ≡ image_a2 s)
  unfolding mark_of
  mark-layout small = (mark-size offset s good, refl, offset_read offset s small, refl)

  -- a mark leads back to the offset and the state that it was made of
  -- promise
  pub mark-back : (log : List ℕ)
      → length log ≤ 1_048_576
      → offset ≤ length log
      → mark_in log (mark_of offset s) ≡ record { code = 0; state = s; offset = offset }
  mark-back log short within = mark-leads offset s good log short within

-- a mark of which all is read, made again
rebuilt : (mark : List ℕ)
    → (byte mark 1 ≤ 255) × (byte mark 2 ≤ 255) × (byte mark 3 ≤ 255) × (byte mark 4 ≤ 255)
    → byte mark 0 ≡ 0xA3
    → (read_a2 (drop 5 mark)).code ≡ 0
    → image_a2 (read_a2 (drop 5 mark)).state ≡ drop 5 mark
    → mark_of (offset_in mark) (read_a2 (drop 5 mark)).state ≡ mark
unfolding mark_of
rebuilt [] small kind image own = absurd (omega (arith, read-empty.1))
rebuilt (k ∷ []) small kind image own = absurd (omega (arith, read-empty.1))
rebuilt (k ∷ (a ∷ [])) small kind image own = absurd (omega (arith, read-empty.1))
rebuilt (k ∷ (a ∷ (b ∷ []))) small kind image own = absurd (omega (arith, read-empty.1))
rebuilt (k ∷ (a ∷ (b ∷ (c ∷ [])))) small kind image own = absurd (omega (arith, read-empty.1))
rebuilt (k ∷ (a ∷ (b ∷ (c ∷ (d ∷ rest))))) small kind image own =
    ap₂ (λ x y. 0xA3 ∷ (x ++ y)) (offset-means a b c d small.0 small.1 small.2 small.3) own
    ∙ ap (λ x. x ∷ (a ∷ (b ∷ (c ∷ (d ∷ rest))))) (sym kind)

-- and one that is taken is the mark of what it leads to: no other bytes are
-- promise
pub mark-written : (log mark : List ℕ)
    → (byte mark 1 ≤ 255) × (byte mark 2 ≤ 255) × (byte mark 3 ≤ 255) × (byte mark 4 ≤ 255)
    → (mark_in log mark).code ≡ 0
    → (sound (mark_in log mark).state ≡ true) × (mark_of (mark_in log mark).offset (mark_in log mark).state ≡ mark)
mark-written log mark small =
    in-case log mark (λ b. b.code ≡ 0 → (sound b.state ≡ true) × (mark_of b.offset b.state ≡ mark))
    (λ kind within image is.
    let own = written_a2-read (drop 5 mark) image in
    (own.0, rebuilt mark small kind image own.1))
    (λ is. absurd (omega arith))

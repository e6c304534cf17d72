-- A mark put at a place of a room: its kind, its offset and its image, one behind the other.
-- Proves: sets_more, mark-length, mark-put.
use mathlib.Core.Path.{◌≡◌, refl, sym, ap, ap₂, ◌∙◌}
use mathlib.Core.Bool.{true}
use mathlib.Core.List.{List, [], ◌∷◌, ◌++◌, append-nil, append_assoc}
use Prim.Native.Nat.{ℕ, suc, ◌+◌, ◌-◌, ◌≤◌}
use native.Mathlib.Omega.{arith}
use lib.ListN.{length, set, take, drop, length-set, drop_of_length-le}
use lib.Seq.{sets, sets-eq, length-sets}
use borrow.Rule.Slice.PartMut.{put_mid, Post-is, mid_len}
use Rattle.unit.specs.States.{sound}
use Rattle.unit.specs.declared.state.State.{State}
use Rattle.unit.proofs.Facts.{sound-facts}
use Rattle.image.specs.Images.{size_a2, image_a2, imaged_a2}
use Rattle.image.proofs.Bytes.{image_a2-length}
use Rattle.image.proofs.Putting.{wrote-a2}
use Rattle.marks.specs.Marks.{mark_kind, image_at, mark_size, four_bytes, mark_of}

-- bytes put one behind the other are put as one
pub sets_more : (room : List ℕ) (at : ℕ) (xs ys : List ℕ) → sets room at (xs ++ ys) ≡ sets (sets room at xs) (at + length xs) ys
sets_more room at [] ys =
    let same : at ≡ at + 0 = omega arith in
    ap (λ n. sets room n ys) same
sets_more room at (x ∷ xs) ys =
    let same : suc at + length xs ≡ at + suc (length xs) = omega arith in
    sets_more (set room at x) (suc at) xs ys ∙ ap (λ n. sets (sets (set room at x) (suc at) xs) n ys) same

-- a part of a room is written anew
part-put : (room : List ℕ) (from to : ℕ) (bytes : List ℕ)
    → from ≤ to
    → to ≤ length room
    → length bytes ≡ to - from
    → put_mid from (to - from) room bytes ≡ sets room from bytes
part-put room from to bytes ordered inside size =
    let end : to ≡ from + length bytes = omega arith in
    ap (λ l. take from room ++ (bytes ++ l)) (Post-is from to room ordered ∙ ap (λ n. drop n room) end)
    ∙ sym (append_assoc (take from room) bytes (drop (from + length bytes) room))
    ∙ sym (sets-eq bytes room from (omega arith))

-- the room with the five bytes before the image
headed : List ℕ → ℕ → ℕ → List ℕ
headed room at offset = sets (set room at mark_kind) (at + 1) (four_bytes offset)

headed-length : (room : List ℕ) (at offset : ℕ) → length (headed room at offset) ≡ length room
unfolding headed
headed-length room at offset = length-sets (set room at mark_kind) (at + 1) (four_bytes offset) ∙ length-set room at mark_kind

image-length : (s : State) → sound s ≡ true → length (image_a2 s) ≡ size_a2
image-length s good = image_a2-length s (sound-facts s good).four

-- "47 bytes in all"
pub mark-length : (offset : ℕ) (s : State) → sound s ≡ true → length (mark_of offset s) ≡ mark_size
unfolding mark_of
mark-length offset s good = omega (arith, image-length s good)

module _ (room : List ℕ) (at offset : ℕ) (s : State) (fits : at + mark_size ≤ length room) (good : sound s ≡ true) where
  -- the image fills the part that it is lent
  imaged : (part : List ℕ) → length part ≡ size_a2 → imaged_a2 s part ≡ image_a2 s
  imaged part full =
      let none : length part ≤ size_a2 = omega arith in
      sym (wrote-a2 s part (omega arith) (image_a2 s ++ drop size_a2 part) good refl).1
      ∙ ap (λ l. image_a2 s ++ l) (drop_of_length-le part none)
      ∙ append-nil (image_a2 s)

  -- behind the five bytes before it the mark is whole
  assembled : sets (headed room at offset) (at + image_at) (image_a2 s) ≡ sets room at (mark_of offset s)
  unfolding headed mark_of
  assembled =
      let one : at + 1 ≡ suc at = omega arith in
      let end : at + image_at ≡ suc at + length (four_bytes offset) = omega arith in
      ap₂ (λ m n. sets (sets (set room at mark_kind) m (four_bytes offset)) n (image_a2 s)) one end
      ∙ sym (sets_more (set room at mark_kind) (suc at) (four_bytes offset) (image_a2 s))

  image-put : (after : List ℕ)
      → after ≡ imaged_a2 s (take (at + mark_size - (at + image_at)) (drop (at + image_at) (headed room at offset)))
      → put_mid (at + image_at) (at + mark_size - (at + image_at)) (headed room at offset) after ≡ sets room at (mark_of offset s)
  image-put after wrote =
      let head = headed room at offset in
      let long = headed-length room at offset in
      let full = mid_len (at + image_at) (at + mark_size) head (omega arith) in
      let image : after ≡ image_a2 s = wrote ∙ imaged _ (omega arith) in
      ap (λ l. put_mid (at + image_at) (at + mark_size - (at + image_at)) head l) image
      ∙ part-put head (at + image_at) (at + mark_size) (image_a2 s) (omega arith) (omega arith)
      (omega (arith, image-length s good))
      ∙ assembled

  -- the four bytes of the offset, and then the image
  module _ (digits : List ℕ) (is : digits ≡ four_bytes offset) where
    numbered : put_mid (at + 1) (at + image_at - (at + 1)) (set room at mark_kind) digits ≡ headed room at offset
    unfolding headed
    numbered =
        let long = length-set room at mark_kind in
        ap (put_mid (at + 1) (at + image_at - (at + 1)) (set room at mark_kind)) is
        ∙ part-put (set room at mark_kind) (at + 1) (at + image_at) (four_bytes offset) (omega arith) (omega arith) (omega arith)

    pub mark-put : (after : List ℕ)
        → after
        ≡ imaged_a2 s
        (take (at + mark_size - (at + image_at))
        (drop (at + image_at) (put_mid (at + 1) (at + image_at - (at + 1)) (set room at mark_kind) digits)))
        → put_mid (at + image_at) (at + mark_size - (at + image_at))
        (put_mid (at + 1) (at + image_at - (at + 1)) (set room at mark_kind) digits) after
        ≡ sets room at (mark_of offset s)
    mark-put after wrote =
        let part : List ℕ → List ℕ = λ l. take (at + mark_size - (at + image_at)) (drop (at + image_at) l) in
        ap (λ l. put_mid (at + image_at) (at + mark_size - (at + image_at)) l after) numbered
        ∙ image-put after (wrote ∙ ap (λ l. imaged_a2 s (part l)) numbered)

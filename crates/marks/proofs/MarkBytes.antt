-- The bytes of a mark, and of marks one after the other.
-- Proves: offset_read, mark-size, mark-leads, blocks-join, marks-size, mark-block.
use mathlib.Core.Path.{◌≡◌, refl, sym, ap, ap₂, ◌∙◌}
use mathlib.Core.Bool.{true, cond, ◌&&◌}
use mathlib.Core.List.{List, [], ◌∷◌, ◌++◌, append_assoc}
use Prim.Native.Nat.{ℕ, zero, suc, ◌+◌, ◌*◌, ◌/◌, ◌%◌, ◌≤◌, ◌<◌}
use native.Mathlib.Omega.{arith}
use native.Mathlib.Nat.{add_comm, mul-zero, mul-suc, div-div-eq-div-mul, div-add-mod, mod-eq_of_lt}
use lib.Dec.{eqb, leb}
use lib.ListN.{length, get_or, take, drop, length-append, length-drop}
use lib.Seq.{take_at, drop_at, drop-drop}
use borrow.Author.Tests.{le-leb}
use Rattle.wire.specs.Blocks.{blocks}
use Rattle.wire.specs.Refusals.{accepted, not_sound}
use Rattle.wire.proofs.Tests.{All}
use Rattle.record.specs.Takes.{longest_log}
use Rattle.unit.specs.States.{sound}
use Rattle.unit.specs.declared.state.State.{State}
use Rattle.unit.specs.declared.start.Started.{Started}
use Rattle.unit.proofs.Facts.{sound-facts}
use Rattle.image.proofs.Bytes.{image_a2-length}
use Rattle.image.proofs.RoundTrips.{read_a2-written}
use Rattle.marks.specs.Marks.{mark_every, offset_in, mark_of, after_many, marks_from, begun_refused, mark_in}
use Rattle.marks.proofs.Ran.{many-sound}
use Rattle.marks.proofs.MarkRows.{marks-length}

-- the offset of a mark, read back from its four bytes
pub offset_read : (offset : ℕ) (s : State) → offset < 4_294_967_296 → offset_in (mark_of offset s) ≡ offset
unfolding mark_of
offset_read offset s small =
    let two = div-div-eq-div-mul offset 256 256 in
    let three = div-div-eq-div-mul offset 65_536 256 in
    digits offset (offset / 256) (offset / 65_536) (offset / 16_777_216) (div-add-mod offset 256)
    (ap (λ n. 256 * n + offset / 256 % 256) (sym two) ∙ div-add-mod (offset / 256) 256)
    (ap (λ n. 256 * n + offset / 65_536 % 256) (sym three) ∙ div-add-mod (offset / 65_536) 256)
    (mod-eq_of_lt (omega arith))
  where
    digits : (n a b c : ℕ)
        → 256 * a + n % 256 ≡ n
        → 256 * b + a % 256 ≡ a
        → 256 * c + b % 256 ≡ b
        → c % 256 ≡ c
        → c % 256 * 16_777_216 + (b % 256 * 65_536 + (a % 256 * 256 + n % 256)) ≡ n
    digits n a b c low middle high highest = omega arith

module _ (offset : ℕ) (s : State) (good : sound s ≡ true) where
  pub mark-size : length (mark_of offset s) ≡ 47
  unfolding mark_of
  mark-size = ap (λ n. suc (suc (suc (suc (suc n))))) (image_a2-length s (sound-facts s good).four)

  -- a mark leads to the offset and the state that it was made of
  pub mark-leads : (log : List ℕ)
      → length log ≤ longest_log
      → offset ≤ length log
      → mark_in log (mark_of offset s) ≡ record { code = accepted; state = s; offset = offset }
  unfolding mark_of
  mark-leads log short within =
      let back = offset_read offset s (omega arith) in
      let image = read_a2-written s good in
      ap₂
      (λ at (r : Started).
      cond (leb at (length log) && eqb r.code accepted) (record { code = accepted; state = r.state; offset = at })
      (begun_refused not_sound))
      back image
      ∙ ap (λ b. cond (b && true) (record { code = accepted; state = s; offset = offset }) (begun_refused not_sound))
      (le-leb offset (length log) within)

pub blocks-join : (xs ys : List (List ℕ)) → blocks (λ x. x) (xs ++ ys) ≡ blocks (λ x. x) xs ++ blocks (λ x. x) ys
unfolding blocks
blocks-join [] ys = refl
blocks-join (x ∷ xs) ys = ap (◌++◌ x) (blocks-join xs ys) ∙ sym (append_assoc x (blocks (λ x. x) xs) (blocks (λ x. x) ys))

-- all of one size
abbrev Sized : ℕ → List (List ℕ) → Type 0
Sized size = All (λ x. length x ≡ size)

sized-length : (size : ℕ) (xs : List (List ℕ)) → Sized size xs → length (blocks (λ x. x) xs) ≡ size * length xs
unfolding blocks
sized-length size [] all = omega arith
sized-length size (x ∷ xs) all =
    let later = sized-length size xs all.1 in
    let joined = length-append x (blocks (λ x. x) xs) in
    joined ∙ ap₂ ◌+◌ all.0 later ∙ add_comm size (size * length xs) ∙ sym (mul-suc size (length xs))

sized-block : (size : ℕ) (xs : List (List ℕ)) (more : List ℕ) (i : ℕ)
    → Sized size xs
    → i < length xs
    → take size (drop (size * i) (blocks (λ x. x) xs ++ more)) ≡ get_or xs i []
unfolding blocks
sized-block size [] more i all below = absurd (omega arith)
sized-block size (x ∷ xs) more zero all below =
    ap (λ n. take size (drop n ((x ++ blocks (λ x. x) xs) ++ more))) (mul-zero size)
    ∙ ap (take size) (append_assoc x (blocks (λ x. x) xs) more)
    ∙ take_at x (blocks (λ x. x) xs ++ more) size all.0
sized-block size (x ∷ xs) more (suc i) all below =
    let rest = blocks (λ x. x) xs ++ more in
    ap (λ n. take size (drop n ((x ++ blocks (λ x. x) xs) ++ more))) (mul-suc size i ∙ add_comm (size * i) size)
    ∙ ap (λ l. take size (drop (size + size * i) l)) (append_assoc x (blocks (λ x. x) xs) more)
    ∙ ap (take size) (sym (drop-drop (size * i) size (x ++ rest)))
    ∙ ap (λ l. take size (drop (size * i) l)) (drop_at x rest size all.0)
    ∙ sized-block size xs more i all.1 (omega arith)

marks-sized : (count : ℕ) (s : State) (at : ℕ) (log : List ℕ)
    → length log ≤ longest_log
    → sound s ≡ true
    → Sized 47 (marks_from count s at log)
unfolding marks_from
marks-sized zero s at log short good = tt
marks-sized (suc count) s at log short good =
    let t = after_many s (drop at log) mark_every in
    let size = length-drop at log in
    let kept = many-sound s (drop at log) (omega arith) good 256 in
    (mark-size (at + t.offset) t.state kept, marks-sized count t.state (at + t.offset) log short kept)

-- the marks from a sound state on
module _ (count : ℕ) (s : State) (at : ℕ) (log : List ℕ) (short : length log ≤ longest_log) (good : sound s ≡ true) where
  pub marks-size : length (blocks (λ mark. mark) (marks_from count s at log)) ≡ 47 * count
  marks-size =
      sized-length 47 (marks_from count s at log) (marks-sized count s at log short good)
      ∙ ap (◌*◌ 47) (marks-length count s at log)

  pub mark-block : (more : List ℕ) (i : ℕ)
      → i < count
      → take 47 (drop (47 * i) (blocks (λ mark. mark) (marks_from count s at log) ++ more)) ≡ get_or (marks_from count s at log) i []
  mark-block more i below =
      sized-block 47 (marks_from count s at log) more i (marks-sized count s at log short good)
      (omega (arith, marks-length count s at log))

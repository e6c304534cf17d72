-- A text put at a place of a buffer: what stands before and after it stays; and what is left to put while a text is put part by part.
-- Defines: Putting.
-- Proves: put-length, put-more, put_front, put-none, put_last, put_byte, putting-start, putting-room, putting-next, putting-last,
-- putting-none.
use mathlib.Core.Path.{◌≡◌, refl, sym, ap, ap₂, ◌∙◌}
use mathlib.Core.List.{List, [], ◌∷◌, ◌++◌, append_assoc}
use Prim.Native.Nat.{ℕ, suc, ◌+◌, ◌≤◌, ◌<◌}
use native.Mathlib.Nat.{zero-add, add-zero}
use native.Mathlib.Omega.{arith}
use lib.ListN.{length, take, drop, set, length-append, length-drop, length-set, take-append-drop}
use lib.Seq.{take_at, drop_at, drop-drop, drop-cons, length-take-le, take-set-le, drop-set-lt, get_or-set_same}
use borrow.Author.Tests.{le-leb}
use Rattle.text.specs.Texts.{placed}
use Rattle.text.specs.Making.{put_at, Put}

module _ (text buffer : List ℕ) (at : ℕ) (room : at + length text ≤ length buffer) where
  front : List ℕ
  front = take at buffer ++ text

  front_length : length front ≡ at + length text
  unfolding front
  front_length = length-append (take at buffer) text ∙ ap (λ n. n + length text) (length-take-le at buffer (omega arith))

  put_is : put_at text at buffer ≡ front ++ drop (at + length text) buffer
  unfolding front put_at
  put_is = sym (append_assoc (take at buffer) text (drop (at + length text) buffer))

  -- the buffer keeps its length
  pub put-length : length (put_at text at buffer) ≡ length buffer
  put-length =
      let size = length-drop (at + length text) buffer in
      ap length put_is ∙ length-append front (drop (at + length text) buffer) ∙ omega (arith, front_length)

  before_same : take (at + length text) (put_at text at buffer) ≡ front
  before_same = ap (take (at + length text)) put_is ∙ take_at front (drop (at + length text) buffer) (at + length text) front_length

  after_same : (more : List ℕ)
      → drop (at + length text + length more) (put_at text at buffer) ≡ drop (at + length text + length more) buffer
  after_same more =
      let end = at + length text in
      sym (drop-drop (length more) end (put_at text at buffer))
      ∙ ap (λ l. drop (length more) (drop end l)) put_is
      ∙ ap (drop (length more)) (drop_at front (drop end buffer) end front_length)
      ∙ drop-drop (length more) end buffer

  -- two texts put one after the other are put as one
  pub put-more : (more : List ℕ) → put_at (text ++ more) at buffer ≡ put_at more (at + length text) (put_at text at buffer)
  unfolding put_at front
  put-more more =
      let end = at + length text in
      let sum : at + length (text ++ more) ≡ end + length more = simp length-append (omega arith) in
      ap (λ n. take at buffer ++ ((text ++ more) ++ drop n buffer)) sum
      ∙ ap (◌++◌ (take at buffer)) (append_assoc text more (drop (end + length more) buffer))
      ∙ sym (append_assoc (take at buffer) text (more ++ drop (end + length more) buffer))
      ∙ sym (ap₂ (λ l m. l ++ (more ++ m)) before_same (after_same more))

-- put at the front
pub put_front : (text buffer : List ℕ) → length text ≤ length buffer → placed text buffer ≡ put_at text 0 buffer
unfolding placed put_at
put_front text buffer fits = simp (le-leb (length text) (length buffer) fits, zero-add)

-- no text
pub put-none : (at : ℕ) (buffer : List ℕ) → put_at [] at buffer ≡ buffer
unfolding put_at
put-none at buffer = ap (λ n. take at buffer ++ drop n buffer) (add-zero at) ∙ take-append-drop at buffer

-- a text whose last character stands in the buffer already
pub put_last : (text buffer : List ℕ) (at b : ℕ)
    → at + length text < length buffer
    → put_at text at (set buffer (at + length text) b) ≡ put_at (text ++ (b ∷ [])) at buffer
unfolding put_at
put_last text buffer at b below =
    let end = at + length text in
    let stored =
    drop-cons (set buffer end b) end 0 (simp length-set below)
    ∙ ap₂ ◌∷◌ (get_or-set_same buffer end b 0 below) (drop-set-lt (suc end) buffer end b (omega arith)) in
    let sum : suc end ≡ at + length (text ++ (b ∷ [])) = simp length-append (omega arith) in
    ap₂ (λ l m. l ++ (text ++ m)) (take-set-le at buffer end b (omega arith)) stored
    ∙ ap (◌++◌ (take at buffer)) (sym (append_assoc text (b ∷ []) (drop (suc end) buffer)))
    ∙ ap (λ n. take at buffer ++ ((text ++ (b ∷ [])) ++ drop n buffer)) sum

-- one character
pub put_byte : (buffer : List ℕ) (at b : ℕ) → at < length buffer → set buffer at b ≡ put_at (b ∷ []) at buffer
put_byte buffer at b below =
    let here : at ≡ at + 0 = omega arith in
    ap (λ n. set buffer n b) here ∙ sym (put-none at (set buffer (at + 0) b)) ∙ put_last [] buffer at b (omega arith)

-- what is left of a text while it is put: it has room, ends where the whole ends, and makes the same buffer
abbrev pub Putting : List ℕ → ℕ → List ℕ → List ℕ → ℕ → List ℕ → Type 0
Putting whole start buffer₀ text at buffer =
    (at + length text ≤ length buffer)
    × (length buffer ≡ length buffer₀)
    × (start + length whole ≡ at + length text)
    × (put_at whole start buffer₀ ≡ put_at text at buffer)

pub putting-start : (text : List ℕ) (at : ℕ) (buffer : List ℕ)
    → at + length text ≤ length buffer
    → Putting text at buffer text at buffer
putting-start text at buffer room = (room, refl, refl, refl)

module _ (whole : List ℕ) (start : ℕ) (buffer₀ : List ℕ) where
  -- the first part has room
  pub putting-room : (text more : List ℕ) (at : ℕ) (buffer : List ℕ)
      → Putting whole start buffer₀ (text ++ more) at buffer
      → at + length text ≤ length buffer
  putting-room text more at buffer left = omega (arith, left.0, length-append text more)

  -- where it is put, the second is left
  pub putting-next : (text more : List ℕ) (at : ℕ) (buffer : List ℕ)
      → Putting whole start buffer₀ (text ++ more) at buffer
      → (next : ℕ) (after : List ℕ)
      → Put text at buffer next after
      → Putting whole start buffer₀ more next after
  putting-next text more at buffer left next after put =
      let room = putting-room text more at buffer left in
      let size = length-append text more in
      let kept : length after ≡ length buffer = ap length put.1 ∙ put-length text buffer at room in (
        omega (arith, left.0, size, kept, put.0),
        kept ∙ left.1,
        omega (arith, left.2, size, put.0),
        left.3 ∙ put-more text buffer at room more ∙ ap₂ (put_at more) (sym put.0) (sym put.1),
      )

  -- where all that is left is put, the whole is
  pub putting-last : (text : List ℕ) (at : ℕ) (buffer : List ℕ)
      → Putting whole start buffer₀ text at buffer
      → (next : ℕ) (after : List ℕ)
      → Put text at buffer next after
      → Put whole start buffer₀ next after
  putting-last text at buffer left next after put = (put.0 ∙ sym left.2, put.1 ∙ sym left.3)

  -- and where nothing is left
  pub putting-none : (at : ℕ) (buffer : List ℕ)
      → Putting whole start buffer₀ [] at buffer
      → Put whole start buffer₀ at buffer
  putting-none at buffer left = (omega (arith, left.2), sym (left.3 ∙ put-none at buffer))

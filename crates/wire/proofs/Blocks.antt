-- Blocks of one size, written one after the other into a buffer from a place on.
-- Defines: FilledTo.
-- Proves: blocks-length, filled_more.
use mathlib.Core.Path.{◌≡◌, refl, sym, ap, ap₂, ◌∙◌}
use mathlib.Core.List.{List, [], ◌∷◌, ◌++◌, append-nil, append_assoc}
use Prim.Native.Nat.{ℕ, ◌+◌, ◌*◌, ◌≤◌, ◌<◌}
use native.Mathlib.Nat.{mul-suc, mul-zero}
use native.Mathlib.Numerals.{add-one}
use native.Mathlib.Omega.{arith}
use lib.ListN.{length, get_or, take, drop, length-append, length-drop}
use lib.Seq.{sets, sets-eq, take-suc, take_at, drop-drop, drop_at, length-take-le}
use Rattle.wire.specs.Blocks.{blocks}

blocks-append : {A : Type 0} (bytes_of : A → List ℕ) (xs ys : List A)
    → blocks bytes_of (xs ++ ys) ≡ blocks bytes_of xs ++ blocks bytes_of ys
unfolding blocks
blocks-append bytes_of [] ys = refl
blocks-append bytes_of (x ∷ xs) ys =
    ap (◌++◌ (bytes_of x)) (blocks-append bytes_of xs ys) ∙ sym (append_assoc (bytes_of x) (blocks bytes_of xs) (blocks bytes_of ys))

-- the buffer with the first i things written from `base` on, `at` being where the next one begins
abbrev pub FilledTo : {A : Type 0} → (A → List ℕ) → ℕ → List A → List ℕ → ℕ → ℕ → List ℕ
FilledTo bytes_of base items s i at = take base s ++ (blocks bytes_of (take i items) ++ drop at s)

module _ {A : Type 0} (bytes_of : A → List ℕ) (size : ℕ) (of_size : (a : A) → length (bytes_of a) ≡ size) where
  pub blocks-length : (xs : List A) → length (blocks bytes_of xs) ≡ size * length xs
  unfolding blocks
  blocks-length [] = sym (mul-zero size)
  blocks-length (x ∷ xs) =
      let rest = blocks-length xs in
      let one = of_size x in
      let more = mul-suc size (length xs) in
      let joined = length-append (bytes_of x) (blocks bytes_of xs) in
      omega arith

  module _ (base : ℕ) (items : List A) (s : List ℕ) (i at : ℕ) (d : A)
      (below : i < length items) (begins : at ≡ base + size * i) (room : at + size ≤ length s) where
    front : List ℕ
    front = take base s ++ blocks bytes_of (take i items)

    block : List ℕ
    block = bytes_of (get_or items i d)

    front_length : length front ≡ at
    unfolding front
    front_length =
        length-append (take base s) (blocks bytes_of (take i items))
        ∙ ap₂ ◌+◌ (length-take-le base s (omega arith))
        (blocks-length (take i items) ∙ ap (◌*◌ size) (length-take-le i items (omega arith)))
        ∙ sym begins

    grouped : FilledTo bytes_of base items s i at ≡ front ++ drop at s
    unfolding front
    grouped = sym (append_assoc (take base s) (blocks bytes_of (take i items)) (drop at s))

    whole : length (front ++ drop at s) ≡ length s
    whole = length-append front (drop at s) ∙ simp (front_length, length-drop) (omega arith)

    fits : at + length block ≤ length (front ++ drop at s)
    unfolding block
    fits =
        let one = of_size (get_or items i d) in
        omega (arith, whole)

    later : drop (at + length block) (front ++ drop at s) ≡ drop (at + size) s
    unfolding block
    later =
        ap (λ k. drop (at + k) (front ++ drop at s)) (of_size (get_or items i d))
        ∙ sym (drop-drop size at (front ++ drop at s))
        ∙ ap (drop size) (drop_at front (drop at s) at front_length)
        ∙ drop-drop size at s

    next : blocks bytes_of (take i items) ++ block ≡ blocks bytes_of (take (i + 1) items)
    unfolding block blocks
    next =
        sym
        (ap (λ k. blocks bytes_of (take k items)) (add-one i)
        ∙ ap (blocks bytes_of) (take-suc items i d below)
        ∙ blocks-append bytes_of (take i items) (get_or items i d ∷ [])
        ∙ ap (◌++◌ (blocks bytes_of (take i items))) (append-nil (bytes_of (get_or items i d))))

    -- one more block
    pub filled_more :
        sets (FilledTo bytes_of base items s i at) at (bytes_of (get_or items i d))
        ≡ FilledTo bytes_of base items s (i + 1) (at + size)
    unfolding front block
    filled_more =
        ap (λ l. sets l at block) grouped
        ∙ sets-eq block (front ++ drop at s) at fits
        ∙ ap₂ (λ a b. a ++ block ++ b) (take_at front (drop at s) at front_length) later
        ∙ append_assoc front block (drop (at + size) s)
        ∙ append_assoc (take base s) (blocks bytes_of (take i items)) (block ++ drop (at + size) s)
        ∙ ap (λ x. take base s ++ x)
        (sym (append_assoc (blocks bytes_of (take i items)) block (drop (at + size) s)) ∙ ap (λ x. x ++ drop (at + size) s) next)

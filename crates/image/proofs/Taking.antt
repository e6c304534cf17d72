-- Reading an image as the code does it: byte after byte, and by what its tests showed.
-- Proves: phase_of-other, place-free, place-held, last_none, last_some, same-pointwise, read-a2-empty,
-- read-a2-unknown, read-a2-wrong, read-a2-whole, read-empty, read-other, read-a1-wrong, read-a1-whole, body-by, part-all,
-- copy-end.
use mathlib.Core.Path.{◌≡◌, refl, sym, ap, ap₂, ◌∙◌}
use mathlib.Core.Bool.{Bool, cond, ◌&&◌}
use mathlib.Core.List.{List, [], ◌∷◌, ◌++◌}
use Prim.Native.Nat.{ℕ, zero, suc, ◌+◌, ◌-◌}
use native.Mathlib.Nat.{add-zero}
use native.Mathlib.Omega.{arith}
use lib.Dec.{eqb}
use lib.Pointwise.{pointwise}
use lib.ListN.{length, get_or, set, take, drop, replicate, length-drop}
use lib.Seq.{get_or-drop, take_all}
use lib.Seq as in-lists
use borrow.Author.Tests.{eq-eqb, ne_eqb}
use Rattle.wire.specs.Bytes.{byte}
use Rattle.wire.specs.Refusals.{accepted, wrong_length, unknown_kind, not_sound}
use Rattle.place.specs.Places.{fleet_tries, vacant, seat}
use Rattle.place.specs.declared.phase.Phase.{Phase}
use Rattle.place.specs.declared.phase.Phase.TheVariants.{Ending}
use Rattle.place.specs.declared.place.Direction.{Direction}
use Rattle.unit.specs.States.{sound}
use Rattle.unit.specs.declared.last.Last.TheVariants.{Unknown, Known}
use Rattle.unit.specs.declared.state.State.{State}
use Rattle.image.specs.Images.{kind_a1, kind_a2, size_a1, size_a2, whole_bytes, phase_of}
use Rattle.image.specs.Images.{direction_of, held_in, place_in, last_in}
use Rattle.image.specs.Images.{old_body_size}
use Rattle.image.specs.Bodies.{last_from}
use Rattle.image.specs.Images.{state_in, same_bytes, read_refused, is_body_of, tail_of_a1, read_a2, read_image}
use Rattle.image.specs.Bodies.{read_body}

-- a number of none of the first four phases
pub phase_of-other : (number tries : ℕ)
    → (number ≡ 1 → ⊥)
    → (number ≡ 2 → ⊥)
    → (number ≡ 3 → ⊥)
    → (number ≡ 4 → ⊥)
    → Ending tries ≡ phase_of number tries
phase_of-other zero tries n₁ n₂ n₃ n₄ = refl
phase_of-other (suc zero) tries n₁ n₂ n₃ n₄ = absurd (n₁ refl)
phase_of-other (suc (suc zero)) tries n₁ n₂ n₃ n₄ = absurd (n₂ refl)
phase_of-other (suc (suc (suc zero))) tries n₁ n₂ n₃ n₄ = absurd (n₃ refl)
phase_of-other (suc (suc (suc (suc zero)))) tries n₁ n₂ n₃ n₄ = absurd (n₄ refl)
phase_of-other (suc (suc (suc (suc (suc k))))) tries n₁ n₂ n₃ n₄ = refl

module _ (s : List ℕ) (at : ℕ) where
  byte-here : byte (drop at s) 0 ≡ get_or s at 0
  byte-here = get_or-drop at s 0 0 ∙ ap (λ k. get_or s k 0) (add-zero at)

  -- a phase of 0 is a free place
  pub place-free : (phase : ℕ) → phase ≡ get_or s at 0 → phase ≡ 0 → vacant ≡ place_in (drop at s)
  place-free phase read none =
      sym (ap (λ b. cond b vacant (held_in (drop at s))) (eq-eqb (byte (drop at s) 0) 0 (byte-here ∙ sym read ∙ none)))

  -- any other is held
  pub place-held : (phase direction tries kind high middle low : ℕ) (d : Direction) (ph : Phase)
      → phase ≡ get_or s at 0
      → direction ≡ get_or s (at + 1) 0
      → tries ≡ get_or s (at + 2) 0
      → kind ≡ get_or s (at + 3) 0
      → high ≡ get_or s (at + 4) 0
      → middle ≡ get_or s (at + 5) 0
      → low ≡ get_or s (at + 6) 0
      → (phase ≡ 0 → ⊥)
      → d ≡ direction_of direction
      → ph ≡ phase_of phase tries
      → seat d ph (record { kind = kind; high = high; middle = middle; low = low }) ≡ place_in (drop at s)
  place-held phase direction tries kind high middle low d ph e₀ e₁ e₂ e₃ e₄ e₅ e₆ some dir pha =
      let b : (k x : ℕ) → x ≡ get_or s (at + k) 0 → x ≡ byte (drop at s) k = λ k x e. e ∙ sym (get_or-drop at s k 0) in
      (λ i.
      seat ((dir ∙ ap direction_of (b 1 direction e₁)) i) ((pha ∙ ap₂ phase_of (e₀ ∙ sym byte-here) (b 2 tries e₂)) i)
      (record { kind = b 3 kind e₃ i; high = b 4 high e₄ i; middle = b 5 middle e₅ i; low = b 6 low e₆ i }))
      ∙ sym (ap (λ t. cond t vacant (held_in (drop at s))) (ne_eqb (byte (drop at s) 0) 0 (λ z. some (e₀ ∙ sym byte-here ∙ z))))

-- a first byte of 0 is no last known RBC
module _ (s : List ℕ) (flag : ℕ) (read : flag ≡ get_or s last_from 0) where
  pub last_none : flag ≡ 0 → Unknown ≡ last_in (drop last_from s)
  last_none none =
      let b = drop last_from s in
      sym
      (ap (λ t. cond t Unknown (Known (byte b 1) (byte b 2) (byte b 3)))
      (eq-eqb (byte b 0) 0 (byte-here s last_from ∙ sym read ∙ none)))

  pub last_some : (high middle low : ℕ)
      → high ≡ get_or s (last_from + 1) 0
      → middle ≡ get_or s (last_from + 2) 0
      → low ≡ get_or s (last_from + 3) 0
      → (flag ≡ 0 → ⊥)
      → Known high middle low ≡ last_in (drop last_from s)
  last_some high middle low e₁ e₂ e₃ some =
      let b = drop last_from s in
      let at : (k : ℕ) → get_or s (last_from + k) 0 ≡ byte b k = λ k. sym (get_or-drop last_from s k 0) in
      (λ i. Known ((e₁ ∙ at 1) i) ((e₂ ∙ at 2) i) ((e₃ ∙ at 3) i))
      ∙ sym
      (ap (λ t. cond t Unknown (Known (byte b 1) (byte b 2) (byte b 3)))
      (ne_eqb (byte b 0) 0 (λ z. some (read ∙ sym (byte-here s last_from) ∙ z))))

-- slices compared byte after byte
pub same-pointwise : (a b : List ℕ) → pointwise eqb a b ≡ same_bytes a b
unfolding same_bytes
same-pointwise [] [] = refl
same-pointwise [] (y ∷ ys) = refl
same-pointwise (x ∷ xs) [] = refl
same-pointwise (x ∷ xs) (y ∷ ys) = ap (◌&&◌ (eqb x y)) (same-pointwise xs ys)

-- the refusals of a reading, and its body
pub read-a2-empty : (bytes : List ℕ) → length bytes ≡ 0 → read_refused wrong_length ≡ read_a2 bytes
unfolding read_a2
read-a2-empty [] h = refl
read-a2-empty (kind ∷ body) h = absurd (omega arith)

pub read-a2-unknown : (bytes : List ℕ)
    → (length bytes ≡ 0 → ⊥)
    → (get_or bytes 0 0 ≡ kind_a2 → ⊥)
    → read_refused unknown_kind ≡ read_a2 bytes
unfolding read_a2
read-a2-unknown [] some other = absurd (some refl)
read-a2-unknown (kind ∷ body) some other = simp (ne_eqb kind kind_a2 other)

pub read-a2-wrong : (bytes : List ℕ)
    → (length bytes ≡ 0 → ⊥)
    → get_or bytes 0 0 ≡ kind_a2
    → (length bytes ≡ size_a2 → ⊥)
    → read_refused wrong_length ≡ read_a2 bytes
unfolding read_a2
read-a2-wrong [] some known other = absurd (some refl)
read-a2-wrong (kind ∷ body) some known other = simp (eq-eqb kind kind_a2 known, ne_eqb (length (kind ∷ body)) size_a2 other)

pub read-a2-whole : (bytes : List ℕ)
    → (length bytes ≡ 0 → ⊥)
    → get_or bytes 0 0 ≡ kind_a2
    → length bytes ≡ size_a2
    → read_body (drop 1 bytes) ≡ read_a2 bytes
unfolding read_a2
read-a2-whole [] some known all = absurd (some refl)
read-a2-whole (kind ∷ body) some known all = simp (eq-eqb kind kind_a2 known, eq-eqb (length (kind ∷ body)) size_a2 all)

pub read-empty : (bytes : List ℕ) → length bytes ≡ 0 → read_refused wrong_length ≡ read_image bytes
unfolding read_image read_a2
read-empty [] h = refl
read-empty (kind ∷ body) h = absurd (omega arith)

pub read-other : (bytes : List ℕ)
    → (length bytes ≡ 0 → ⊥)
    → (get_or bytes 0 0 ≡ kind_a1 → ⊥)
    → read_a2 bytes ≡ read_image bytes
unfolding read_image
read-other [] some other = absurd (some refl)
read-other (kind ∷ body) some other = simp (ne_eqb kind kind_a1 other)

pub read-a1-wrong : (bytes : List ℕ)
    → (length bytes ≡ 0 → ⊥)
    → get_or bytes 0 0 ≡ kind_a1
    → (length bytes ≡ size_a1 → ⊥)
    → read_refused wrong_length ≡ read_image bytes
unfolding read_image
read-a1-wrong [] some known other = absurd (some refl)
read-a1-wrong (kind ∷ body) some known other = simp (eq-eqb kind kind_a1 known, ne_eqb (length (kind ∷ body)) size_a1 other)

pub read-a1-whole : (bytes : List ℕ)
    → (length bytes ≡ 0 → ⊥)
    → get_or bytes 0 0 ≡ kind_a1
    → length bytes ≡ size_a1
    → read_body (drop 1 bytes ++ tail_of_a1) ≡ read_image bytes
unfolding read_image
read-a1-whole [] some known all = absurd (some refl)
read-a1-whole (kind ∷ body) some known all = simp (eq-eqb kind kind_a1 known, eq-eqb (length (kind ∷ body)) size_a1 all)

-- a body by what the two tests showed
pub body-by : (body : List ℕ) (s : State) (good own : Bool)
    → s ≡ state_in body
    → sound s ≡ good
    → same_bytes (whole_bytes s) body ≡ own
    → cond (good && own) (record { code = accepted; state = s }) (read_refused not_sound) ≡ read_body body
body-by body s good own of-body test written =
    ap₂ (λ x y. cond (x && y) (record { code = accepted; state = s }) (read_refused not_sound)) (sym test) (sym written)
    ∙ ap (λ x. cond (is_body_of x body) (record { code = accepted; state = x }) (read_refused not_sound)) of-body

-- a slice from a place to its end
pub part-all : (l : List ℕ) (a : ℕ) → take (length l - a) (drop a l) ≡ drop a l
part-all l a = take_all (length l - a) (drop a l) (simp length-drop (omega arith))

-- the body of an image A1 at the front of 41 bytes, and the tries after it
pub copy-end : (body : List ℕ) → length body ≡ old_body_size → set (body ++ replicate 5 0) old_body_size fleet_tries ≡ body
    ++ tail_of_a1
copy-end body long = in-lists.set_at body 0 (replicate 4 0) fleet_tries old_body_size long

-- Cross-checks only: rules told a second time.
-- "Image read: 1 (empty), 2, 1 (length), 11": which of the refusals a reading answers, and what a refused one holds.
-- Proves: read-empty, read-kind, read_a2-kind, read_a1-length, read_a2-length, read_a1-unsound, read_a2-unsound, read-refused,
-- read_a2-refused.
use mathlib.Core.Path.{◌≡◌, refl, ap, ◌∙◌}
use mathlib.Core.Bool.{cond}
use mathlib.Core.List.{List, [], ◌∷◌, ◌++◌}
use Prim.Native.Nat.{ℕ}
use lib.Dec.{eqb}
use lib.ListN.{length}
use borrow.Author.Tests.{eq-eqb, ne_eqb}
use Rattle.wire.specs.Refusals.{accepted, wrong_length, unknown_kind, not_sound}
use Rattle.wire.proofs.Tests.{cond-holds}
use Rattle.unit.specs.States.{no_limits, cold}
use Rattle.unit.specs.declared.start.Started.{Started}
use Rattle.image.specs.Images.{kind_a1, kind_a2, size_a1, size_a2, state_in, read_refused}
use Rattle.image.specs.Images.{is_body_of, tail_of_a1, read_a2, read_image}
use Rattle.image.specs.Bodies.{read_body, of_length}

-- a body that is not read is not sound
unsound : (body : List ℕ) → ((read_body body).code ≡ accepted → ⊥) → (read_body body).code ≡ 11
unsound body =
    cond-holds (λ (r : Started). (r.code ≡ accepted → ⊥) → r.code ≡ 11) (is_body_of (state_in body) body)
    (record { code = accepted; state = state_in body })
    (read_refused not_sound)
    (λ other. absurd (other refl))
    (λ other. refl)

-- "1 (empty)"
-- promise
pub read-empty : ((read_image []).code ≡ 1) × ((read_a2 []).code ≡ 1)
unfolding read_image read_a2
read-empty = (refl, refl)

module _ (kind : ℕ) (body : List ℕ) where
  -- "2"; A1 is no kind for the reader of A2 alone
  -- promise
  pub read_a2-kind : (kind ≡ 0xA2 → ⊥) → (read_a2 (kind ∷ body)).code ≡ 2
  unfolding read_a2
  read_a2-kind other = ap (λ b. (cond b (of_length size_a2 (kind ∷ body) body) (read_refused unknown_kind)).code)
      (ne_eqb kind kind_a2 other)

  -- promise
  pub read-kind : (kind ≡ 0xA1 → ⊥) → (kind ≡ 0xA2 → ⊥) → (read_image (kind ∷ body)).code ≡ 2
  unfolding read_image
  read-kind old new =
      ap (λ b. (cond b (of_length size_a1 (kind ∷ body) (body ++ tail_of_a1)) (read_a2 (kind ∷ body))).code) (ne_eqb kind kind_a1 old)
      ∙ read_a2-kind new

module _ (body : List ℕ) where
  -- "1 (length)"
  -- promise
  pub read_a1-length : (length (0xA1 ∷ body) ≡ 37 → ⊥) → (read_image (0xA1 ∷ body)).code ≡ 1
  unfolding read_image
  read_a1-length other =
      ap (λ b. (cond b (read_body (body ++ tail_of_a1)) (read_refused wrong_length)).code)
      (ne_eqb (length (kind_a1 ∷ body)) size_a1 other)

  -- promise
  pub read_a2-length :
      (length (0xA2 ∷ body) ≡ 42 → ⊥)
      → ((read_a2 (0xA2 ∷ body)).code ≡ 1) × ((read_image (0xA2 ∷ body)).code ≡ 1)
  unfolding read_a2 read_image
  read_a2-length other =
      let short = ap (λ b. (cond b (read_body body) (read_refused wrong_length)).code)
      (ne_eqb (length (kind_a2 ∷ body)) size_a2 other) in
      (short, short)

  -- "11": of the kind's length, and not read
  -- promise
  pub read_a1-unsound : length (0xA1 ∷ body) ≡ 37
      → ((read_image (0xA1 ∷ body)).code ≡ accepted → ⊥)
      → (read_image (0xA1 ∷ body)).code ≡ 11
  unfolding read_image
  read_a1-unsound long other =
      let whole = body ++ tail_of_a1 in
      let sized = ap (λ b. (cond b (read_body whole) (read_refused wrong_length)).code)
      (eq-eqb (length (kind_a1 ∷ body)) size_a1 long) in
      sized ∙ unsound whole (λ h. other (sized ∙ h))

  -- promise
  pub read_a2-unsound : length (0xA2 ∷ body) ≡ 42
      → ((read_a2 (0xA2 ∷ body)).code ≡ accepted → ⊥)
      → ((read_a2 (0xA2 ∷ body)).code ≡ 11) × ((read_image (0xA2 ∷ body)).code ≡ 11)
  unfolding read_a2 read_image
  read_a2-unsound long other =
      let sized = ap (λ b. (cond b (read_body body) (read_refused wrong_length)).code) (eq-eqb (length (kind_a2 ∷ body)) size_a2 long) in
      let eleven = sized ∙ unsound body (λ h. other (sized ∙ h)) in
      (eleven, eleven)

-- "a refused .. image read holds n = 3": the cold state with X from 0 to 0
abbrev Cold : Started → Type 0
Cold r = (r.code ≡ accepted → ⊥) → (r.state ≡ cold no_limits) × (r.state.limits.tries ≡ 3)

refused-cold : (r : ℕ) → Cold (read_refused r)
unfolding cold
refused-cold r other = (refl, refl)

body-cold : (body : List ℕ) → Cold (read_body body)
body-cold body =
    cond-holds Cold (is_body_of (state_in body) body) (record { code = accepted; state = state_in body }) (read_refused not_sound)
    (λ other. absurd (other refl))
    (refused-cold not_sound)

sized-cold : (size : ℕ) (image body : List ℕ) → Cold (of_length size image body)
sized-cold size image body =
    cond-holds Cold (eqb (length image) size) (read_body body) (read_refused wrong_length) (body-cold body) (refused-cold wrong_length)

-- promise
pub read_a2-refused : (bytes : List ℕ)
    → ((read_a2 bytes).code ≡ accepted → ⊥)
    → ((read_a2 bytes).state ≡ cold no_limits) × ((read_a2 bytes).state.limits.tries ≡ 3)
unfolding read_a2
read_a2-refused [] = refused-cold wrong_length
read_a2-refused (kind ∷ body) =
    cond-holds Cold (eqb kind kind_a2) (of_length size_a2 (kind ∷ body) body) (read_refused unknown_kind)
    (sized-cold size_a2 (kind ∷ body) body)
    (refused-cold unknown_kind)

-- promise
pub read-refused : (bytes : List ℕ)
    → ((read_image bytes).code ≡ accepted → ⊥)
    → ((read_image bytes).state ≡ cold no_limits) × ((read_image bytes).state.limits.tries ≡ 3)
unfolding read_image read_a2
read-refused [] = refused-cold wrong_length
read-refused (kind ∷ body) =
    cond-holds Cold (eqb kind kind_a1) (of_length size_a1 (kind ∷ body) (body ++ tail_of_a1)) (read_a2 (kind ∷ body))
    (sized-cold size_a1 (kind ∷ body) (body ++ tail_of_a1))
    (read_a2-refused (kind ∷ body))

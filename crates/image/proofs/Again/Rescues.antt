-- Request Q-13: which rescue is refused and with which number, what a refused one leaves, and that an accepted one leaves a sound
-- image, of which a second one changes nothing.
-- Proves: rescue-empty, rescue-kind, rescue-length, rescue-accepted, rescue-eleven, rescue-refused, rescue-reads, rescue-sound,
-- rescue-twice, rescue-example, rescue-every.
use mathlib.Core.Path.{◌≡◌, refl, sym, ap, subst, ◌∙◌}
use mathlib.Core.Logic.{◌↔◌, ◌⊎◌, inl, inr, ⊎_elim}
use mathlib.Core.Bool.{Bool, true, false}
use mathlib.Core.List.{List, [], ◌∷◌}
use Prim.Native.Nat.{ℕ, ◌≤◌}
use native.Mathlib.Omega.{arith}
use lib.Dec.{eqb}
use lib.ListN.{length, drop}
use borrow.Author.Tests.{eqb-true, eqb-false, eq-eqb}
use Rattle.wire.specs.Bytes.{byte}
use Rattle.wire.specs.Refusals.{accepted, not_sound}
use Rattle.wire.specs.Blocks.{blocks}
use Rattle.wire.proofs.Tests.{and_left, and_right, cond-holds}
use Rattle.place.specs.declared.limits.Limits.{Limits}
use Rattle.unit.specs.States.{some, limits_ok, places_ok, cold_start, sound}
use Rattle.unit.specs.declared.start.Started.{Started}
use Rattle.unit.proofs.Again.Starts.{cold_start-accepted}
use Rattle.image.specs.Images.{body_bytes, whole_bytes, image_a2, places_in, state_in, same_bytes, is_body_of, read_refused, read_a2}
use Rattle.image.specs.Rescue.{mend_places, keep_first, mended, changed, told, spoilt, rescue, rescued}
use Rattle.image.specs.RescueExamples.{spoilt_example, mended_example, every_example}
use Rattle.image.specs.declared.rescue.Rescued.{Rescued}
use Rattle.image.proofs.Again.Reading.{read_a2-kind, read_a2-length}
use Rattle.image.proofs.RoundTrips.{read_a2-written}
use Rattle.image.proofs.Taking.{read-a2-whole}
use Rattle.image.proofs.Mending.{mended-sound}
use Rattle.image.proofs.Rescuing.{limits-started, rescue-mends, rescue-leaves, rescue-unlimited, rescue-readable}
use Rattle.image.proofs.Left.{rescued-left, accepted-limits, limits-at}

-- what a reading refuses with another number than 11 is refused with the same
as_read : (image : List ℕ) (number : ℕ)
    → (read_a2 image).code ≡ number
    → (number ≡ not_sound → ⊥)
    → (rescue image).code ≡ number
as_read image number h other =
    sym (ap (λ (r : Rescued). r.code) (rescue-readable image (λ g. other (sym h ∙ g))).0) ∙ h

-- "Refusals: 1 and 2 as for reading (A1 gives 2)": an empty one
-- promise
pub rescue-empty : (rescue []).code ≡ 1
unfolding read_a2
rescue-empty = as_read [] 1 refl (λ h. absurd (omega arith))

-- promise
pub rescue-kind : (kind : ℕ) (body : List ℕ) → (kind ≡ 0xA2 → ⊥) → (rescue (kind ∷ body)).code ≡ 2
rescue-kind kind body other = as_read (kind ∷ body) 2 (read_a2-kind kind body other) (λ h. absurd (omega arith))

-- promise
pub rescue-length : (body : List ℕ) → (length (0xA2 ∷ body) ≡ 42 → ⊥) → (rescue (0xA2 ∷ body)).code ≡ 1
rescue-length body other = as_read (0xA2 ∷ body) 1 (read_a2-length body other).0 (λ h. absurd (omega arith))

module _ (image : List ℕ) where
  -- what a rescue answers, by the reading's code and the limits
  mends : (read_a2 image).code ≡ not_sound → limits_ok (state_in (drop 1 image)).limits ≡ true → (rescue image).code ≡ accepted
  mends bad good = sym (ap (λ (r : Rescued). r.code) (rescue-mends image bad good).0)

  module _ (kind : byte image 0 ≡ 0xA2) (long : length image ≡ 42) where
    some_byte : length image ≡ 0 → ⊥
    some_byte none = absurd (omega arith)

    either : ((read_a2 image).code ≡ accepted) ⊎ ((read_a2 image).code ≡ not_sound)
    either =
        subst (λ (r : Started). (r.code ≡ accepted) ⊎ (r.code ≡ not_sound)) (read-a2-whole image some_byte kind long)
        (cond-holds (λ (r : Started). (r.code ≡ accepted) ⊎ (r.code ≡ not_sound))
        (is_body_of (state_in (drop 1 image)) (drop 1 image))
        (record { code = accepted; state = state_in (drop 1 image) })
        (read_refused not_sound)
        (inl refl)
        (inr refl))

    -- "then 11 if the X numbers or n are bad": of an image A2 of 42 bytes a rescue is accepted exactly with these
    -- promise
    pub rescue-accepted :
        ((rescue image).code ≡ accepted)
        ↔ ((byte image 1 ≤ byte image 2) × (byte image 2 ≤ 7) × (1 ≤ byte image 37) × (byte image 37 ≤ 9))
    rescue-accepted = (
      (λ ok.
          let good = limits-started limits ∙ ap limits_ok (sym (limits-at image)) ∙ accepted-limits image ok in
          (cold_start-accepted limits).0 (eqb-true (cold_start limits).code accepted good)),
      (λ within.
          let started = eq-eqb (cold_start limits).code accepted ((cold_start-accepted limits).1 within) in
          taken (ap limits_ok (limits-at image) ∙ sym (limits-started limits) ∙ started)),
    )
      where
        limits : Limits
        limits = record { lowest = byte image 1; highest = byte image 2; tries = byte image 37 }

        taken : limits_ok (state_in (drop 1 image)).limits ≡ true → (rescue image).code ≡ accepted
        taken good = ⊎_elim (λ h. as_read image accepted h (λ e. absurd (omega arith))) (λ bad. mends bad good) either

    -- and refused with 11 with any others
    -- promise
    pub rescue-eleven : ((rescue image).code ≡ accepted → ⊥) → (rescue image).code ≡ 11
    rescue-eleven refused =
        ⊎_elim
        (λ h. absurd (refused (as_read image accepted h (λ e. absurd (omega arith)))))
        (λ bad. by (limits_ok (state_in (drop 1 image)).limits) refl bad)
        either
      where
        by : (b : Bool)
            → limits_ok (state_in (drop 1 image)).limits ≡ b
            → (read_a2 image).code ≡ not_sound
            → (rescue image).code ≡ 11
        by true good bad = absurd (refused (mends bad good))
        by false limits bad = sym (ap (λ (r : Rescued). r.code) (rescue-unlimited image limits).0) ∙ bad

  -- a refused rescue changes no byte and lists nothing
  -- promise
  pub rescue-refused : ((rescue image).code ≡ accepted → ⊥) → (rescued image ≡ image) × (told (rescue image) ≡ [])
  rescue-refused refused = by (spoilt image) refl
    where
      by : (b : Bool) → spoilt image ≡ b → (rescued image ≡ image) × (told (rescue image) ≡ [])
      by true is =
          let code = eqb (read_a2 image).code not_sound in
          let limits = limits_ok (state_in (drop 1 image)).limits in
          absurd (refused (mends (eqb-true (read_a2 image).code not_sound (and_left code limits is)) (and_right code limits is)))
      by false is =
          let law = rescue-leaves image is in
          (sym law.1, ap told (sym law.0))

  -- "a sound image is unchanged with an empty list"
  -- promise
  pub rescue-sound :
      (read_a2 image).code ≡ accepted
      → ((rescue image).code ≡ accepted) × (rescued image ≡ image) × (told (rescue image) ≡ [])
  rescue-sound h =
      let law = rescue-readable image (λ g. absurd (omega (arith, h, g))) in
      (as_read image accepted h (λ e. absurd (omega arith)), sym law.1, ap told (sym law.0))

  -- "The result is sound": it reads with code 0
  -- promise
  pub rescue-reads :
      (rescue image).code ≡ accepted
      → ((read_a2 (rescued image)).code ≡ accepted) × (sound (read_a2 (rescued image)).state ≡ true)
  rescue-reads ok =
      let read =
      ap (λ b. read_a2 b) (rescued-left image ok)
      ∙ read_a2-written (mended (drop 1 image)) (mended-sound (drop 1 image) (accepted-limits image ok)) in (
        ap (λ (r : Started). r.code) read,
        ap (λ (r : Started). sound r.state) read ∙ mended-sound (drop 1 image) (accepted-limits image ok),
      )

-- "a second rescue changes nothing", and lists nothing
-- promise
pub rescue-twice : (image : List ℕ) → (rescued (rescued image) ≡ rescued image) × (told (rescue (rescued image)) ≡ [])
rescue-twice image = by (eqb (rescue image).code accepted) refl
  where
    by : (b : Bool)
        → eqb (rescue image).code accepted ≡ b
        → (rescued (rescued image) ≡ rescued image) × (told (rescue (rescued image)) ≡ [])
    by true ok =
        let law = rescue-sound (rescued image) (rescue-reads image (eqb-true (rescue image).code accepted ok)).0 in
        (law.1, law.2)
    by false refused =
        let law = rescue-refused image (eqb-false (rescue image).code accepted refused) in
        (ap rescued law.0, ap (λ b. told (rescue b)) law.0 ∙ law.1)

-- reading and all that it goes through, opened as one where it runs on a written image
reads : List ℕ → Started
unfolding read_a2 image_a2 whole_bytes body_bytes state_in places_in same_bytes sound places_ok some blocks
reads image = read_a2 image

-- three tries; inside 7 beside a hole end of 1; RBC 5 with four tries, and good twice; a free place with a byte of 9; the reserved RBC
-- promise
pub rescue-example :
    (rescue spoilt_example
    ≡ record { code = 0; fields = 5 ∷ 9 ∷ 23 ∷ 30 ∷ 38 ∷ 0 ∷ 0 ∷ 0 ∷ 0 ∷ 0 ∷ 0 ∷ []; count = 5 })
    × (rescued spoilt_example ≡ mended_example)
unfolding rescue rescued reads mended mend_places keep_first changed
rescue-example = (refl, refl)

-- every field bad
-- promise
pub rescue-every :
    rescue every_example
    ≡ record { code = 0; fields = 3 ∷ 4 ∷ 5 ∷ 6 ∷ 7 ∷ 8 ∷ 9 ∷ 16 ∷ 23 ∷ 30 ∷ 38 ∷ []; count = 11 }
unfolding rescue reads mended mend_places keep_first changed
rescue-every = refl

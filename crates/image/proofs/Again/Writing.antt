-- Cross-checks only: rules told a second time.
-- Writing an image: which of the refusals a write answers, and what a refused one leaves.
-- Proves: fits_a1-means, write_a2-no-room, write_a2-unsound, write_a2-accepted, write_a1-no-room, write_a1-unsound, write_a1-unfit,
-- write_a1-accepted, write-state, write_a2-kept, write_a1-kept, imaged_a2-kept, imaged_a1-kept,
-- imaged_a2-written, imaged_a1-written.
use mathlib.Core.Path.{◌≡◌, refl, ap}
use mathlib.Core.Logic.{◌↔◌}
use mathlib.Core.Bool.{Bool, true, false, cond}
use mathlib.Core.List.{List, ◌++◌}
use Prim.Native.Nat.{ℕ, ◌≤◌, ◌<◌}
use native.Mathlib.Omega.{arith}
use lib.Dec.{eqb, leb}
use lib.ListN.{length, drop}
use borrow.Author.Tests.{leb-true, le-leb, lt-leb, eqb-true, eq-eqb}
use Rattle.wire.specs.Refusals.{accepted}
use Rattle.wire.proofs.Tests.{and_left, and_right, and_both, true-false, cond-case, cond-holds}
use Rattle.place.specs.Places.{fleet_tries}
use Rattle.unit.specs.States.{sound}
use Rattle.unit.specs.declared.last.Last.{Last}
use Rattle.unit.specs.declared.last.Last.TheVariants.{Unknown, Known}
use Rattle.unit.specs.declared.state.State.{State}
use Rattle.image.specs.Images.{size_a1, size_a2, image_a1, image_a2, is_unknown, fits_a1, write_a2, write_a1, imaged_a2, imaged_a1}
use Rattle.image.specs.declared.write.Stored.{Stored}

-- "A1 can hold neither the last RBC nor n": a state fits it where n is 3 and none is known
unknown : (last : Last) → is_unknown last ≡ true → last ≡ Unknown
unknown Unknown h = refl
unknown (Known high middle low) h = true-false false h refl

-- promise
pub fits_a1-means : (s : State) → (fits_a1 s ≡ true) ↔ ((s.limits.tries ≡ 3) × (s.last ≡ Unknown))
fits_a1-means s =
    let three = eqb s.limits.tries fleet_tries in
    let none = is_unknown s.last in (
      (λ fits. (eqb-true s.limits.tries fleet_tries (and_left three none fits), unknown s.last (and_right three none fits))),
      (λ h. and_both three none (eq-eqb s.limits.tries fleet_tries h.0) (ap is_unknown h.1)),
    )

module _ (s : State) (room : ℕ) where
  -- "Image write: 10, 11"; "Image buffers must have 42 bytes for A2"
  -- promise
  pub write_a2-no-room : room < 42 → (write_a2 s room).code ≡ 10
  unfolding write_a2
  write_a2-no-room short = simp (lt-leb size_a2 room short)

  -- promise
  pub write_a2-unsound : 42 ≤ room → sound s ≡ false → (write_a2 s room).code ≡ 11
  unfolding write_a2
  write_a2-unsound fits bad = simp (le-leb size_a2 room fits, bad)

  -- promise
  pub write_a2-accepted : ((write_a2 s room).code ≡ accepted) ↔ ((42 ≤ room) × (sound s ≡ true))
  unfolding write_a2
  write_a2-accepted = (
    cond-case Then (leb size_a2 room) _ _
        (λ fits. cond-case Then (sound s) _ _ (λ good h. (leb-true size_a2 room fits, good)) (λ bad h. absurd (omega arith)))
        (λ short h. absurd (omega arith)),
    λ h. simp (le-leb size_a2 room h.0, h.1),
  )
    where
      Then : Stored → Type 0
      Then r = r.code ≡ accepted → (42 ≤ room) × (sound s ≡ true)

  -- "16, the state doesn't fit A1, after 10 and 11"
  -- promise
  pub write_a1-no-room : room < 37 → (write_a1 s room).code ≡ 10
  unfolding write_a1
  write_a1-no-room short = simp (lt-leb size_a1 room short)

  -- promise
  pub write_a1-unsound : 37 ≤ room → sound s ≡ false → (write_a1 s room).code ≡ 11
  unfolding write_a1
  write_a1-unsound fits bad = simp (le-leb size_a1 room fits, bad)

  -- promise
  pub write_a1-unfit : 37 ≤ room → sound s ≡ true → fits_a1 s ≡ false → (write_a1 s room).code ≡ 16
  unfolding write_a1
  write_a1-unfit fits good other = simp (le-leb size_a1 room fits, good, other)

  -- "Going back to A1 is possible exactly when that is so": n is 3 and none is known
  -- promise
  pub write_a1-accepted :
      ((write_a1 s room).code ≡ accepted)
      ↔ ((37 ≤ room) × (sound s ≡ true) × (s.limits.tries ≡ 3) × (s.last ≡ Unknown))
  unfolding write_a1
  write_a1-accepted = (
    cond-case Then (leb size_a1 room) _ _
        (λ fits.
        cond-case Then (sound s) _ _
        (λ good.
        cond-case Then (fits_a1 s) _ _
        (λ held h.
        let means = (fits_a1-means s).0 held in
        (leb-true size_a1 room fits, good, means.0, means.1))
        (λ other h. absurd (omega arith)))
        (λ bad h. absurd (omega arith)))
        (λ short h. absurd (omega arith)),
    λ h. simp (le-leb size_a1 room h.0, h.1, (fits_a1-means s).1 (h.2, h.3)),
  )
    where
      Then : Stored → Type 0
      Then r = r.code ≡ accepted → (37 ≤ room) × (sound s ≡ true) × (s.limits.tries ≡ 3) × (s.last ≡ Unknown)

  -- a write hands back the state as given, where it is accepted too
  -- promise
  pub write-state : ((write_a2 s room).state ≡ s) × ((write_a1 s room).state ≡ s)
  unfolding write_a2 write_a1
  write-state = (
    cond-holds Same (leb size_a2 room) _ _ (cond-holds Same (sound s) _ _ refl refl) refl,
    cond-holds Same (leb size_a1 room) _ _ (cond-holds Same (sound s) _ _ (cond-holds Same (fits_a1 s) _ _ refl refl) refl) refl,
  )
    where
      Same : Stored → Type 0
      Same r = r.state ≡ s

  -- "A refused .. write returns its number, the state as given, counts 0"
  abbrev Kept : Stored → Type 0
  Kept r = (r.code ≡ accepted → ⊥) → (r.state ≡ s) × (r.count ≡ 0)

  -- promise
  pub write_a2-kept : ((write_a2 s room).code ≡ accepted → ⊥) → ((write_a2 s room).state ≡ s) × ((write_a2 s room).count ≡ 0)
  unfolding write_a2
  write_a2-kept =
      cond-holds Kept (leb size_a2 room) _ _
      (cond-holds Kept (sound s) _ _ (λ other. absurd (other refl)) (λ other. (refl, refl)))
      (λ other. (refl, refl))

  -- promise
  pub write_a1-kept : ((write_a1 s room).code ≡ accepted → ⊥) → ((write_a1 s room).state ≡ s) × ((write_a1 s room).count ≡ 0)
  unfolding write_a1
  write_a1-kept =
      cond-holds Kept (leb size_a1 room) _ _
      (cond-holds Kept (sound s) _ _
      (cond-holds Kept (fits_a1 s) _ _ (λ other. absurd (other refl)) (λ other. (refl, refl)))
      (λ other. (refl, refl)))
      (λ other. (refl, refl))

-- "and writes nothing": one test chooses the answer and the buffer
module _ (s : State) (buffer : List ℕ) where
  untouched : (b : Bool) (r t : Stored) (after later : List ℕ)
      → ((r.code ≡ accepted → ⊥) → after ≡ buffer)
      → ((t.code ≡ accepted → ⊥) → later ≡ buffer)
      → ((cond b r t).code ≡ accepted → ⊥)
      → cond b after later ≡ buffer
  untouched true r t after later then else = then
  untouched false r t after later then else = else

  -- promise
  pub imaged_a2-kept : ((write_a2 s (length buffer)).code ≡ accepted → ⊥) → imaged_a2 s buffer ≡ buffer
  unfolding write_a2 imaged_a2
  imaged_a2-kept =
      untouched (leb size_a2 (length buffer)) _ _ _ _
      (untouched (sound s) _ _ _ _ (λ other. absurd (other refl)) (λ other. refl))
      (λ other. refl)

  -- promise
  pub imaged_a1-kept : ((write_a1 s (length buffer)).code ≡ accepted → ⊥) → imaged_a1 s buffer ≡ buffer
  unfolding write_a1 imaged_a1
  imaged_a1-kept =
      untouched (leb size_a1 (length buffer)) _ _ _ _
      (untouched (sound s) _ _ _ _
      (untouched (fits_a1 s) _ _ _ _ (λ other. absurd (other refl)) (λ other. refl))
      (λ other. refl))
      (λ other. refl)

  -- "An accepted call writes only its .. image; later bytes stay", and counts it
  -- promise
  pub imaged_a2-written :
      (write_a2 s (length buffer)).code ≡ accepted
      → (imaged_a2 s buffer ≡ image_a2 s ++ drop 42 buffer) × ((write_a2 s (length buffer)).count ≡ 42)
  unfolding write_a2 imaged_a2
  imaged_a2-written h =
      let means = (write_a2-accepted s (length buffer)).0 h in
      (simp (le-leb size_a2 (length buffer) means.0, means.1), simp (le-leb size_a2 (length buffer) means.0, means.1))

  -- promise
  pub imaged_a1-written :
      (write_a1 s (length buffer)).code ≡ accepted
      → (imaged_a1 s buffer ≡ image_a1 s ++ drop 37 buffer) × ((write_a1 s (length buffer)).count ≡ 37)
  unfolding write_a1 imaged_a1
  imaged_a1-written h =
      let means = (write_a1-accepted s (length buffer)).0 h in
      let fits = (fits_a1-means s).1 (means.2, means.3) in
      (simp (le-leb size_a1 (length buffer) means.0, means.1, fits), simp (le-leb size_a1 (length buffer) means.0, means.1, fits))

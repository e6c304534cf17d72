-- The cold start that C asks for: its numbers as bytes, and what it answers.
-- Proves: start-bytes, start-refused, start-written.
use mathlib.Core.Path.{◌≡◌, refl, sym, ap, ◌∙◌}
use mathlib.Core.Bool.{Bool, true, false, cond, ◌&&◌}
use mathlib.Core.List.{List}
use Prim.Native.Nat.{ℕ, ◌≤◌, ◌<◌}
use native.Mathlib.Omega.{arith}
use lib.Dec.{leb, ltb}
use lib.IntN.{ℤ, pos, neg_ℤ}
use lib.ListN.{length}
use borrow.Author.Tests.{eq-eqb, ne_eqb, leb-true, lt-ltb}
use Rattle.wire.specs.Refusals.{accepted, bad_limits}
use Rattle.wire.proofs.Tests.{and_left, and_right, cond-case}
use Rattle.place.specs.Places.{most_tries}
use Rattle.place.specs.declared.limits.Limits.{Limits}
use Rattle.unit.specs.States.{highest_x, limits_ok, cold, no_limits, cold_start}
use Rattle.unit.specs.declared.start.Started.{Started}
use Rattle.unit.proofs.Facts.{limits-tries}
use Rattle.image.specs.Images.{write_a2, imaged_a2}
use Rattle.image.specs.declared.write.Stored.{Stored}
use Rattle.firmware.specs.Starts.{limits_of, start_returned, start_image}

-- a number that is no byte stands as 255
abbrev Byte : ℕ → ℕ
Byte n = cond (ltb n 256) n 255

small : (n most : ℕ) → most < 255 → Byte n ≤ most → Byte n ≡ n
small n most under =
    cond-case (λ b. b ≤ most → b ≡ n) (ltb n 256) n 255 (λ is h. refl) (λ no h. absurd (omega arith))

own : (n most : ℕ) → most < 255 → n ≤ most → Byte n ≡ n
own n most under h = ap (λ b. cond b n 255) (lt-ltb n 256 (omega arith))

-- the numbers of good limits
module _ (l : Limits) (ok : limits_ok l ≡ true) where
  highest-small : l.highest ≤ highest_x
  highest-small =
      let tried = leb 1 l.tries && leb l.tries most_tries in
      let rest = and_right (leb l.lowest l.highest) (leb l.highest highest_x && tried) ok in
      leb-true l.highest highest_x (and_left (leb l.highest highest_x) tried rest)

  lowest-small : l.lowest ≤ highest_x
  lowest-small =
      let tried = leb 1 l.tries && leb l.tries most_tries in
      let first = and_left (leb l.lowest l.highest) (leb l.highest highest_x && tried) ok in
      let h = leb-true l.lowest l.highest first in
      let g = highest-small in
      omega arith

  tries-small : l.tries ≤ most_tries
  tries-small = (limits-tries l ok).1

-- a refused start holds the same, whatever was asked for
refused-alike : (l m : Limits) → limits_ok l ≡ false → limits_ok m ≡ false → cold_start l ≡ cold_start m
unfolding cold_start
refused-alike l m bad also =
    ap (λ b. cond b (record { code = accepted; state = cold l }) none) bad
    ∙ sym (ap (λ b. cond b (record { code = accepted; state = cold m }) none) also)
  where
    none : Started
    none = record { code = bad_limits; state = cold no_limits }

module _ (lowest highest tries : ℕ) where
  -- the limits as they are given, and as bytes
  abbrev given : Limits
  given = limits_of lowest highest tries

  abbrev clamped : Limits
  clamped = limits_of (Byte lowest) (Byte highest) (Byte tries)

  same-given : limits_ok given ≡ true → clamped ≡ given
  same-given ok =
      λ i.
      record {
        lowest = own lowest highest_x (omega arith) (lowest-small given ok) i;
        highest = own highest highest_x (omega arith) (highest-small given ok) i;
        tries = own tries most_tries (omega arith) (tries-small given ok) i;
      }

  same_bytes_lem : limits_ok clamped ≡ true → clamped ≡ given
  same_bytes_lem ok =
      λ i.
      record {
        lowest = small lowest highest_x (omega arith) (lowest-small clamped ok) i;
        highest = small highest highest_x (omega arith) (highest-small clamped ok) i;
        tries = small tries most_tries (omega arith) (tries-small clamped ok) i;
      }

  -- limits that are refused are refused either way
  start-clamped : cold_start clamped ≡ cold_start given
  start-clamped = by (limits_ok clamped) (limits_ok given) refl refl
    where
      by : (a b : Bool)
          → limits_ok clamped ≡ a
          → limits_ok given ≡ b
          → cold_start clamped ≡ cold_start given
      by true b is also = ap cold_start (same_bytes_lem is)
      by false true is also = ap cold_start (same-given also)
      by false false is also = refused-alike clamped given is also

  pub start-bytes : (a b t : ℕ)
      → a ≡ Byte lowest
      → b ≡ Byte highest
      → t ≡ Byte tries
      → cold_start (limits_of a b t) ≡ cold_start (limits_of lowest highest tries)
  start-bytes a b t ea eb et = (λ i. cold_start (limits_of (ea i) (eb i) (et i))) ∙ start-clamped

-- what a start answers, and the buffer after it
module _ (l : Limits) (image : List ℕ) (start : Started) (is : start ≡ cold_start l) where
  -- the number by whether the start is accepted
  abbrev number : Bool → ℤ
  number t = cond t (neg_ℤ (pos (write_a2 (cold_start l).state (length image)).code)) (neg_ℤ (pos (cold_start l).code))

  pub start-refused : (z : ℤ)
      → (start.code ≡ accepted → ⊥)
      → z ≡ neg_ℤ (pos start.code)
      → (z ≡ start_returned l (length image)) × (image ≡ start_image l image)
  start-refused z other minus =
      let code = ap (λ (r : Started). r.code) is in
      let b = ne_eqb (cold_start l).code accepted (λ h. other (code ∙ h)) in (
        minus
            ∙ ap (λ k. neg_ℤ (pos k)) code
            ∙ sym (ap number b),
        sym (ap (λ t. cond t (imaged_a2 (cold_start l).state image) image) b),
      )

  pub start-written : (z : ℤ) (stored : Stored) (exit : List ℕ)
      → start.code ≡ accepted
      → z ≡ neg_ℤ (pos stored.code)
      → stored ≡ write_a2 start.state (length image)
      → exit ≡ imaged_a2 start.state image
      → (z ≡ start_returned l (length image)) × (exit ≡ start_image l image)
  start-written z stored exit ok minus wrote left =
      let code = ap (λ (r : Started). r.code) is in
      let state = ap (λ (r : Started). r.state) is in
      let b = eq-eqb (cold_start l).code accepted (sym code ∙ ok) in (
        minus
            ∙ ap (λ (x : Stored). neg_ℤ (pos x.code)) (wrote ∙ ap (λ x. write_a2 x (length image)) state)
            ∙ sym (ap number b),
        left
            ∙ ap (λ x. imaged_a2 x image) state
            ∙ sym (ap (λ t. cond t (imaged_a2 (cold_start l).state image) image) b),
      )

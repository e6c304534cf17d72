-- Cross-checks only: rules told a second time.
-- Request Q-13: what an accepted rescue makes of each field, in the bytes of the image.
-- Proves: mark_of, level-mended, mission-mended, marks-mended, end-mended, is_place_of-holds, is_place_of-means, place-mended, last-mended.
use mathlib.Core.Path.{◌≡◌, refl, sym, ap, ap₂, ◌∙◌}
use mathlib.Core.Bool.{Bool, true, false, cond, ◌&&◌, not}
use mathlib.Core.List.{List, [], ◌∷◌, ◌++◌}
use Prim.Native.Nat.{ℕ, zero, suc, ◌+◌, ◌*◌, ◌-◌, ◌<◌}
use native.Mathlib.Omega.{arith}
use lib.Dec.{eqb, leb}
use lib.ListN.{length, length-drop, take, drop, replicate, take-append-drop}
use lib.Seq.{drop-drop, get_or-drop}
use borrow.Author.Tests.{ne_eqb, lt-leb}
use Rattle.wire.specs.Bytes.{byte, flag}
use Rattle.wire.specs.Refusals.{accepted}
use Rattle.wire.proofs.Tests.{and_left, and_right, and_both, true-false, cond-holds}
use Rattle.record.specs.Partners.{named_ok}
use Rattle.place.specs.Places.{place_ok}
use Rattle.place.specs.declared.limits.Limits.{Limits}
use Rattle.place.specs.declared.place.Place.{Place}
use Rattle.unit.specs.Lasts.{rbc_of, last_ok}
use Rattle.unit.specs.States.{place_count, absent_from}
use Rattle.unit.specs.declared.last.Last.{Last}
use Rattle.unit.specs.declared.last.Last.TheVariants.{Unknown, Known}
use Rattle.unit.specs.declared.start.Started.{Started}
use Rattle.image.specs.Images.{place_size, place_bytes, place_in, last_bytes, last_in, state_in}
use Rattle.image.specs.Bodies.{places_at, last_from}
use Rattle.wire.specs.Bytes.{as_bit}
use Rattle.image.specs.Images.{same_bytes, image_a2, body_bytes, whole_bytes, read_a2}
use Rattle.image.specs.Rescue.{is_place_of, is_last_of, mend_last, mended, left, rescue, rescued}
use Rattle.image.proofs.Bytes.{place_in-bytes, same_bytes_lem, bytes_same}
use Rattle.image.proofs.Mending.{mended-sound}
use Rattle.image.proofs.RoundTrips.{read_a2-written}
use Rattle.image.proofs.Rescuing.{mend_last-by}
use Rattle.image.proofs.Left.{rescued-left, accepted-long, accepted-limits, body-byte, limits-at, left-place, left-tail}

-- a mark's byte in its range, or 0
pub mark_of : (b : ℕ) → as_bit (flag b) ≡ cond (leb b 1) b 0
mark_of zero = refl
mark_of (suc zero) = refl
mark_of (suc (suc b)) =
    let over = lt-leb (suc (suc b)) 1 (omega arith) in
    let other = ne_eqb (suc (suc b)) 1 (λ h. absurd (omega arith)) in
    ap as_bit other ∙ sym (ap (λ t. cond t (suc (suc b)) 0) over)

end_of : (inside end : ℕ)
    → as_bit (flag end && not (flag inside)) ≡ cond (leb end 1) (cond (eqb inside 1 && eqb end 1) 0 end) 0
end_of inside zero = cond-holds (λ n. 0 ≡ n) (eqb inside 1 && false) 0 0 refl refl
end_of inside (suc zero) = by (eqb inside 1)
  where
    by : (b : Bool) → as_bit (not b) ≡ cond (b && true) 0 1
    by true = refl
    by false = refl
end_of inside (suc (suc end)) =
    let over = lt-leb (suc (suc end)) 1 (omega arith) in
    let other = ne_eqb (suc (suc end)) 1 (λ h. absurd (omega arith)) in
    ap (λ b. as_bit (b && not (flag inside))) other
    ∙ sym (ap (λ t. cond t (cond (eqb inside 1 && eqb (suc (suc end)) 1) 0 (suc (suc end))) 0) over)

module _ (image : List ℕ) (ok : (rescue image).code ≡ accepted) where
  head-left : (k : ℕ) → byte (rescued image) k ≡ byte (left image) k
  head-left k = ap (λ l. byte l k) (rescued-left image ok)

  -- "Level .. out of range becomes 0"
  -- promise
  pub level-mended : byte (rescued image) 3 ≡ cond (leb (byte image 3) 4) (byte image 3) 0
  unfolding image_a2 whole_bytes body_bytes mended state_in
  level-mended = head-left 3 ∙ ap (λ b. cond (leb b 4) b 0) (body-byte image 2)

  -- "mission"
  -- promise
  pub mission-mended : byte (rescued image) 4 ≡ cond (leb (byte image 4) 2) (byte image 4) 0
  unfolding image_a2 whole_bytes body_bytes mended state_in
  mission-mended = head-left 4 ∙ ap (λ b. cond (leb b 2) b 0) (body-byte image 3)

  -- "or a mark out of range becomes 0": inside a hole, the mode to report, the manual level change
  -- promise
  pub marks-mended :
      (byte (rescued image) 5 ≡ cond (leb (byte image 5) 1) (byte image 5) 0)
      × (byte (rescued image) 6 ≡ cond (leb (byte image 6) 1) (byte image 6) 0)
      × (byte (rescued image) 7 ≡ cond (leb (byte image 7) 1) (byte image 7) 0)
  unfolding image_a2 whole_bytes body_bytes mended state_in
  marks-mended = (
    head-left 5 ∙ ap (λ b. as_bit (flag b)) (body-byte image 4) ∙ mark_of (byte image 5),
    head-left 6 ∙ ap (λ b. as_bit (flag b)) (body-byte image 5) ∙ mark_of (byte image 6),
    head-left 7 ∙ ap (λ b. as_bit (flag b)) (body-byte image 6) ∙ mark_of (byte image 7),
  )

  -- "inside and hole end both 1 clears hole end"; any other hole end in its range stays
  -- promise
  pub end-mended :
      byte (rescued image) 8
      ≡ cond (leb (byte image 8) 1) (cond (eqb (byte image 5) 1 && eqb (byte image 8) 1) 0 (byte image 8)) 0
  unfolding image_a2 whole_bytes body_bytes mended state_in
  end-mended =
      head-left 8
      ∙ ap₂ (λ end inside. as_bit (flag end && not (flag inside))) (body-byte image 7) (body-byte image 4)
      ∙ end_of (byte image 5) (byte image 8)

-- "a place that is not sound by itself": seven bytes pass exactly where some place, sound by itself, writes them
-- promise
pub is_place_of-holds : (l : Limits) (s : List ℕ) (p : Place)
    → place_ok l p ≡ true
    → take place_size s ≡ place_bytes p
    → (is_place_of l s ≡ true) × (place_in s ≡ p)
is_place_of-holds l s p good own =
    let s-is : s ≡ place_bytes p ++ drop place_size s = sym (take-append-drop place_size s) ∙ ap (λ f. f ++ drop place_size s) own in
    let read : place_in s ≡ p = ap place_in s-is ∙ place_in-bytes p.holding (drop place_size s) in (
      and_both (place_ok l (place_in s)) (same_bytes (place_bytes (place_in s)) (take place_size s)) (ap (place_ok l) read ∙ good)
          (ap₂ same_bytes (ap place_bytes read) own ∙ same_bytes_lem (place_bytes p)),
      read,
    )

-- promise
pub is_place_of-means : (l : Limits) (s : List ℕ)
    → is_place_of l s ≡ true
    → (place_ok l (place_in s) ≡ true) × (take place_size s ≡ place_bytes (place_in s))
is_place_of-means l s is =
    let own = same_bytes (place_bytes (place_in s)) (take place_size s) in (
      and_left (place_ok l (place_in s)) own is,
      sym (bytes_same (place_bytes (place_in s)) (take place_size s) (and_right (place_ok l (place_in s)) own is)),
    )

module _ (image : List ℕ) (i : ℕ) (ok : (rescue image).code ≡ accepted) (below : i < place_count) where
  -- the same by the names of the definitions
  place-left :
      take place_size (drop (places_at + place_size * i) (rescued image))
      ≡ cond
      (is_place_of (state_in (drop 1 image)).limits (drop (places_at + place_size * i) image)
      && absent_from (take i (read_a2 (rescued image)).state.places) (place_in (drop (places_at + place_size * i) image)).holding)
      (take place_size (drop (places_at + place_size * i) image))
      (replicate place_size 0)
  place-left =
      let l = (state_in (drop 1 image)).limits in
      let s = drop (places_at + place_size * i) image in
      ap (λ b. take place_size (drop (places_at + place_size * i) b)) (rescued-left image ok)
      ∙ left-place image i below
      ∙ ap
      (λ ps. cond (is_place_of l s && absent_from (take i ps) (place_in s).holding) (take place_size s) (replicate place_size 0))
      (sym as_read)
    where
      as_read : (read_a2 (rescued image)).state.places ≡ (mended (drop 1 image)).places
      as_read =
          ap (λ b. (read_a2 b).state.places) (rescued-left image ok)
          ∙ ap (λ (r : Started). r.state.places)
          (read_a2-written (mended (drop 1 image)) (mended-sound (drop 1 image) (accepted-limits image ok)))

  -- "going upwards, a place that is not sound by itself, or repeats the partner of a lower kept place, becomes free": it is kept
  -- exactly where it is sound by itself, by the limits in the image, and no lower place of the mended image holds its partner
  -- promise
  pub place-mended :
      take 7 (drop (9 + 7 * i) (rescued image))
      ≡ cond
      (is_place_of (record { lowest = byte image 1; highest = byte image 2; tries = byte image 37 }) (drop (9 + 7 * i) image)
      && absent_from (take i (read_a2 (rescued image)).state.places) (place_in (drop (9 + 7 * i) image)).holding)
      (take 7 (drop (9 + 7 * i) image))
      (replicate 7 0)
  place-mended =
      place-left
      ∙ ap
      (λ l.
      cond
      (is_place_of l (drop (9 + 7 * i) image)
      && absent_from (take i (read_a2 (rescued image)).state.places) (place_in (drop (9 + 7 * i) image)).holding)
      (take 7 (drop (9 + 7 * i) image))
      (replicate 7 0))
      (limits-at image)

-- four bytes of the last known RBC
four-of : (s : List ℕ) → length s ≡ 4 → s ≡ byte s 0 ∷ byte s 1 ∷ byte s 2 ∷ byte s 3 ∷ []
four-of [] h = absurd (omega arith)
four-of (a ∷ []) h = absurd (omega arith)
four-of (a ∷ b ∷ []) h = absurd (omega arith)
four-of (a ∷ b ∷ c ∷ []) h = absurd (omega arith)
four-of (a ∷ b ∷ c ∷ d ∷ []) h = refl
four-of (a ∷ b ∷ c ∷ d ∷ e ∷ rest) h = absurd (omega arith)

abbrev Four : ℕ → ℕ → ℕ → ℕ → List ℕ
Four flag high middle low =
    cond (eqb flag 1 && named_ok (rbc_of high middle low)) (1 ∷ high ∷ middle ∷ low ∷ []) (0 ∷ 0 ∷ 0 ∷ 0 ∷ [])

last_of : (flag high middle low : ℕ)
    → last_bytes (mend_last (flag ∷ high ∷ middle ∷ low ∷ [])) ≡ Four flag high middle low
unfolding same_bytes
last_of zero high middle low =
    cond-holds (λ last. last_bytes last ≡ last_bytes Unknown) (is_last_of (0 ∷ high ∷ middle ∷ low ∷ [])) Unknown
    Unknown refl refl
last_of (suc zero) high middle low =
    by (last_ok (Known high middle low)) (same_bytes (1 ∷ high ∷ middle ∷ low ∷ []) (1 ∷ high ∷ middle ∷ low ∷ []))
    (same_bytes_lem (1 ∷ high ∷ middle ∷ low ∷ []))
  where
    by : (good own : Bool)
        → own ≡ true
        → last_bytes (cond (good && own) (Known high middle low) Unknown)
        ≡ cond good (1 ∷ high ∷ middle ∷ low ∷ []) (0 ∷ 0 ∷ 0 ∷ 0 ∷ [])
    by true true is = refl
    by true false is = true-false false is refl
    by false own is = refl
last_of (suc (suc flag)) high middle low =
    ap last_bytes (sym (mend_last-by (f ∷ high ∷ middle ∷ low ∷ []) known (last_ok known) false read refl own))
    ∙ by (last_ok known)
    ∙ sym
    (ap (λ b. cond (b && named_ok (rbc_of high middle low)) (1 ∷ high ∷ middle ∷ low ∷ []) (0 ∷ 0 ∷ 0 ∷ 0 ∷ [])) not-one)
  where
    f : ℕ
    f = suc (suc flag)

    known : Last
    known = Known high middle low

    read : Known high middle low ≡ last_in (f ∷ high ∷ middle ∷ low ∷ [])
    read = sym (ap (λ b. cond b Unknown (Known high middle low)) (ne_eqb f 0 (λ h. absurd (omega arith))))

    own : same_bytes (1 ∷ high ∷ middle ∷ low ∷ []) (f ∷ high ∷ middle ∷ low ∷ []) ≡ false
    own =
        ap (λ b. b && same_bytes (high ∷ middle ∷ low ∷ []) (high ∷ middle ∷ low ∷ []))
        (ne_eqb 1 f (λ h. absurd (omega arith)))

    not-one : eqb f 1 ≡ false
    not-one = ne_eqb f 1 (λ h. absurd (omega arith))

    by : (good : Bool) → last_bytes (cond (good && false) (Known high middle low) Unknown) ≡ 0 ∷ 0 ∷ 0 ∷ 0 ∷ []
    by true = refl
    by false = refl

-- "a bad last RBC becomes none": all but 1 with a number that an RBC may have becomes four zeros
-- promise
pub last-mended : (image : List ℕ)
    → (rescue image).code ≡ accepted
    → drop 38 (rescued image)
    ≡ cond (eqb (byte image 38) 1 && named_ok (rbc_of (byte image 39) (byte image 40) (byte image 41)))
    (1 ∷ byte image 39 ∷ byte image 40 ∷ byte image 41 ∷ [])
    (0 ∷ 0 ∷ 0 ∷ 0 ∷ [])
unfolding mended
last-mended image ok =
    ap (drop 38) (rescued-left image ok)
    ∙ left-tail image
    ∙ ap (λ s. last_bytes (mend_last s)) (drop-drop last_from 1 image ∙ four-of (drop 38 image) four)
    ∙ last_of (byte (drop 38 image) 0) (byte (drop 38 image) 1) (byte (drop 38 image) 2) (byte (drop 38 image) 3)
    ∙ (λ i. Four (at 0 i) (at 1 i) (at 2 i) (at 3 i))
  where
    four : length (drop 38 image) ≡ 4
    four = length-drop 38 image ∙ ap (λ n. n - 38) (accepted-long image ok)

    at : (k : ℕ) → byte (drop 38 image) k ≡ byte image (38 + k)
    at k = get_or-drop 38 image k 0

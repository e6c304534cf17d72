-- What is left of a body: always sound where its limits are, and the whole of a sound state's own body.
-- Proves: mend_places-length, keep_first-length, mended-four, mended-sound, mended-whole.
use mathlib.Core.Path.{◌≡◌, refl, sym, ap, ap₂, ◌∙◌}
use mathlib.Core.Bool.{Bool, true, false, cond, ◌&&◌, ◌||◌, not}
use mathlib.Core.List.{List, [], ◌∷◌, ◌++◌, append_assoc}
use Prim.Native.Nat.{ℕ, zero, suc}
use native.Mathlib.Omega.{arith}
use lib.Dec.{leb}
use lib.ListN.{length, take, drop}
use lib.Seq.{take_at, drop_at, drop-drop}
use borrow.Author.Tests.{le-leb}
use Rattle.record.specs.Records.{highest_level, mission_under_way}
use Rattle.record.specs.Partners.{same_partner}
use Rattle.record.specs.declared.partner.Partner.{Partner}
use Rattle.record.proofs.Partners.{same_refl, same-eq}
use Rattle.wire.proofs.Tests.{and_left, and_right, and_both, true-false, cond-case, cond-holds}
use Rattle.place.specs.Places.{vacant, holds, place_ok}
use Rattle.place.specs.declared.limits.Limits.{Limits}
use Rattle.place.specs.declared.place.Holding.{Holding}
use Rattle.place.specs.declared.place.Holding.TheVariants.{Free, Held}
use Rattle.place.specs.declared.place.Place.{Place}
use Rattle.unit.specs.Lasts.{last_ok}
use Rattle.unit.specs.States.{place_count, some, limits_ok, absent_from, places_ok, sound}
use Rattle.unit.specs.declared.last.Last.{Last}
use Rattle.unit.specs.declared.last.Last.TheVariants.{Unknown, Known}
use Rattle.unit.specs.declared.state.State.{State}
use Rattle.unit.proofs.Facts.{sound-facts, facts-sound, places-facts, facts-places}
use Rattle.wire.specs.Blocks.{blocks}
use Rattle.image.specs.Images.{place_size, place_bytes, body_bytes, last_bytes, whole_bytes, place_in}
use Rattle.image.specs.Images.{head_size, last_in, state_in, same_bytes}
use Rattle.image.specs.Images.{old_body_size}
use Rattle.image.specs.Bodies.{places_bytes, tail_bytes, last_from}
use Rattle.image.specs.Rescue.{within, mend_train, mend_marks, is_place_of, mend_place, mend_places, keep, keep_first}
use Rattle.image.specs.Rescue.{is_last_of, mend_last, mended}
use Rattle.image.proofs.Bytes.{place_bytes-length, place_in-bytes, state_in-whole, whole-tail, same_bytes_lem}

-- the numbers of the places stay
pub mend_places-length : (l : Limits) (k : ℕ) (s : List ℕ) → length (mend_places l k s) ≡ k
unfolding mend_places
mend_places-length l zero s = refl
mend_places-length l (suc k) s = ap suc (mend_places-length l k (drop place_size s))

pub keep_first-length : (kept ps : List Place) → length (keep_first kept ps) ≡ length ps
unfolding keep_first
keep_first-length kept [] = refl
keep_first-length kept (p ∷ ps) = ap suc (keep_first-length (keep kept p ∷ kept) ps)

pub mended-four : (body : List ℕ) → length (mended body).places ≡ place_count
unfolding mended
mended-four body =
    let whole = mend_places (state_in body).limits place_count (drop head_size body) in
    keep_first-length [] whole ∙ mend_places-length (state_in body).limits place_count (drop head_size body)

-- each number is in its range, and not both marks are set
within-ok : (most n : ℕ) → leb (within most n) most ≡ true
within-ok most n = cond-case (λ k. leb k most ≡ true) (leb n most) n 0 (λ good. good) (λ bad. le-leb 0 most (omega arith))

marks-ok : (inside end : Bool) → not (inside && (end && not inside)) ≡ true
marks-ok true true = refl
marks-ok true false = refl
marks-ok false end = refl

last_ok_lem : (s : List ℕ) → last_ok (mend_last s) ≡ true
last_ok_lem s =
    cond-case (λ last. last_ok last ≡ true) (is_last_of s) (last_in s) Unknown
    (λ good. and_left (last_ok (last_in s)) (same_bytes (last_bytes (last_in s)) (take 4 s)) good)
    (λ bad. refl)

-- each place is sound by itself
abbrev AllOk : Limits → List Place → Type 0
AllOk l [] = Unit
AllOk l (p ∷ ps) = (place_ok l p ≡ true) × AllOk l ps

place_ok_lem : (l : Limits) (s : List ℕ) → place_ok l (mend_place l s) ≡ true
place_ok_lem l s =
    cond-case (λ p. place_ok l p ≡ true) (is_place_of l s) (place_in s) vacant
    (λ good. and_left (place_ok l (place_in s)) (same_bytes (place_bytes (place_in s)) (take place_size s)) good)
    (λ bad. refl)

mend_places-ok : (l : Limits) (k : ℕ) (s : List ℕ) → AllOk l (mend_places l k s)
unfolding mend_places
mend_places-ok l zero s = tt
mend_places-ok l (suc k) s = (place_ok_lem l s, mend_places-ok l k (drop place_size s))

-- a partner that a kept place holds is held by none that follows
or_left : (a b : Bool) → a ≡ true → (a || b) ≡ true
or_left true b h = refl
or_left false b h = true-false false h refl

or_right : (a b : Bool) → b ≡ true → (a || b) ≡ true
or_right true b h = refl
or_right false b h = h

or-neither : (a b : Bool) → a ≡ false → b ≡ false → (a || b) ≡ false
or-neither true b h g = h
or-neither false b h g = g

keep-other : (q : Partner) (kept : List Place) (k : Holding)
    → some (holds q) kept ≡ true
    → holds q (keep kept (record { holding = k })) ≡ false
keep-other q kept Free held = refl
keep-other q kept (Held d ph r) held =
    cond-case (λ p. holds q p ≡ false) (not (some (holds r) kept)) (record { holding = Held d ph r }) vacant
    (λ absent. by (same_partner q r) refl absent)
    (λ there. refl)
  where
    by : (b : Bool) → same_partner q r ≡ b → not (some (holds r) kept) ≡ true → b ≡ false
    by true same absent =
        true-false (not (some (holds r) kept)) absent (ap (λ p. not (some (holds p) kept)) (sym (same-eq q r same)) ∙ ap not held)
    by false same absent = refl

keep_first-other : (q : Partner) (kept ps : List Place)
    → some (holds q) kept ≡ true
    → some (holds q) (keep_first kept ps) ≡ false
unfolding keep_first some
keep_first-other q kept [] held = refl
keep_first-other q kept (p ∷ ps) held =
    or-neither (holds q (keep kept p)) (some (holds q) (keep_first (keep kept p ∷ kept) ps)) (keep-other q kept p.holding held)
    (keep_first-other q (keep kept p ∷ kept) ps (or_right (holds q (keep kept p)) (some (holds q) kept) held))

absent-after : (k : Holding) (kept ps : List Place)
    → absent_from (keep_first (record { holding = k } ∷ kept) ps) k ≡ true
unfolding some
absent-after Free kept ps = refl
absent-after (Held d ph r) kept ps =
    let here = or_left (same_partner r r) (some (holds r) kept) (same_refl r) in
    ap not (keep_first-other r (record { holding = Held d ph r } ∷ kept) ps here)

keep-ok : (l : Limits) (kept : List Place) (p : Place) → place_ok l p ≡ true → place_ok l (keep kept p) ≡ true
keep-ok l kept p good = cond-holds (λ q. place_ok l q ≡ true) (absent_from kept p.holding) p vacant good refl

keep_first-ok : (l : Limits) (kept ps : List Place) → AllOk l ps → places_ok l (keep_first kept ps) ≡ true
unfolding keep_first places_ok
keep_first-ok l kept [] all = refl
keep_first-ok l kept (p ∷ ps) all =
    let k = keep kept p in
    and_both (place_ok l k) (absent_from (keep_first (k ∷ kept) ps) k.holding && places_ok l (keep_first (k ∷ kept) ps))
    (keep-ok l kept p all.0)
    (and_both (absent_from (keep_first (k ∷ kept) ps) k.holding) (places_ok l (keep_first (k ∷ kept) ps))
    (absent-after k.holding kept ps)
    (keep_first-ok l (k ∷ kept) ps all.1))

-- what is left is sound
pub mended-sound : (body : List ℕ) → limits_ok (state_in body).limits ≡ true → sound (mended body) ≡ true
unfolding mended
mended-sound body good =
    let l = (state_in body).limits in
    let t = (state_in body).train in
    let m = (state_in body).marks in
    let by-themselves = mend_places l place_count (drop head_size body) in
    facts-sound (mended body) (record {
      limits = good;
      train = and_both _ _ (within-ok highest_level t.level) (within-ok mission_under_way t.mission);
      marks = marks-ok m.inside m.end;
      four = mended-four body;
      places =
          places-facts l (keep_first [] by-themselves)
          (keep_first-ok l [] by-themselves (mend_places-ok l place_count (drop head_size body)));
      last = last_ok_lem (drop last_from body);
    })

-- and of a sound state's own bytes nothing is lost
within_same : (most n : ℕ) → leb n most ≡ true → within most n ≡ n
within_same most n good = ap (λ b. cond b n 0) good

end_same : (inside end : Bool) → not (inside && end) ≡ true → (end && not inside) ≡ end
end_same true true h = true-false false h refl
end_same true false h = refl
end_same false true h = refl
end_same false false h = refl

place_same : (l : Limits) (k : Holding) (rest : List ℕ)
    → place_ok l (record { holding = k }) ≡ true
    → mend_place l (place_bytes (record { holding = k }) ++ rest) ≡ record { holding = k }
place_same l k rest good =
    ap (λ b. cond b (place_in s) vacant) (and_both (place_ok l (place_in s))
    (same_bytes (place_bytes (place_in s)) (take place_size s)) ok own)
    ∙ read
  where
    s : List ℕ
    s = place_bytes (record { holding = k }) ++ rest

    read : place_in (place_bytes (record { holding = k }) ++ rest) ≡ record { holding = k }
    read = place_in-bytes k rest

    ok : place_ok l (place_in s) ≡ true
    ok = ap (place_ok l) read ∙ good

    own : same_bytes (place_bytes (place_in s)) (take place_size s) ≡ true
    own =
        ap₂ same_bytes (ap place_bytes read) (take_at (place_bytes (record { holding = k })) rest place_size (place_bytes-length k))
        ∙ same_bytes_lem (place_bytes (record { holding = k }))

mend_places-same : (l : Limits) (ps : List Place) (rest : List ℕ)
    → places_ok l ps ≡ true
    → mend_places l (length ps) (places_bytes ps ++ rest) ≡ ps
unfolding mend_places places_ok blocks
mend_places-same l [] rest good = refl
mend_places-same l (p ∷ ps) rest good =
    let grouped = append_assoc (place_bytes p) (places_bytes ps) rest in
    let after = places_bytes ps ++ rest in
    let here = and_left (place_ok l p) (absent_from ps p.holding && places_ok l ps) good in
    ap₂ ◌∷◌ (ap (mend_place l) grouped ∙ place_same l p.holding after here)
    (ap (λ s. mend_places l (length ps) (drop place_size s)) grouped
    ∙ ap (mend_places l (length ps)) (drop_at (place_bytes p) after place_size (place_bytes-length p.holding))
    ∙ mend_places-same l ps rest
    (and_right (absent_from ps p.holding) (places_ok l ps) (and_right (place_ok l p) (absent_from ps p.holding && places_ok l ps) good)))

-- the places after a list hold none of its partners
abbrev Apart : List Place → List Place → Type 0
Apart kept ps = (q : Partner) → some (holds q) kept ≡ true → some (holds q) ps ≡ false

keep_same : (k : Holding) (kept : List Place) (ps : List Place)
    → Apart kept (record { holding = k } ∷ ps)
    → keep kept (record { holding = k }) ≡ record { holding = k }
unfolding some
keep_same Free kept ps apart = refl
keep_same (Held d ph r) kept ps apart = by (some (holds r) kept) refl
  where
    by : (b : Bool) → some (holds r) kept ≡ b → keep kept (record { holding = Held d ph r }) ≡ record { holding = Held d ph r }
    by true there =
        true-false (same_partner r r || some (holds r) ps) (or_left (same_partner r r) (some (holds r) ps) (same_refl r)) (apart r there)
    by false none = ap (λ b. cond (not b) (record { holding = Held d ph r }) vacant) none

apart_more : (k : Holding) (kept ps : List Place)
    → Apart kept (record { holding = k } ∷ ps)
    → absent_from ps k ≡ true
    → Apart (record { holding = k } ∷ kept) ps
unfolding some
apart_more k kept ps apart absent q there = by (holds q (record { holding = k })) refl there
  where
    none-there : (k : Holding) → holds q (record { holding = k }) ≡ true → absent_from ps k ≡ true → some (holds q) ps ≡ false
    none-there Free held absent = true-false false held refl
    none-there (Held d ph r) held absent = by-not (some (holds q) ps) (ap (λ p. not (some (holds p) ps)) (same-eq q r held) ∙ absent)
      where
        by-not : (b : Bool) → not b ≡ true → b ≡ false
        by-not true h = true-false false h refl
        by-not false h = refl

    or-other : (a b : Bool) → (a || b) ≡ false → b ≡ false
    or-other true b h = true-false true refl h
    or-other false b h = h

    by : (b : Bool) → holds q (record { holding = k }) ≡ b → (b || some (holds q) kept) ≡ true → some (holds q) ps ≡ false
    by true held h = none-there k held absent
    by false other h = or-other (holds q (record { holding = k })) (some (holds q) ps) (apart q h)

none : (ps : List Place) → Apart [] ps
unfolding some
none ps q there = true-false false there refl

keep_first-same : (l : Limits) (kept ps : List Place)
    → Apart kept ps
    → places_ok l ps ≡ true
    → keep_first kept ps ≡ ps
unfolding keep_first places_ok
keep_first-same l kept [] apart good = refl
keep_first-same l kept (p ∷ ps) apart good =
    let own = keep_same p.holding kept ps apart in
    let rest = and_right (place_ok l p) (absent_from ps p.holding && places_ok l ps) good in
    ap₂ ◌∷◌ own
    (ap (λ k. keep_first (k ∷ kept) ps) own
    ∙ keep_first-same l (p ∷ kept) ps
    (apart_more p.holding kept ps apart (and_left (absent_from ps p.holding) (places_ok l ps) rest))
    (and_right (absent_from ps p.holding) (places_ok l ps) rest))

last-same : (last : Last) → last_ok last ≡ true → mend_last (last_bytes last) ≡ last
last-same Unknown good = ap (λ b. cond b Unknown Unknown) (same_bytes_lem (last_bytes Unknown))
last-same (Known high middle low) good =
    let s = last_bytes (Known high middle low) in
    ap (λ b. cond b (Known high middle low) Unknown) (and_both _ _ good (same_bytes_lem s))

after-head : (s : State) → drop head_size (whole_bytes s) ≡ places_bytes s.places ++ tail_bytes s
unfolding whole_bytes body_bytes
after-head s = refl

pub mended-whole : (s : State) → sound s ≡ true → mended (whole_bytes s) ≡ s
unfolding mended
mended-whole s good =
    λ i. record { limits = (whole i).limits; train = train i; marks = marks i; places = places i; last = last i }
  where
    four : length s.places ≡ place_count
    four = (sound-facts s good).four

    whole : state_in (whole_bytes s) ≡ s
    whole = state_in-whole s four

    train : mend_train (state_in (whole_bytes s)).train ≡ s.train
    train =
        let level-ok = leb s.train.level highest_level in
        let mission-ok = leb s.train.mission mission_under_way in
        let ok = (sound-facts s good).train in
        ap (λ x. mend_train x.train) whole
        ∙ (λ i.
        record {
          level = within_same highest_level s.train.level (and_left level-ok mission-ok ok) i;
          mission = within_same mission_under_way s.train.mission (and_right level-ok mission-ok ok) i;
        })

    marks : mend_marks (state_in (whole_bytes s)).marks ≡ s.marks
    marks =
        let m = s.marks in
        ap (λ x. mend_marks x.marks) whole
        ∙ (λ i.
        record {
          inside = m.inside;
          mode = m.mode;
          manual = m.manual;
          end = end_same m.inside m.end (sound-facts s good).marks i;
        })

    places : keep_first [] (mend_places (state_in (whole_bytes s)).limits place_count (drop head_size (whole_bytes s))) ≡ s.places
    places =
        let ok = facts-places s.limits s.places (sound-facts s good).places in
        ap (λ x. keep_first [] (mend_places x.limits place_count (drop head_size (whole_bytes s)))) whole
        ∙ ap₂ (λ k l. keep_first [] (mend_places s.limits k l)) (sym four) (after-head s)
        ∙ ap (keep_first []) (mend_places-same s.limits s.places (tail_bytes s) ok)
        ∙ keep_first-same s.limits [] s.places (none s.places) ok

    last : mend_last (drop last_from (whole_bytes s)) ≡ s.last
    last =
        ap mend_last (sym (drop-drop 1 old_body_size (whole_bytes s)) ∙ ap (drop 1) (whole-tail s four))
        ∙ last-same s.last (sound-facts s good).last

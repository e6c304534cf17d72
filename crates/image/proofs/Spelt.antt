-- Whether bytes are the ones that what they stand for writes, by tests of the bytes themselves: one place, the places one after the other,
-- the marks, the last known RBC, and a whole body.
-- Defines: bytes_from, PlacesSpelt.
-- Proves: same-append, take-bytes, and-true, and-swap, eqb-sym, zero-eqb, mark-spelt, marks-spelt, held-spelt, zeros-after, spelt_free,
-- spelt-held, spelt-end, spelt-at, unknown-spelt, known-spelt, body-spelt.
use mathlib.Core.Path.{◌≡◌, refl, sym, ap, ap₂, ◌∙◌}
use mathlib.Core.Bool.{Bool, true, false, cond, ◌&&◌, ◌||◌, not}
use mathlib.Core.List.{List, [], ◌∷◌, ◌++◌}
use Prim.Native.Nat.{ℕ, zero, suc, ◌+◌, ◌-◌, ◌*◌, ◌≤◌, ◌<◌}
use native.Mathlib.Nat.{add-zero}
use native.Mathlib.Omega.{arith}
use lib.Dec.{eqb, leb}
use lib.ListN.{length, take, drop, replicate, take-append-drop, length-drop}
use lib.Seq.{take-add, drop-cons, drop-drop, get_or-drop, length-take-le, take_all}
use borrow.Author.Tests.{lt-leb, eqb-true, eqb-false, eq-eqb, ne_eqb}
use Rattle.wire.specs.Blocks.{blocks}
use Rattle.wire.specs.Bytes.{byte, flag, as_bit}
use Rattle.wire.proofs.Tests.{true-false}
use Rattle.place.specs.Places.{phase_number, tries, direction_number, vacant}
use Rattle.place.specs.declared.place.Direction.TheVariants.{Outgoing, Incoming}
use Rattle.unit.specs.States.{place_count}
use Rattle.unit.specs.declared.last.Last.{Last}
use Rattle.unit.specs.declared.last.Last.TheVariants.{Unknown, Known}
use Rattle.image.specs.Images.{place_size, place_bytes, head_bytes, body_bytes, last_bytes, whole_bytes, phase_of, direction_of, held_in}
use Rattle.image.specs.Images.{place_in, places_in, head_size, old_body_size, is_unknown, last_in, state_in, same_bytes}
use Rattle.image.specs.Bodies.{places_bytes, last_from}
use Rattle.image.proofs.Bytes.{place_bytes-length, places_bytes-length, same_bytes_lem}

-- two rows compared part by part
and_assoc : (a b c : Bool) → (a && (b && c)) ≡ ((a && b) && c)
and_assoc true b c = refl
and_assoc false b c = refl

pub same-append : (a b c d : List ℕ) → length a ≡ length b → same_bytes (a ++ c) (b ++ d) ≡ (same_bytes a b && same_bytes c d)
unfolding same_bytes
same-append [] [] c d long = refl
same-append [] (y ∷ b) c d long = absurd (omega arith)
same-append (x ∷ a) [] c d long = absurd (omega arith)
same-append (x ∷ a) (y ∷ b) c d long =
    ap (◌&&◌ (eqb x y)) (same-append a b c d (omega arith)) ∙ and_assoc (eqb x y) (same_bytes a b) (same_bytes c d)

same-split : (a c s : List ℕ) (n : ℕ)
    → length a ≡ n
    → n ≤ length s
    → same_bytes (a ++ c) s ≡ (same_bytes a (take n s) && same_bytes c (drop n s))
same-split a c s n of_size long =
    ap (same_bytes (a ++ c)) (sym (take-append-drop n s))
    ∙ same-append a (take n s) c (drop n s) (of_size ∙ sym (length-take-le n s long))

-- so many bytes from a place on
unfoldable pub bytes_from : List ℕ → ℕ → ℕ → List ℕ
bytes_from s i zero = []
bytes_from s i (suc k) = byte s i ∷ bytes_from s (suc i) k

pub take-bytes : (s : List ℕ) (i k : ℕ) → i + k ≤ length s → take k (drop i s) ≡ bytes_from s i k
unfolding bytes_from
take-bytes s i zero long = refl
take-bytes s i (suc k) long =
    ap (take (suc k)) (drop-cons s i 0 (omega arith)) ∙ ap (◌∷◌ (byte s i)) (take-bytes s (suc i) k (omega arith))

-- tests joined in pairs
pub and-true : (a : Bool) → a ≡ (a && true)
and-true true = refl
and-true false = refl

pub and-swap : (a b : Bool) → (a && b) ≡ (b && a)
and-swap true b = and-true b
and-swap false true = refl
and-swap false false = refl

pairs : (a b c d r : Bool) → (((a && b) && (c && d)) && r) ≡ (a && (b && (c && (d && r))))
pairs a b c d r =
    sym (and_assoc (a && b) (c && d) r) ∙ sym (and_assoc a b ((c && d) && r)) ∙ ap (λ x. a && (b && x)) (sym (and_assoc c d r))

-- bytes compared with 0
pub eqb-sym : (a b : ℕ) → eqb a b ≡ eqb b a
eqb-sym a b = by (eqb b a) refl
  where
    by : (t : Bool) → eqb b a ≡ t → eqb a b ≡ t
    by true e = eq-eqb a b (sym (eqb-true b a e))
    by false e = ne_eqb a b (λ z. eqb-false b a e (sym z))

pub zero-eqb : (b : ℕ) → eqb b 0 ≡ eqb 0 b
zero-eqb b = eqb-sym b 0

zeros : (a b c d : ℕ) (r : Bool)
    → (((eqb a 0 && eqb b 0) && (eqb c 0 && eqb d 0)) && r) ≡ (eqb 0 a && (eqb 0 b && (eqb 0 c && (eqb 0 d && r))))
zeros a b c d r =
    pairs (eqb a 0) (eqb b 0) (eqb c 0) (eqb d 0) r
    ∙ (λ i. zero-eqb a i && (zero-eqb b i && (zero-eqb c i && (zero-eqb d i && r))))

-- the marks
pub mark-spelt : (b : ℕ) → leb b 1 ≡ eqb (as_bit (flag b)) b
mark-spelt zero = refl
mark-spelt (suc zero) = refl
mark-spelt (suc (suc b)) =
    let more = suc (suc b) in
    lt-leb more 1 (omega arith)
    ∙ sym (ap (λ t. eqb (as_bit t) more) (ne_eqb more 1 (λ z. absurd (omega arith))) ∙ ne_eqb 0 more (λ z. absurd (omega arith)))

module _ (body : List ℕ) (long : length body ≡ 41) where
  pub marks-spelt : (inside mode manual end : Bool)
      → inside ≡ eqb (as_bit (flag (byte body 4))) (byte body 4)
      → mode ≡ eqb (as_bit (flag (byte body 5))) (byte body 5)
      → manual ≡ eqb (as_bit (flag (byte body 6))) (byte body 6)
      → end ≡ eqb (as_bit (flag (byte body 7))) (byte body 7)
      → ((inside && mode) && (manual && end)) ≡ same_bytes (drop 4 (head_bytes (state_in body))) (take 4 (drop 4 body))
  unfolding same_bytes state_in bytes_from
  marks-spelt inside mode manual end e₁ e₂ e₃ e₄ =
      and-true ((inside && mode) && (manual && end))
      ∙ pairs inside mode manual end true
      ∙ (λ i. e₁ i && (e₂ i && (e₃ i && (e₄ i && true))))
      ∙ ap (same_bytes (drop 4 (head_bytes (state_in body)))) (sym (take-bytes body 4 4 (omega arith)))

-- one place
held-direction : (d : ℕ) → leb d 1 ≡ eqb (direction_number (direction_of d)) d
held-direction zero = refl
held-direction (suc zero) = refl
held-direction (suc (suc d)) =
    let more = suc (suc d) in
    lt-leb more 1 (omega arith)
    ∙ sym
    (ap (λ t. eqb (direction_number (cond t Outgoing Incoming)) more) (ne_eqb more 0 (λ z. absurd (omega arith)))
    ∙ ne_eqb 1 more (λ z. absurd (omega arith)))

held-tries : (d : ℕ) (ok own : Bool)
    → ok ≡ own
    → (leb d 1 && ok) ≡ (eqb (direction_number (direction_of d)) d && (own && true))
held-tries d ok own e = ap₂ ◌&&◌ (held-direction d) (e ∙ and-true own)

-- "0 in Open"
pub held-spelt : (phase direction used : ℕ)
    → 0 < phase
    → ((leb phase 5 && leb direction 1) && (not (eqb phase 3) || eqb used 0))
    ≡ same_bytes
    (phase_number (phase_of phase used) ∷ direction_number (direction_of direction) ∷ tries (phase_of phase used) ∷ [])
    (phase ∷ direction ∷ used ∷ [])
unfolding same_bytes
held-spelt zero d used some = absurd (omega arith)
held-spelt (suc zero) d used some = held-tries d true (eqb used used) (sym (eq-eqb used used refl))
held-spelt (suc (suc zero)) d used some = held-tries d true (eqb used used) (sym (eq-eqb used used refl))
held-spelt (suc (suc (suc zero))) d used some = held-tries d (eqb used 0) (eqb 0 used) (zero-eqb used)
held-spelt (suc (suc (suc (suc zero)))) d used some = held-tries d true (eqb used used) (sym (eq-eqb used used refl))
held-spelt (suc (suc (suc (suc (suc zero))))) d used some = held-tries d true (eqb used used) (sym (eq-eqb used used refl))
held-spelt (suc (suc (suc (suc (suc (suc k)))))) d used some =
    let more = suc (suc (suc (suc (suc (suc k))))) in
    ap (λ t. (t && leb d 1) && (not (eqb more 3) || eqb used 0)) (lt-leb more 5 (omega arith))
    ∙ sym
    (ap (λ t. t && same_bytes (direction_number (direction_of d) ∷ used ∷ []) (d ∷ used ∷ []))
    (ne_eqb 5 more (λ z. absurd (omega arith))))

module _ (s : List ℕ) (at : ℕ) (long : at + place_size ≤ length s) where
  abbrev rest : List ℕ
  rest = drop at s

  here : (k : ℕ) → byte rest k ≡ byte s (at + k)
  here k = get_or-drop at s k 0

  long-here : place_size ≤ length rest
  long-here = simp length-drop (omega arith)

  pub zeros-after :
      (((eqb (byte s (at + 1)) 0 && eqb (byte s (at + 2)) 0) && (eqb (byte s (at + 3)) 0 && eqb (byte s (at + 4)) 0))
      && (eqb (byte s (at + 5)) 0 && eqb (byte s (at + 6)) 0))
      ≡ same_bytes (replicate 6 0) (take 6 (drop (at + 1) s))
  unfolding same_bytes bytes_from
  zeros-after =
      let z : (k : ℕ) → eqb (byte s (at + k)) 0 ≡ eqb (byte rest k) 0 = λ k. ap (λ b. eqb b 0) (sym (here k)) in
      (λ i. ((z 1 i && z 2 i) && (z 3 i && z 4 i)) && (z 5 i && z 6 i))
      ∙ zeros (byte rest 1) (byte rest 2) (byte rest 3) (byte rest 4) (eqb (byte rest 5) 0 && eqb (byte rest 6) 0)
      ∙ ap (λ t. eqb 0 (byte rest 1) && (eqb 0 (byte rest 2) && (eqb 0 (byte rest 3) && (eqb 0 (byte rest 4) && t))))
      (ap₂ ◌&&◌ (zero-eqb (byte rest 5)) (zero-eqb (byte rest 6) ∙ and-true (eqb 0 (byte rest 6))))
      ∙ ap (same_bytes (replicate 6 0)) (sym (ap (take 6) (sym (drop-drop 1 at s)) ∙ take-bytes rest 1 6 long-here))

  pub spelt_free :
      byte s at ≡ 0
      → same_bytes (replicate 6 0) (take 6 (drop (at + 1) s)) ≡ same_bytes (place_bytes (place_in rest)) (take place_size rest)
  unfolding same_bytes
  spelt_free none =
      let first = here 0 ∙ ap (byte s) (add-zero at) ∙ none in
      ap (λ l. same_bytes (replicate 6 0) (take 6 l)) (sym (drop-drop 1 at s))
      ∙ ap (λ t. t && same_bytes (replicate 6 0) (take 6 (drop 1 rest))) (sym (eq-eqb 0 (byte rest 0) (sym first)))
      ∙ ap₂ (λ b l. same_bytes (place_bytes (cond b vacant (held_in rest))) l) (sym (eq-eqb (byte rest 0) 0 first))
      (sym (ap (take place_size) (drop-cons rest 0 0 (omega (arith, long-here)))))

  pub spelt-held :
      (byte s at ≡ 0 → ⊥)
      → same_bytes
      (phase_number (phase_of (byte s at) (byte s (at + 2)))
      ∷ direction_number (direction_of (byte s (at + 1)))
      ∷ tries (phase_of (byte s at) (byte s (at + 2)))
      ∷ [])
      (byte s at ∷ byte s (at + 1) ∷ byte s (at + 2) ∷ [])
      ≡ same_bytes (place_bytes (place_in rest)) (take place_size rest)
  unfolding same_bytes bytes_from
  spelt-held some =
      let ph = byte rest 0 in
      let d = byte rest 1 in
      let t = byte rest 2 in
      let first = here 0 ∙ ap (byte s) (add-zero at) in
      (λ i. three (sym first i) (sym (here 1) i) (sym (here 2) i))
      ∙ and-true (three ph d t)
      ∙ ap (◌&&◌ (three ph d t)) (sym (same_bytes_lem partner))
      ∙ sym (same-append (written ph d t) (ph ∷ d ∷ t ∷ []) partner partner refl)
      ∙ ap₂ (λ b l. same_bytes (place_bytes (cond b vacant (held_in rest))) l) (sym (ne_eqb ph 0 (λ z. some (sym first ∙ z))))
      (sym (take-bytes rest 0 place_size long-here))
    where
      written : ℕ → ℕ → ℕ → List ℕ
      written ph d t = phase_number (phase_of ph t) ∷ direction_number (direction_of d) ∷ tries (phase_of ph t) ∷ []

      three : ℕ → ℕ → ℕ → Bool
      three ph d t = same_bytes (written ph d t) (ph ∷ d ∷ t ∷ [])

      partner : List ℕ
      partner = byte rest 3 ∷ byte rest 4 ∷ byte rest 5 ∷ byte rest 6 ∷ []

-- the places, one after the other
abbrev pub PlacesSpelt : ℕ → List ℕ → Bool
PlacesSpelt k s = same_bytes (places_bytes (places_in k s)) (take (place_size * k) s)

spelt-next : (k : ℕ) (s : List ℕ)
    → place_size ≤ length s
    → PlacesSpelt (suc k) s ≡ (same_bytes (place_bytes (place_in s)) (take place_size s) && PlacesSpelt k (drop place_size s))
unfolding places_in blocks
spelt-next k s long =
    let more : place_size * suc k ≡ place_size + place_size * k = omega arith in
    let rest = places_bytes (places_in k (drop place_size s)) in
    ap (same_bytes (place_bytes (place_in s) ++ rest)) (ap (λ n. take n s) more ∙ take-add place_size (place_size * k) s)
    ∙ same-append (place_bytes (place_in s)) (take place_size s) rest (take (place_size * k) (drop place_size s))
    (place_bytes-length (place_in s).holding ∙ sym (length-take-le place_size s long))

module _ (body : List ℕ) (long : length body ≡ 41) (i at : ℕ) (begins : at ≡ head_size + place_size * i)
    (so_far : PlacesSpelt place_count (drop head_size body) ≡ PlacesSpelt (place_count - i) (drop at body)) where
  pub spelt-end : place_count ≤ i → true ≡ PlacesSpelt place_count (drop head_size body)
  unfolding same_bytes places_in blocks
  spelt-end all =
      let none : place_count - i ≡ 0 = omega arith in
      sym (so_far ∙ ap (λ k. PlacesSpelt k (drop at body)) none)

  pub spelt-at :
      i < place_count
      → PlacesSpelt place_count (drop head_size body)
      ≡ (same_bytes (place_bytes (place_in (drop at body))) (take place_size (drop at body))
      && PlacesSpelt (place_count - (i + 1)) (drop (at + place_size) body))
  spelt-at below =
      let next : place_count - i ≡ suc (place_count - (i + 1)) = omega arith in
      let room : place_size ≤ length (drop at body) = simp length-drop (omega arith) in
      so_far
      ∙ ap (λ k. PlacesSpelt k (drop at body)) next
      ∙ spelt-next (place_count - (i + 1)) (drop at body) room
      ∙ ap (λ l. same_bytes (place_bytes (place_in (drop at body))) (take place_size (drop at body))
      && PlacesSpelt (place_count - (i + 1)) l)
      (drop-drop place_size at body)

module _ (body : List ℕ) (long : length body ≡ 41) where
  -- the last known RBC
  abbrev tail : List ℕ
  tail = drop last_from body

  tail-bytes : tail ≡ bytes_from body last_from 4
  tail-bytes =
      let four : length tail ≤ 4 = simp length-drop (omega arith) in
      sym (take_all 4 tail four) ∙ take-bytes body last_from 4 (omega arith)

  pub unknown-spelt :
      ((eqb (byte body 37) 0 && eqb (byte body 38) 0) && (eqb (byte body 39) 0 && eqb (byte body 40) 0))
      ≡ same_bytes (last_bytes Unknown) tail
  unfolding same_bytes bytes_from
  unknown-spelt =
      and-true ((eqb (byte body 37) 0 && eqb (byte body 38) 0) && (eqb (byte body 39) 0 && eqb (byte body 40) 0))
      ∙ zeros (byte body 37) (byte body 38) (byte body 39) (byte body 40) true
      ∙ ap (same_bytes (last_bytes Unknown)) (sym tail-bytes)

  pub known-spelt : (last : Last)
      → last ≡ last_in tail
      → is_unknown last ≡ false
      → eqb (byte body 37) 1 ≡ same_bytes (last_bytes last) tail
  unfolding same_bytes bytes_from
  known-spelt last read known =
      by (eqb (byte tail 0) 0) (ap is_unknown (sym read) ∙ known) ∙ ap (λ l. same_bytes (last_bytes l) tail) (sym read)
    where
      by : (b : Bool)
          → is_unknown (cond b Unknown (Known (byte tail 1) (byte tail 2) (byte tail 3))) ≡ false
          → eqb (byte body 37) 1 ≡ same_bytes (last_bytes (cond b Unknown (Known (byte tail 1) (byte tail 2) (byte tail 3)))) tail
      by true none = true-false true refl none
      by false some =
          eqb-sym (byte body 37) 1
          ∙ and-true (eqb 1 (byte body 37))
          ∙ ap (◌&&◌ (eqb 1 (byte body 37))) (sym (same_bytes_lem (bytes_from body 38 3)))
          ∙ ap₂ same_bytes (ap (λ l. 1 ∷ byte l 1 ∷ byte l 2 ∷ byte l 3 ∷ []) (sym tail-bytes)) (sym tail-bytes)

  -- and the whole body
  pub body-spelt :
      same_bytes (whole_bytes (state_in body)) body
      ≡ (same_bytes (drop 4 (head_bytes (state_in body))) (take 4 (drop 4 body))
      && (same_bytes (last_bytes (state_in body).last) tail && PlacesSpelt place_count (drop head_size body)))
  unfolding same_bytes whole_bytes body_bytes state_in places_in bytes_from
  body-spelt =
      same-split four (marks ++ (places ++ after)) body 4 refl (omega arith)
      ∙ ap (λ t. t && same_bytes (marks ++ (places ++ after)) (drop 4 body))
      (ap (same_bytes four) (take-bytes body 0 4 (omega arith)) ∙ same_bytes_lem four)
      ∙ same-split marks (places ++ after) (drop 4 body) 4 refl (simp length-drop (omega arith))
      ∙ ap (◌&&◌ (same_bytes marks (take 4 (drop 4 body))))
      (ap (same_bytes (places ++ after)) (drop-drop 4 4 body)
      ∙ same-split places after (drop head_size body) 28 (places_bytes-length (places_in place_count (drop head_size body)))
      (simp length-drop (omega arith))
      ∙ ap (◌&&◌ (same_bytes places (take 28 (drop head_size body)))) later
      ∙ and-swap (same_bytes places (take 28 (drop head_size body))) (same_bytes (last_bytes (state_in body).last) tail))
    where
      four : List ℕ
      four = bytes_from body 0 4

      marks : List ℕ
      marks = drop 4 (head_bytes (state_in body))

      places : List ℕ
      places = places_bytes (places_in place_count (drop head_size body))

      after : List ℕ
      after = byte body old_body_size ∷ last_bytes (state_in body).last

      later : same_bytes after (drop 28 (drop head_size body)) ≡ same_bytes (last_bytes (state_in body).last) tail
      later =
          ap (same_bytes after) (drop-drop 28 head_size body ∙ drop-cons body old_body_size 0 (omega arith))
          ∙ ap (λ t. t && same_bytes (last_bytes (state_in body).last) tail)
          (eq-eqb (byte body old_body_size) (byte body old_body_size) refl)

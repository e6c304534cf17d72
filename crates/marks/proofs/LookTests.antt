-- A lookup by what its tests show.
-- Defines: found_from.
-- Proves: looked-refused, looked-code, look-limits, look-long, look-lost, look_stop, look-done, looked-facts,
-- looked-eleven, looked-coded.
use mathlib.Core.Path.{◌≡◌, refl, sym, ap, ◌∙◌}
use mathlib.Core.Bool.{true, false, cond}
use mathlib.Core.List.{List}
use Prim.Native.Nat.{ℕ, ◌+◌, ◌/◌, ◌%◌, ◌≤◌, ◌<◌}
use native.Mathlib.Omega.{arith}
use lib.Dec.{eqb, leb}
use lib.ListN.{length}
use borrow.Author.Tests.{eqb-true, eqb-false, eq-eqb, ne_eqb, leb-true, le-leb, lt-leb}
use Rattle.wire.specs.Refusals.{accepted, log_too_long, bad_limits}
use Rattle.wire.proofs.Tests.{cond-case, cond-holds}
use Rattle.record.specs.Takes.{longest_log}
use Rattle.place.specs.declared.limits.Limits.{Limits}
use Rattle.unit.specs.States.{limits_ok, cold}
use Rattle.marks.specs.declared.mark.Begun.{Begun}
use Rattle.marks.specs.declared.lookup.Looked.{Looked}
use Rattle.marks.specs.Lookup.{no_mark, look_refused, mark_for, to_record, look_code, looked_up}
use Rattle.marks.proofs.Leads.{begun-coded}

-- what a lookup that is not refused answers, by the point that the mark leads to
abbrev pub found_from : Begun → List ℕ → ℕ → Looked
found_from b log n =
    record {
      code = accepted;
      state = (to_record b log n).state;
      steps = n % 256;
      offset = b.offset + (to_record b log n).offset;
    }

module _ (l : Limits) (log marks : List ℕ) (n : ℕ) where
  -- a refusal answers its number alone
  pub looked-refused : (r : ℕ) → look_code l log marks n ≡ r → (r ≡ 0 → ⊥) → looked_up l log marks n ≡ look_refused r
  unfolding looked_up
  looked-refused r is some =
      let code = look_code l log marks n in
      ap (λ b. cond b (found_from (mark_for l log marks n) log n) (look_refused code))
      (ne_eqb code accepted (λ none. some (sym is ∙ none)))
      ∙ ap look_refused is

  looked-found : look_code l log marks n ≡ 0 → looked_up l log marks n ≡ found_from (mark_for l log marks n) log n
  unfolding looked_up
  looked-found is =
      let code = look_code l log marks n in
      ap (λ b. cond b (found_from (mark_for l log marks n) log n) (look_refused code)) (eq-eqb code accepted is)

  pub looked-code : (looked_up l log marks n).code ≡ look_code l log marks n
  unfolding looked_up
  looked-code =
      let code = look_code l log marks n in
      cond-case (λ (x : Looked). x.code ≡ code) (eqb code accepted) (found_from (mark_for l log marks n) log n) (look_refused code)
      (λ is. sym (eqb-true code accepted is))
      (λ no. refl)

  pub look-limits : limits_ok l ≡ false → look_code l log marks n ≡ 13
  unfolding look_code
  look-limits bad = simp bad

  module _ (good : limits_ok l ≡ true) where
    pub look-long : longest_log < length log → look_code l log marks n ≡ 12
    unfolding look_code
    look-long long = simp (good, lt-leb (length log) longest_log long)

    module _ (short : length log ≤ longest_log) (b : Begun) (begins : mark_for l log marks n ≡ b) where
      by-mark : look_code l log marks n
          ≡ cond (eqb b.code accepted) (cond (eqb (to_record b log n).read (n % 256)) accepted no_mark) b.code
      unfolding look_code
      by-mark =
          simp (good, le-leb (length log) longest_log short)
          (ap
          (λ (x : Begun).
          cond (eqb x.code accepted) (cond (eqb (to_record x log n).read (n % 256)) accepted no_mark) x.code)
          begins)

      pub look-lost : (r : ℕ) → b.code ≡ r → (r ≡ 0 → ⊥) → look_code l log marks n ≡ r
      look-lost r is some = by-mark ∙ simp (ne_eqb b.code accepted (λ none. some (sym is ∙ none))) is

      module _ (led : b.code ≡ 0) where
        pub look_stop : (to_record b log n).read < n % 256 → look_code l log marks n ≡ 19
        look_stop few =
            let other = ne_eqb (to_record b log n).read (n % 256) (λ same. omega arith) in
            by-mark ∙ simp (eq-eqb b.code accepted led, other)

        pub look-done : (to_record b log n).read ≡ n % 256 → looked_up l log marks n ≡ found_from b log n
        look-done enough =
            let all = eq-eqb (to_record b log n).read (n % 256) enough in
            looked-found (by-mark ∙ simp (eq-eqb b.code accepted led, all)) ∙ ap (λ x. found_from x log n) begins

-- what an accepted lookup shows
pub looked-facts : (l : Limits) (log marks : List ℕ) (n : ℕ)
    → look_code l log marks n ≡ 0
    → (limits_ok l ≡ true)
    × (length log ≤ longest_log)
    × ((mark_for l log marks n).code ≡ 0)
    × ((to_record (mark_for l log marks n) log n).read ≡ n % 256)
unfolding look_code
looked-facts l log marks n =
    let b = mark_for l log marks n in
    let read = (to_record b log n).read in
    let Fine : ℕ → Type 0 =
    λ code. code ≡ 0 → (limits_ok l ≡ true) × (length log ≤ longest_log) × (b.code ≡ 0) × (read ≡ n % 256) in
    cond-case Fine (limits_ok l) _ bad_limits
    (λ good.
    cond-case Fine (leb (length log) longest_log) _ log_too_long
    (λ short.
    cond-case Fine (eqb b.code accepted) _ b.code
    (λ led.
    cond-case Fine (eqb read (n % 256)) accepted no_mark
    (λ all is.
    (good, leb-true (length log) longest_log short, eqb-true b.code accepted led, eqb-true read (n % 256) all))
    (λ no is. absurd (omega arith)))
    (λ no is. absurd (eqb-false b.code accepted no is)))
    (λ no is. absurd (omega arith)))
    (λ no is. absurd (omega arith))

-- and one that is refused with 11
pub looked-eleven : (l : Limits) (log marks : List ℕ) (n : ℕ)
    → look_code l log marks n ≡ 11
    → (limits_ok l ≡ true) × (length log ≤ longest_log) × ((mark_for l log marks n).code ≡ 11)
unfolding look_code
looked-eleven l log marks n =
    let b = mark_for l log marks n in
    let Fine : ℕ → Type 0 = λ code. code ≡ 11 → (limits_ok l ≡ true) × (length log ≤ longest_log) × (b.code ≡ 11) in
    cond-case Fine (limits_ok l) _ bad_limits
    (λ good.
    cond-case Fine (leb (length log) longest_log) _ log_too_long
    (λ short.
    cond-case Fine (eqb b.code accepted) _ b.code
    (λ led.
    cond-holds Fine (eqb (to_record b log n).read (n % 256)) accepted no_mark
    (λ is. absurd (omega arith))
    (λ is. absurd (omega arith)))
    (λ no is. (good, leb-true (length log) longest_log short, is)))
    (λ no is. absurd (omega arith)))
    (λ no is. absurd (omega arith))

-- the numbers that a lookup may answer
pub looked-coded : (P : ℕ → Type 0) (l : Limits) (log marks : List ℕ) (n : ℕ)
    → P 0
    → P 11
    → P 12
    → P 13
    → P 19
    → P (look_code l log marks n)
unfolding look_code
looked-coded P l log marks n none bad long limits gone =
    let b = mark_for l log marks n in
    cond-holds P (limits_ok l) _ bad_limits
    (cond-holds P (leb (length log) longest_log) _ log_too_long
    (cond-holds P (eqb b.code accepted) _ b.code
    (cond-holds P (eqb (to_record b log n).read (n % 256)) accepted no_mark none gone)
    (begun-coded P (cold l) log marks (n / 256) no_mark none bad gone))
    long)
    limits

-- Cross-checks only: rules told a second time.
-- What the words of the promises mean: whole records, an offset in four bytes, how many marks there are, where a mark leads.
-- Proves: whole-none, whole-unknown, whole-cut, whole-next, records-means, offset-means, count-means, in-means, in-leads, in-eleven,
-- refused-means, begun-zero, begun-at, begun-absent.
use mathlib.Core.Path.{◌≡◌, refl, ap, ◌∙◌}
use mathlib.Core.Logic.{◌↔◌}
use mathlib.Core.Bool.{true, false}
use mathlib.Core.List.{List, [], ◌∷◌}
use Prim.Native.Nat.{ℕ, suc, ◌+◌, ◌*◌, ◌-◌, ◌/◌, ◌%◌, ◌≤◌, ◌<◌, min}
use native.Mathlib.Omega.{arith}
use lib.ListN.{length, take, drop, length-drop}
use borrow.Author.Tests.{eq-eqb, le-leb, lt-leb, ltb-true}
use Rattle.wire.specs.Bytes.{byte}
use Rattle.record.specs.Records.{known, length_of}
use Rattle.record.specs.Takes.{take_one}
use Rattle.unit.specs.States.{cold}
use Rattle.unit.specs.declared.state.State.{State}
use Rattle.image.specs.Images.{read_a2}
use Rattle.marks.specs.declared.mark.Begun.{Begun}
use Rattle.marks.specs.Marks.{four_bytes, offset_in, records_in, whole_records, mark_count, begun_refused, mark_in, begun_at}
use Rattle.marks.specs.Lookup.{look_refused}
use Rattle.marks.proofs.Records.{records-min, whole-few}
use Rattle.marks.proofs.Leads.{in-case, begun-missing, begun-there}

-- a log with nothing left has none
-- meaning
pub whole-none : whole_records [] ≡ 0
unfolding records_in
whole-none = refl

module _ (kind : ℕ) (rest : List ℕ) where
  -- none counts from an unknown kind on
  -- meaning
  pub whole-unknown : known kind ≡ false → whole_records (kind ∷ rest) ≡ 0
  unfolding records_in take_one
  whole-unknown other = simp other

  module _ (is : known kind ≡ true) where
    -- nor from a record that is cut off
    -- meaning
    pub whole-cut : length (kind ∷ rest) < length_of kind → whole_records (kind ∷ rest) ≡ 0
    unfolding records_in take_one
    whole-cut few = simp (is, lt-leb (length_of kind) (length (kind ∷ rest)) few)

    -- a record that stands there whole is one, and the others stand behind it
    -- meaning
    pub whole-next : length_of kind ≤ length (kind ∷ rest)
        → whole_records (kind ∷ rest) ≡ suc (whole_records (drop (length_of kind) (kind ∷ rest)))
    unfolding records_in take_one
    whole-next fits =
        let behind = drop (length_of kind) (kind ∷ rest) in
        let some = ltb-true 0 (length_of kind) is in
        let same : records_in (length rest) behind ≡ whole_records behind =
        omega (arith, records-min (length rest) behind, whole-few behind, length-drop (length_of kind) (kind ∷ rest)) in
        simp (is, le-leb (length_of kind) (length (kind ∷ rest)) fits) (ap suc same)

-- "at most so many are counted"
-- meaning
pub records-means : (most : ℕ) (log : List ℕ) → records_in most log ≡ min most (whole_records log)
records-means = records-min

-- four bytes hold one offset, and it has no other four
-- meaning
pub offset-means : (a b c d : ℕ)
    → a ≤ 255
    → b ≤ 255
    → c ≤ 255
    → d ≤ 255
    → four_bytes (a * 16_777_216 + (b * 65_536 + (c * 256 + d))) ≡ a ∷ b ∷ c ∷ d ∷ []
offset-means a b c d in-a in_b in_c in-d =
    let all = a * 16_777_216 + (b * 65_536 + (c * 256 + d)) in
    let third : all / 256 ≡ a * 65_536 + (b * 256 + c) = omega arith in
    let second : all / 65_536 ≡ a * 256 + b = omega arith in
    let first : all / 16_777_216 ≡ a = omega arith in
    let in-first : all / 16_777_216 % 256 ≡ a = ap (λ n. n % 256) first ∙ omega arith in
    let in-second : all / 65_536 % 256 ≡ b = ap (λ n. n % 256) second ∙ omega arith in
    let in-third : all / 256 % 256 ≡ c = ap (λ n. n % 256) third ∙ omega arith in
    let in-fourth : all % 256 ≡ d = omega arith in
    simp (in-first, in-second, in-third, in-fourth)

-- a mark stands after each 256 records that are there
-- meaning
pub count-means : (at : ℕ) (log : List ℕ) (i : ℕ) → (i < mark_count at log) ↔ (256 * suc i ≤ whole_records (drop at log))
count-means at log i = ((λ below. omega arith), (λ enough. omega arith))

module _ (log mark : List ℕ) where
  -- a mark leads on exactly where it has kind A3, an offset in the log and the image of a sound state
  -- meaning
  pub in-means :
      ((mark_in log mark).code ≡ 0)
      ↔ ((byte mark 0 ≡ 0xA3) × (offset_in mark ≤ length log) × ((read_a2 (drop 5 mark)).code ≡ 0))
  in-means = (
    in-case log mark Fine (λ kind within image is. (kind, within, image)) (λ is. absurd (omega arith)),
    λ h.
        let kind = eq-eqb (byte mark 0) 0xA3 h.0 in
        let within = le-leb (offset_in mark) (length log) h.1 in
        let image = eq-eqb (read_a2 (drop 5 mark)).code 0 h.2 in
        simp (kind, within, image),
  )
    where
      Fine : Begun → Type 0
      Fine b = b.code ≡ 0 → (byte mark 0 ≡ 0xA3) × (offset_in mark ≤ length log) × ((read_a2 (drop 5 mark)).code ≡ 0)

  -- then to the offset and the state that it holds
  -- meaning
  pub in-leads : (mark_in log mark).code ≡ 0
      → mark_in log mark ≡ record { code = 0; state = (read_a2 (drop 5 mark)).state; offset = offset_in mark }
  in-leads =
      in-case log mark (λ b. b.code ≡ 0 → b ≡ record { code = 0; state = (read_a2 (drop 5 mark)).state; offset = offset_in mark })
      (λ kind within image is. refl)
      (λ is. absurd (omega arith))

  -- "11" otherwise
  -- meaning
  pub in-eleven : ((mark_in log mark).code ≡ 0 → ⊥) → mark_in log mark ≡ begun_refused 11
  in-eleven =
      in-case log mark (λ b. (b.code ≡ 0 → ⊥) → b ≡ begun_refused 11)
      (λ kind within image other. absurd (other refl))
      (λ other. refl)

-- a refused point or lookup has its number, "the refused cold start's state" and zeros
-- meaning
pub refused-means : (r : ℕ)
    → (begun_refused r ≡ record { code = r; state = cold (record { lowest = 0; highest = 0; tries = 3 }); offset = 0 })
    × (look_refused r ≡ record { code = r; state = cold (record { lowest = 0; highest = 0; tries = 3 }); steps = 0; offset = 0 })
refused-means r = (refl, refl)

module _ (s : State) (log marks : List ℕ) where
  -- number 0 is the start itself
  -- meaning
  pub begun-zero : (missing : ℕ) → begun_at s log marks 0 missing ≡ record { code = 0; state = s; offset = 0 }
  unfolding begun_at
  begun-zero missing = refl

  module _ (number missing : ℕ) where
    -- mark number 1 stands at byte 0, and each other one 47 bytes behind the one before
    -- meaning
    pub begun-at : 1 ≤ number
        → 47 * number ≤ length marks
        → begun_at s log marks number missing ≡ mark_in log (take 47 (drop (47 * (number - 1)) marks))
    begun-at = begun-there s log marks number missing

    -- a mark that is not there whole is missing
    -- meaning
    pub begun-absent : length marks < 47 * number → begun_at s log marks number missing ≡ begun_refused missing
    begun-absent = begun-missing s log marks number missing

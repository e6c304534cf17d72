-- The point that extending and a lookup begin from: the refusals that they share, in their order, 13, 12, and that of the mark.
-- Defines: Number.
-- Proves: begins-limits, begins-log, begins-there, begins-good, begins-fine, number-refused, number-last.
use mathlib.Core.Path.{◌≡◌, refl, sym, ap, subst, ◌∙◌}
use mathlib.Core.Bool.{Bool, true, false, cond}
use mathlib.Core.List.{List}
use Prim.Native.Nat.{ℕ, ◌≤◌, ◌<◌}
use native.Mathlib.Omega.{arith}
use lib.Dec.{eqb, leb}
use lib.ListN.{length}
use borrow.Author.Tests.{le-leb, lt-leb, leb-true, eq-eqb, ne_eqb}
use Rattle.wire.specs.Refusals.{accepted, log_too_long, bad_limits}
use Rattle.wire.proofs.Tests.{cond-case}
use Rattle.record.specs.Takes.{longest_log}
use Rattle.place.specs.declared.limits.Limits.{Limits}
use Rattle.unit.specs.States.{limits_ok, sound, cold, cold_start}
use Rattle.unit.specs.declared.start.Started.{Started}
use Rattle.unit.proofs.Starts.{cold-sound, cold-limits}
use Rattle.marks.specs.Marks.{begun_refused, begun_at}
use Rattle.marks.specs.Beginning.{begins_at}
use Rattle.marks.specs.declared.mark.Begun.{Begun}
use Rattle.marks.proofs.Begun.{Fine, refused-fine, begun-fine}

-- the number that is answered, of the mark to begin from and of what comes after it
abbrev pub Number : Limits → List ℕ → Begun → ℕ → ℕ
Number l log b last =
    cond (limits_ok l)
    (cond (leb (length log) longest_log) (cond (eqb b.code accepted) last b.code) log_too_long)
    bad_limits

module _ (l : Limits) (log marks : List ℕ) (number missing : ℕ) where
  abbrev there : Begun
  there = begun_at (cold l) log marks number missing

  -- by the tests of the code
  module _ (started : Started) (starts : started ≡ cold_start l) where
    code : started.code ≡ (cold_start l).code
    code = ap (λ (x : Started). x.code) starts

    pub begins-limits : (started.code ≡ accepted → ⊥) → begun_refused started.code ≡ begins_at l log marks number missing
    unfolding cold_start begins_at
    begins-limits other = by (limits_ok l) refl
      where
        by : (ok : Bool) → limits_ok l ≡ ok → begun_refused started.code ≡ begins_at l log marks number missing
        by true is = absurd (other (code ∙ simp is))
        by false is =
            let told : started.code ≡ bad_limits = code ∙ simp is in
            ap begun_refused told ∙ sym (simp is)

    module _ (good : started.code ≡ accepted) where
      limits-good : limits_ok l ≡ true
      limits-good = (cold-limits l (sym code ∙ good)).1

      pub begins-log : longest_log < length log → begun_refused log_too_long ≡ begins_at l log marks number missing
      unfolding begins_at
      begins-log long = sym (simp (limits-good, lt-leb (length log) longest_log long))

      pub begins-there : length log ≤ longest_log
          → begun_at started.state log marks number missing ≡ begins_at l log marks number missing
      unfolding cold_start begins_at
      begins-there short =
          let from-cold : started.state ≡ cold l = ap (λ (x : Started). x.state) starts ∙ simp limits-good in
          ap (λ s. begun_at s log marks number missing) from-cold
          ∙ sym (simp (limits-good, le-leb (length log) longest_log short))

  -- what is known of the point
  module _ (b : Begun) (begins : b ≡ begins_at l log marks number missing) where
    -- the log is not too long, and the point is where the mark leads
    pub begins-good : b.code ≡ accepted → (length log ≤ longest_log) × (b ≡ there)
    unfolding begins_at
    begins-good = subst Good (sym begins) by-tests
      where
        Good : Begun → Type 0
        Good x = x.code ≡ accepted → (length log ≤ longest_log) × (x ≡ there)

        by-tests : Good (begins_at l log marks number missing)
        by-tests =
            cond-case Good (limits_ok l) (cond (leb (length log) longest_log) there (begun_refused log_too_long))
            (begun_refused bad_limits)
            (λ ok.
            cond-case Good (leb (length log) longest_log) there (begun_refused log_too_long)
            (λ short is. (leb-true (length log) longest_log short, refl))
            (λ long is. absurd (omega arith)))
            (λ bad is. absurd (omega arith))

    -- it is in the log, with a sound state
    pub begins-fine : (b.offset ≤ length log) × (sound b.state ≡ true)
    unfolding cold_start begins_at
    begins-fine =
        subst (Fine (cold l) log marks) (sym begins)
        (cond-case (Fine (cold l) log marks) (limits_ok l)
        (cond (leb (length log) longest_log) there (begun_refused log_too_long))
        (begun_refused bad_limits)
        (λ ok.
        let started : (cold_start l).state ≡ cold l = simp ok in
        let good = ap sound (sym started) ∙ cold-sound l in
        cond-case (Fine (cold l) log marks) (leb (length log) longest_log) there (begun_refused log_too_long)
        (λ short. begun-fine (cold l) log marks number missing good)
        (λ long. refused-fine (cold l) log marks log_too_long))
        (λ bad. refused-fine (cold l) log marks bad_limits))

    -- the number that is answered goes by its number
    by-begun : (last : ℕ) → Number l log there last ≡ cond (eqb b.code accepted) last b.code
    unfolding begins_at
    by-begun last =
        sym
        (ap told begins
        ∙ of-cond (limits_ok l) (cond (leb (length log) longest_log) there (begun_refused log_too_long)) (begun_refused bad_limits)
        ∙ ap (λ n. cond (limits_ok l) n bad_limits)
        (of-cond (leb (length log) longest_log) there (begun_refused log_too_long)))
      where
        told : Begun → ℕ
        told x = cond (eqb x.code accepted) last x.code

        of-cond : (test : Bool) (x y : Begun) → told (cond test x y) ≡ cond test (told x) (told y)
        of-cond true x y = refl
        of-cond false x y = refl

    -- it is refused
    pub number-refused : (last : ℕ) → (b.code ≡ accepted → ⊥) → Number l log there last ≡ b.code
    number-refused last other = by-begun last ∙ simp (ne_eqb b.code accepted other)

    -- what comes after it
    pub number-last : (last : ℕ) → b.code ≡ accepted → Number l log there last ≡ last
    number-last last is = by-begun last ∙ simp (eq-eqb b.code accepted is)

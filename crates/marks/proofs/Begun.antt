-- The point of a log that the mark of a number leads to: by the tests on the number, that it is sound, and where its mark stands.
-- Defines: Fine.
-- Proves: begun_first, begun-missing, begun-there, refused-fine, begun-fine, begun-held.
use mathlib.Core.Path.{◌≡◌, refl, ap₂, ◌∙◌}
use mathlib.Core.Bool.{true, ◌&&◌}
use mathlib.Core.List.{List}
use Prim.Native.Nat.{ℕ, zero, suc, ◌*◌, ◌-◌, ◌/◌, ◌≤◌, ◌<◌}
use native.Mathlib.Omega.{arith}
use lib.Dec.{eqb, leb}
use lib.ListN.{length, take, drop}
use borrow.Author.Tests.{leb-true, le-leb, lt-leb, eqb-true}
use Rattle.wire.specs.Bytes.{byte}
use Rattle.wire.specs.Refusals.{accepted, not_sound}
use Rattle.wire.proofs.Tests.{and_left, and_right, cond-case}
use Rattle.unit.specs.States.{no_limits, sound, cold_start}
use Rattle.unit.specs.declared.state.State.{State}
use Rattle.unit.proofs.Starts.{cold-sound}
use Rattle.image.specs.Images.{read_a2}
use Rattle.image.proofs.RoundTrips.{written_a2-read}
use Rattle.marks.specs.declared.mark.Begun.{Begun}
use Rattle.marks.specs.Marks.{mark_size, mark_kind, image_at, offset_in, begun_refused, mark_in, begun_at}

module _ (s : State) (log marks : List ℕ) where
  pub begun_first : (number missing : ℕ)
      → number ≡ 0
      → record { code = accepted; state = s; offset = 0 } ≡ begun_at s log marks number missing
  unfolding begun_at
  begun_first zero missing none = refl
  begun_first (suc n) missing none = absurd (omega arith)

  pub begun-missing : (number missing : ℕ)
      → (number ≡ 0 → ⊥)
      → length marks / mark_size < number
      → begun_refused missing ≡ begun_at s log marks number missing
  unfolding begun_at
  begun-missing zero missing some few = absurd (some refl)
  begun-missing (suc n) missing some few = simp (lt-leb (mark_size * suc n) (length marks) (omega arith))

  pub begun-there : (number missing : ℕ)
      → (number ≡ 0 → ⊥)
      → number ≤ length marks / mark_size
      → mark_in log (take (mark_size * number - (mark_size * number - mark_size)) (drop (mark_size * number - mark_size) marks))
      ≡ begun_at s log marks number missing
  unfolding begun_at
  begun-there zero missing some whole = absurd (some refl)
  begun-there (suc n) missing some whole =
      let from : mark_size * suc n - mark_size ≡ mark_size * n = omega arith in
      let size : mark_size * suc n - (mark_size * suc n - mark_size) ≡ mark_size = omega arith in
      ap₂ (λ k m. mark_in log (take k (drop m marks))) size from
      ∙ simp (le-leb (mark_size * suc n) (length marks) (omega arith))

  -- a point in the log, with a sound state
  abbrev pub Fine : Begun → Type 0
  Fine b = (b.offset ≤ length log) × (sound b.state ≡ true)

  pub refused-fine : (r : ℕ) → Fine (begun_refused r)
  unfolding cold_start
  refused-fine r = (omega arith, cold-sound no_limits)

  read-fine : (mark : List ℕ) → Fine (mark_in log mark)
  read-fine mark =
      let kind = eqb (byte mark 0) mark_kind in
      let inside = leb (offset_in mark) (length log) in
      let read = eqb (read_a2 (drop image_at mark)).code accepted in
      cond-case Fine (kind && (inside && read)) _ (begun_refused not_sound)
      (λ all.
      let rest = and_right kind (inside && read) all in (
        leb-true (offset_in mark) (length log) (and_left inside read rest),
        (written_a2-read (drop image_at mark) (eqb-true (read_a2 (drop image_at mark)).code accepted (and_right inside read rest))).0,
      ))
      (λ none. refused-fine not_sound)

  -- what any number leads to is fine, a refused one too
  pub begun-fine : (number missing : ℕ) → sound s ≡ true → Fine (begun_at s log marks number missing)
  unfolding begun_at
  begun-fine zero missing good = (omega arith, good)
  begun-fine (suc n) missing good =
      cond-case Fine (leb (mark_size * suc n) (length marks)) (mark_in log (take mark_size (drop (mark_size * n) marks)))
      (begun_refused missing)
      (λ whole. read-fine (take mark_size (drop (mark_size * n) marks)))
      (λ few. refused-fine missing)

  -- the mark of an accepted one stands there whole, and those before it
  pub begun-held : (number missing : ℕ)
      → (missing ≡ accepted → ⊥)
      → (begun_at s log marks number missing).code ≡ accepted
      → mark_size * number ≤ length marks
  unfolding begun_at
  begun-held zero missing other = λ is. omega arith
  begun-held (suc n) missing other =
      cond-case (λ (b : Begun). b.code ≡ accepted → mark_size * suc n ≤ length marks) (leb (mark_size * suc n) (length marks))
      (mark_in log (take mark_size (drop (mark_size * n) marks)))
      (begun_refused missing)
      (λ whole is. leb-true (mark_size * suc n) (length marks) whole)
      (λ few is. absurd (other is))

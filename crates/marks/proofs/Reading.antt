-- One mark read, by what the tests on it showed.
-- Proves: mark-other-kind, mark-past-log, mark-unsound, mark-reads.
use mathlib.Core.Path.{◌≡◌, sym, ap, ap₂, ◌∙◌}
use mathlib.Core.Bool.{true}
use mathlib.Core.List.{List}
use Prim.Native.Nat.{ℕ, ◌-◌, ◌≤◌, ◌<◌}
use native.Mathlib.Omega.{arith}
use lib.Dec.{eqb, leb}
use lib.ListN.{length, take, drop, length-drop}
use lib.Seq.{take_all}
use borrow.Author.Tests.{le-leb, lt-leb, eq-eqb, ne_eqb}
use Rattle.wire.specs.Bytes.{byte}
use Rattle.wire.specs.Refusals.{accepted, not_sound}
use Rattle.unit.specs.declared.start.Started.{Started}
use Rattle.image.specs.Images.{read_a2}
use Rattle.marks.specs.Marks.{mark_kind, image_at, offset_in, begun_refused, mark_in}

module _ (log mark : List ℕ) (kind : ℕ) (first : kind ≡ byte mark 0) where
  -- "another kind"
  pub mark-other-kind : (kind ≡ mark_kind → ⊥) → begun_refused not_sound ≡ mark_in log mark
  mark-other-kind other = simp (ne_eqb (byte mark 0) mark_kind (λ is. other (first ∙ is)))

  module _ (marked : kind ≡ mark_kind) (offset : ℕ) (holds : offset ≡ offset_in mark) where
    of-kind : eqb (byte mark 0) mark_kind ≡ true
    of-kind = eq-eqb (byte mark 0) mark_kind (sym first ∙ marked)

    -- "an offset past the log"
    pub mark-past-log : length log < offset → begun_refused not_sound ≡ mark_in log mark
    mark-past-log past = simp (of-kind, lt-leb (offset_in mark) (length log) (omega arith))

    module _ (inside : offset ≤ length log) (read : Started)
        (reads : read ≡ read_a2 (take (length mark - image_at) (drop image_at mark))) where
      in-log : leb (offset_in mark) (length log) ≡ true
      in-log = le-leb (offset_in mark) (length log) (omega arith)

      -- the image is all that is left of the mark
      image : read ≡ read_a2 (drop image_at mark)
      image =
          let left = length-drop image_at mark in
          reads ∙ ap read_a2 (take_all (length mark - image_at) (drop image_at mark) (omega arith))

      code : read.code ≡ (read_a2 (drop image_at mark)).code
      code = ap (λ (x : Started). x.code) image

      -- "or an unsound image"
      pub mark-unsound : (read.code ≡ accepted → ⊥) → begun_refused not_sound ≡ mark_in log mark
      mark-unsound other =
          simp (of-kind, in-log, ne_eqb (read_a2 (drop image_at mark)).code accepted (λ is. other (code ∙ is)))

      pub mark-reads : read.code ≡ accepted
          → record { code = accepted; state = read.state; offset = offset } ≡ mark_in log mark
      mark-reads is =
          let good = eq-eqb (read_a2 (drop image_at mark)).code accepted (sym code ∙ is) in
          ap₂ (λ (x : Started) n. record { code = accepted; state = x.state; offset = n }) image holds ∙ simp (of-kind, in-log, good)

-- Six fields of one byte, one after the other.
use Rattle.std.proofs.Common.{◌≡◌, ℕ, ◌+◌, ◌<◌, List, replicate, sym, subst, arith}
use Rattle.image.specs.Rescue.{most_fields}
use Rattle.image.specs.Mends.{Mendable, Field, MendedTo}
use Rattle.image.proofs.Fields.{field_room, mended-long, mended-start}
use Rattle.image.proofs.EachField.{head-field}
use Rattle.image.proofs.EachField.{left-level, left-mission, left-inside, left-mode, left-manual}
use Rattle.image.proofs.rescue.mend_head.Goals as goal

-- the image as it was
module _ (old : List ℕ) (given : Mendable old) where
  at_byte : (n : ℕ) → n < 6 → Field old n (3 + n) 1
  at_byte = head-field old given.0

  none_yet : (fields : List ℕ) → fields ≡ replicate most_fields 0 → MendedTo old 0 3 old fields 0
  none_yet fields clear = subst (λ fields. MendedTo old 0 3 old fields 0) (sym clear) (mended-start old given)

pub mend_number-mission-requires : goal.mend_number-mission-requires
mend_number-mission-requires c =
    let old = c.args.image.now in
    let at = at_byte old c.requires.0 in
    let none = none_yet old c.requires.0 c.args.fields.now c.requires.1 in
    let level = c.mend_number-level.ensures old 0 (at 0 (omega arith)) (left-level old) none in
    field_room old 1 4 1 (at 1 (omega arith)) _ _ _ level

pub mend_number-inside-requires : goal.mend_number-inside-requires
mend_number-inside-requires c =
    let old = c.args.image.now in
    let at = at_byte old c.requires.0 in
    let none = none_yet old c.requires.0 c.args.fields.now c.requires.1 in
    let level = c.mend_number-level.ensures old 0 (at 0 (omega arith)) (left-level old) none in
    let mission = c.mend_number-mission.ensures old 1 (at 1 (omega arith)) (left-mission old) level in
    field_room old 2 5 1 (at 2 (omega arith)) _ _ _ mission

pub mend_number-mode-requires : goal.mend_number-mode-requires
mend_number-mode-requires c =
    let old = c.args.image.now in
    let at = at_byte old c.requires.0 in
    let none = none_yet old c.requires.0 c.args.fields.now c.requires.1 in
    let level = c.mend_number-level.ensures old 0 (at 0 (omega arith)) (left-level old) none in
    let mission = c.mend_number-mission.ensures old 1 (at 1 (omega arith)) (left-mission old) level in
    let inside = c.mend_number-inside.ensures old 2 (at 2 (omega arith)) (left-inside old) mission in
    field_room old 3 6 1 (at 3 (omega arith)) _ _ _ inside

pub mend_number-manual-requires : goal.mend_number-manual-requires
mend_number-manual-requires c =
    let old = c.args.image.now in
    let at = at_byte old c.requires.0 in
    let none = none_yet old c.requires.0 c.args.fields.now c.requires.1 in
    let level = c.mend_number-level.ensures old 0 (at 0 (omega arith)) (left-level old) none in
    let mission = c.mend_number-mission.ensures old 1 (at 1 (omega arith)) (left-mission old) level in
    let inside = c.mend_number-inside.ensures old 2 (at 2 (omega arith)) (left-inside old) mission in
    let mode = c.mend_number-mode.ensures old 3 (at 3 (omega arith)) (left-mode old) inside in
    field_room old 4 7 1 (at 4 (omega arith)) _ _ _ mode

pub mend_end-requires : goal.mend_end-requires
mend_end-requires c =
    let old = c.args.image.now in
    let at = at_byte old c.requires.0 in
    let none = none_yet old c.requires.0 c.args.fields.now c.requires.1 in
    let level = c.mend_number-level.ensures old 0 (at 0 (omega arith)) (left-level old) none in
    let mission = c.mend_number-mission.ensures old 1 (at 1 (omega arith)) (left-mission old) level in
    let inside = c.mend_number-inside.ensures old 2 (at 2 (omega arith)) (left-inside old) mission in
    let mode = c.mend_number-mode.ensures old 3 (at 3 (omega arith)) (left-mode old) inside in
    let manual = c.mend_number-manual.ensures old 4 (at 4 (omega arith)) (left-manual old) mode in (
      mended-long old 5 8 _ _ _ c.requires.0.0 (omega arith) manual,
      (field_room old 5 8 1 (at 5 (omega arith)) _ _ _ manual).1,
    )

pub returns : goal.returns
returns c =
    let old = c.args.image.now in
    let at = at_byte old c.requires.0 in
    let none = none_yet old c.requires.0 c.args.fields.now c.requires.1 in
    let level = c.mend_number-level.ensures old 0 (at 0 (omega arith)) (left-level old) none in
    let mission = c.mend_number-mission.ensures old 1 (at 1 (omega arith)) (left-mission old) level in
    let inside = c.mend_number-inside.ensures old 2 (at 2 (omega arith)) (left-inside old) mission in
    let mode = c.mend_number-mode.ensures old 3 (at 3 (omega arith)) (left-mode old) inside in
    let manual = c.mend_number-manual.ensures old 4 (at 4 (omega arith)) (left-manual old) mode in
    c.mend_end.ensures old c.requires.0.0 manual

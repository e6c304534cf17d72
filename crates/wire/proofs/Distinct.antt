-- The numbers of the refusals in the code: none is that of an acceptance, and no two are the same.
-- Proves: refused-some, number-one.
use mathlib.Core.Path.{◌≡◌, refl, sym, ap, ◌∙◌}
use mathlib.Core.List.{List, [], ◌∷◌}
use Prim.Native.Nat.{◌<◌}
use native.Mathlib.Omega.{arith}
use lib.ListN.{get_or}
use Rattle.wire.specs.Refusals.{accepted, number}
use Rattle.wire.specs.declared.refusal.Refusal.{Refusal}
use Rattle.wire.specs.declared.refusal.Refusal.TheVariants.{WrongLength, UnknownKind, OutOfRange, NotInForce, HasPlace, HasNone}
use Rattle.wire.specs.declared.refusal.Refusal.TheVariants.{NotTaken, AllTaken, CallFromRiu, NoRoom, NotSound, LogTooLong}
use Rattle.wire.specs.declared.refusal.Refusal.TheVariants.{BadLimits, NoneKnown, NotInA1}

-- "0 where nothing is refused"
pub refused-some : (r : Refusal) → accepted < number r
refused-some WrongLength = omega arith
refused-some UnknownKind = omega arith
refused-some OutOfRange = omega arith
refused-some NotInForce = omega arith
refused-some HasPlace = omega arith
refused-some HasNone = omega arith
refused-some NotTaken = omega arith
refused-some AllTaken = omega arith
refused-some CallFromRiu = omega arith
refused-some NoRoom = omega arith
refused-some NotSound = omega arith
refused-some LogTooLong = omega arith
refused-some BadLimits = omega arith
refused-some NoneKnown = omega arith
refused-some NotInA1 = omega arith

-- the refusals in the order of their numbers; those that are of other crates stand as the first
in_order : List Refusal
in_order =
    WrongLength
    ∷ WrongLength
    ∷ UnknownKind
    ∷ OutOfRange
    ∷ NotInForce
    ∷ HasPlace
    ∷ HasNone
    ∷ NotTaken
    ∷ AllTaken
    ∷ CallFromRiu
    ∷ NoRoom
    ∷ NotSound
    ∷ LogTooLong
    ∷ BadLimits
    ∷ WrongLength
    ∷ NoneKnown
    ∷ NotInA1
    ∷ []

at-number : (r : Refusal) → get_or in_order (number r) WrongLength ≡ r
unfolding in_order
at-number WrongLength = refl
at-number UnknownKind = refl
at-number OutOfRange = refl
at-number NotInForce = refl
at-number HasPlace = refl
at-number HasNone = refl
at-number NotTaken = refl
at-number AllTaken = refl
at-number CallFromRiu = refl
at-number NoRoom = refl
at-number NotSound = refl
at-number LogTooLong = refl
at-number BadLimits = refl
at-number NoneKnown = refl
at-number NotInA1 = refl

-- each number is that of one refusal
pub number-one : (a b : Refusal) → number a ≡ number b → a ≡ b
number-one a b same = sym (at-number a) ∙ ap (λ n. get_or in_order n WrongLength) same ∙ at-number b

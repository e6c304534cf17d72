-- What the code answers stands for one answer of document 01, and no two answers for the same.
-- Proves: told-one, stop_number-one, front-one, taken-one.
use mathlib.Core.Path.{◌≡◌, refl, sym, ap, ap₂, ◌∙◌}
use mathlib.Core.List.{List, [], ◌∷◌}
use Prim.Native.Nat.{ℕ}
use native.Mathlib.Omega.{arith}
use lib.ListN.{get_or}
use Rattle.std.specs.Prelude.{Result, Ok, Err}
use Rattle.wire.specs.declared.refusal.Refusal.{Refusal}
use Rattle.wire.proofs.Distinct.{number-one}
use Rattle.record.specs.Readings.{Reading, Meant, Refused, told_reading}
use Rattle.record.specs.Stops.{stop_number, told_front, told_taken}
use Rattle.record.specs.Takes as taking
use Rattle.record.specs.declared.event.Event.{Event}
use Rattle.record.specs.declared.event.Event.TheVariants.{Mode}
use Rattle.record.specs.declared.stop.Stop.{Stop}
use Rattle.record.specs.declared.stop.Stop.TheVariants.{NothingLeft, BudgetUsed, RecordShort, KindUnknown}
use Rattle.record.specs.declared.take.Front as front

-- the event of a reading, and its number
event_of : Reading → Event
event_of (Meant e) = e
event_of (Refused r) = Mode

number_of : Reading → ℕ
number_of (Meant e) = 0
number_of (Refused r) = r

is_meant : Reading → ℕ
is_meant (Meant e) = 1
is_meant (Refused r) = 0

pub told-one : (a b : Result Event Refusal) → told_reading a ≡ told_reading b → a ≡ b
unfolding event_of number_of is_meant
told-one (Ok e) (Ok f) same = ap Ok (ap event_of same)
told-one (Ok e) (Err r) same = absurd (omega (arith, ap is_meant same))
told-one (Err r) (Ok e) same = absurd (omega (arith, ap is_meant same))
told-one (Err r) (Err q) same = ap Err (number-one r q (ap number_of same))

-- the stops in the order of their numbers
in_order : List Stop
in_order = NothingLeft ∷ BudgetUsed ∷ RecordShort ∷ KindUnknown ∷ []

at-number : (s : Stop) → get_or in_order (stop_number s) NothingLeft ≡ s
unfolding in_order
at-number NothingLeft = refl
at-number BudgetUsed = refl
at-number RecordShort = refl
at-number KindUnknown = refl

pub stop_number-one : (a b : Stop) → stop_number a ≡ stop_number b → a ≡ b
stop_number-one a b same = sym (at-number a) ∙ ap (λ n. get_or in_order n NothingLeft) same ∙ at-number b

-- the parts of what was taken
length_of : taking.Taken → ℕ
length_of (taking.Whole k r) = k
length_of (taking.Stopped stop) = 0
length_of (taking.Overlong r) = 0

reading_of : taking.Taken → Reading
reading_of (taking.Whole k r) = r
reading_of (taking.Stopped stop) = Refused 0
reading_of (taking.Overlong r) = Refused 0

end_of : taking.Taken → ℕ
end_of (taking.Whole k r) = 0
end_of (taking.Stopped stop) = stop
end_of (taking.Overlong r) = r

way_of : taking.Taken → ℕ
way_of (taking.Whole k r) = 0
way_of (taking.Stopped stop) = 1
way_of (taking.Overlong r) = 2

pub front-one : (a b : front.Front) → told_front a ≡ told_front b → a ≡ b
unfolding length_of reading_of end_of way_of
front-one (front.TheVariants.Next k r) (front.TheVariants.Next l q) same =
    ap₂ front.TheVariants.Next (ap length_of same) (told-one r q (ap reading_of same))
front-one (front.TheVariants.Next k r) (front.TheVariants.Stop s) same = absurd (omega (arith, ap way_of same))
front-one (front.TheVariants.Stop s) (front.TheVariants.Next k r) same = absurd (omega (arith, ap way_of same))
front-one (front.TheVariants.Stop s) (front.TheVariants.Stop t) same =
    ap front.TheVariants.Stop (stop_number-one s t (ap end_of same))

pub taken-one : (a b : Result front.Front Refusal) → told_taken a ≡ told_taken b → a ≡ b
unfolding end_of way_of
taken-one (Ok f) (Ok g) same = ap Ok (front-one f g same)
taken-one (Ok (front.TheVariants.Next k r)) (Err q) same = absurd (omega (arith, ap way_of same))
taken-one (Ok (front.TheVariants.Stop s)) (Err q) same = absurd (omega (arith, ap way_of same))
taken-one (Err q) (Ok (front.TheVariants.Next k r)) same = absurd (omega (arith, ap way_of same))
taken-one (Err q) (Ok (front.TheVariants.Stop s)) same = absurd (omega (arith, ap way_of same))
taken-one (Err r) (Err q) same = ap Err (number-one r q (ap end_of same))

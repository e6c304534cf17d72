-- The partner that an order means, and the RBC that is remembered.
-- Proves: meant-named, recalled-ok.
use mathlib.Core.Path.{◌≡◌, refl, ap}
use mathlib.Core.Bool.{Bool, true, false, ◌&&◌, not}
use mathlib.Core.List.{List, [], ◌∷◌, map}
use Prim.Native.Nat.{ℕ}
use lib.Dec.{eqb}
use Rattle.record.specs.Partners.{is_rbc, partner_ok, reserved, named_ok, nid_rbc, reserved_number}
use Rattle.record.specs.declared.partner.Partner.{Partner}
use Rattle.wire.proofs.Tests.{and_right, and_both, cond-case, true-false}
use Rattle.place.specs.Table.{established}
use Rattle.unit.specs.Lasts.{last_ok, known_or, meant, to_rbc, recalled}
use Rattle.unit.specs.Steps.{act}
use Rattle.unit.specs.declared.last.Last.{Last}
use Rattle.unit.specs.declared.last.Last.TheVariants.{Unknown, Known}

-- the meant partner of an order may have a place, once it is known
pub meant-named : (last : Last) (p : Partner)
    → reserved (meant last p) ≡ false
    → partner_ok p ≡ true
    → named_ok (meant last p) ≡ true
meant-named last p known ok = and_both (partner_ok (meant last p)) (not (reserved (meant last p))) in-range (ap not known)
  where
    of-known : (last : Last) → partner_ok (known_or p last) ≡ true
    of-known Unknown = ok
    of-known (Known high middle low) = refl

    in-range : partner_ok (meant last p) ≡ true
    in-range = cond-case (λ q. partner_ok q ≡ true) (reserved p) (known_or p last) p (λ b. of-known last) (λ b. ok)

-- what is remembered after actions for a partner that may have a place is sound
pub recalled-ok : (p : Partner) (sent : List ℕ) (last : Last)
    → named_ok p ≡ true
    → last_ok last ≡ true
    → last_ok (recalled last (map (act p) sent)) ≡ true
unfolding recalled
recalled-ok p [] last named ok = ok
recalled-ok p (number ∷ sent) last named ok = recalled-ok p sent _ named
    (cond-case (λ l. last_ok l ≡ true) (to_rbc (act p number)) (Known p.high p.middle p.low) last
    (λ to-rbc.
    own (is_rbc p) (eqb (nid_rbc p) reserved_number)
    (and_right (eqb number established) (is_rbc p) to-rbc)
    (and_right (partner_ok p) (not (reserved p)) named))
    (λ other. ok))
  where
    own : (rbc nid : Bool) → rbc ≡ true → not (rbc && nid) ≡ true → not nid ≡ true
    own true nid h named = named
    own false nid h named = true-false false h refl

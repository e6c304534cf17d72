-- A record that is read is in its ranges; one that is refused has 1, 2 or 3.
-- Proves: reading-ok, reading-number.
use mathlib.Core.Path.{◌≡◌, refl}
use mathlib.Core.Bool.{Bool, true, false, cond, ◌&&◌, ◌||◌}
use mathlib.Core.List.{List, [], ◌∷◌}
use Prim.Native.Nat.{ℕ, ◌≤◌}
use native.Mathlib.Omega.{arith}
use lib.Dec.{eqb, leb, ltb}
use lib.ListN.{length}
use borrow.Author.Tests.{leb-true}
use Rattle.record.specs.Partners.{partner_ok, named_ok}
use Rattle.record.specs.Records.{reading, causes, partner_in}
use Rattle.record.specs.Ranges.{reading_number}
use Rattle.record.specs.Records.{KindRow, kinds, row_of, no_row, partner_row}
use Rattle.record.specs.Records.{known, length_of, highest_level, message_version, message_call, message_ended, highest_version}
use Rattle.record.specs.Records.{message_ok, message_means}
use Rattle.record.specs.Ranges.{partner_event_ok, event_ok, reading_ok}
use Rattle.wire.specs.Bytes.{byte, bit}
use Rattle.wire.specs.Refusals.{wrong_length, unknown_kind, out_of_range}
use Rattle.record.specs.declared.event.PartnerEvent.{PartnerEvent}
use Rattle.record.specs.declared.event.PartnerEvent.TheVariants.{Drop, Up, Loss, Timeout, Version, Ended}
use Rattle.record.specs.declared.event.Event.TheVariants.{Call, Named}
use Rattle.record.specs.Readings.{Reading}
use Rattle.record.specs.Readings.{Meant, Refused}
use Rattle.record.specs.declared.partner.Partner.{Partner}
use Rattle.wire.proofs.Tests.{and_left, and_right, and_both, true-false, cond-case, cond-holds, get_or-all}

abbrev Fine : Reading → Type 0
Fine r = reading_ok r ≡ true

-- where the ranges of a row hold, its event is in its ranges
abbrev Ranged : KindRow → Type 0
Ranged body = (s : List ℕ) → body.ranges s ≡ true → event_ok (body.means s) ≡ true

partner-ranged : (e : PartnerEvent) → partner_event_ok e ≡ true → Ranged (partner_row e)
partner-ranged e h s ok = and_both (named_ok (partner_in s)) (partner_event_ok e) ok h

message-ranged : (number version : ℕ) (p : Partner)
    → named_ok p ≡ true
    → message_ok number version ≡ true
    → event_ok (message_means number version p) ≡ true
message-ranged number version p ok h = by (eqb number message_version) (eqb number message_call) (eqb number message_ended) h
  where
    by : (a b c : Bool)
        → cond a (leb version highest_version) ((b || c) && eqb version 0) ≡ true
        → event_ok (cond a (Named p (Version version)) (cond b (Call p) (Named p Ended))) ≡ true
    by true b c h = and_both (named_ok p) (leb version highest_version) ok h
    by false true c h = ok
    by false false c h = and_both (named_ok p) true ok refl

bodies-ranged : (kind : ℕ) → Ranged (row_of kind)
bodies-ranged =
    get_or-all Ranged kinds no_row (
      λ s ok. true-false _ ok refl,
      (
        λ s ok. and_left (leb (byte s 1) highest_level) (bit (byte s 2)) ok,
        (
          λ s ok. ok,
          (
            λ s ok. refl,
            (
              λ s ok. refl,
              (
                λ s ok. and_left (partner_ok (partner_in s)) (bit (byte s 5) && ltb (byte s 6) (length causes)) ok,
                (
                  partner-ranged Drop refl,
                  (
                    λ s ok. refl,
                    (
                      partner-ranged Up refl,
                      (
                        partner-ranged Loss refl,
                        (
                          partner-ranged Timeout refl,
                          (
                            λ s ok.
                                message-ranged (byte s 5) (byte s 6) (partner_in s)
                                (and_left (named_ok (partner_in s)) (message_ok (byte s 5) (byte s 6)) ok)
                                (and_right (named_ok (partner_in s)) (message_ok (byte s 5) (byte s 6)) ok),
                            tt,
                          ),
                        ),
                      ),
                    ),
                  ),
                ),
              ),
            ),
          ),
        ),
      ),
    )
    (λ s ok. true-false _ ok refl)

-- promise
pub reading-ok : (s : List ℕ) → reading_ok (reading s) ≡ true
unfolding reading
reading-ok [] = refl
reading-ok (kind ∷ body) =
    cond-holds Fine (known kind) _ (Refused unknown_kind)
    (cond-holds Fine (eqb (length (kind ∷ body)) (length_of kind)) _ (Refused wrong_length)
    (cond-case Fine ((row_of kind).ranges (kind ∷ body)) (Meant ((row_of kind).means (kind ∷ body))) (Refused out_of_range)
    (bodies-ranged kind (kind ∷ body))
    (λ no-range. refl))
    refl)
    refl

-- "1 (empty), 2, 1 (length), 3": a record that means no event has one of these numbers, and no other has
-- promise
pub reading-number : (s : List ℕ) → reading_number (reading s) ≤ out_of_range
reading-number s = by (reading s) (reading-ok s)
  where
    by : (r : Reading) → reading_ok r ≡ true → reading_number r ≤ out_of_range
    by (Meant e) ok = omega arith
    by (Refused r) ok = leb-true r out_of_range (and_right (leb wrong_length r) (leb r out_of_range) ok)

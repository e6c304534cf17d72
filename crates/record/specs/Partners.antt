-- Document 01, "What the box remembers", the part on a partner; and the number that request Q-2 gives a meaning.
-- Defines: rbc, riu, partner_at, partner_bytes, is_rbc, partner_ok, same_partner, nid_rbc, reserved_number, reserved, named_ok.
use Rattle.std.specs.Prelude.{ℕ, ◌+◌, ◌*◌, ◌%◌, Bool, ◌&&◌, not, List, [], ◌∷◌, eqb, leb}
use Rattle.wire.specs.Bytes.{byte}
use Rattle.record.specs.declared.partner.Partner.{Partner}

-- "a type (0 RBC, 1 RIU)"
abbrev pub rbc : ℕ
rbc = 0

abbrev pub riu : ℕ
riu = 1

-- "Big-endian"; "Partner = type byte, three number bytes": read at this offset, and written
abbrev pub partner_at : ℕ → List ℕ → Partner
partner_at i s = record { kind = byte s i; high = byte s (i + 1); middle = byte s (i + 2); low = byte s (i + 3) }

abbrev pub partner_bytes : Partner → List ℕ
partner_bytes p = p.kind ∷ p.high ∷ p.middle ∷ p.low ∷ []

-- the partner is an RBC
abbrev pub is_rbc : Partner → Bool
is_rbc p = eqb p.kind rbc

-- the partner's type is in its range; each three bytes are a 24-bit number
abbrev pub partner_ok : Partner → Bool
partner_ok p = leb p.kind riu

-- "same number with another type is another partner"
abbrev pub same_partner : Partner → Partner → Bool
same_partner p q = eqb p.kind q.kind && (eqb p.high q.high && (eqb p.middle q.middle && eqb p.low q.low))

-- "NID_C, 10 bits, then NID_RBC, 14 bits": the low 14 bits of the number
abbrev pub nid_rbc : Partner → ℕ
nid_rbc p = p.middle % 64 * 256 + p.low

-- Q-2: "Subset-026 chapter 7 gives NID_RBC 16,383 the meaning 'contact last known RBC'"
abbrev pub reserved_number : ℕ
reserved_number = 16_383

-- an RBC with that number, whatever its upper 10 bits
abbrev pub reserved : Partner → Bool
reserved p = is_rbc p && eqb (nid_rbc p) reserved_number

-- a partner of a place or of an event other than an order: "No RBC in a place or in another event may have that value"
abbrev pub named_ok : Partner → Bool
named_ok p = partner_ok p && not (reserved p)

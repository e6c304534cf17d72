-- Request Q-2: the last known RBC, "the RBC of the most recent 159 sent to an RBC".
-- Defines: rbc_of, last_ok, known_or, meant, to_rbc, recalled_by, recalled.
use Rattle.std.specs.Prelude.{ℕ, Bool, true, cond, ◌&&◌, not, List, [], ◌∷◌, eqb}
use Rattle.record.specs.Partners.{rbc, is_rbc, reserved}
use Rattle.record.specs.declared.partner.Partner.{Partner}
use Rattle.place.specs.Table.{established}
use Rattle.unit.specs.declared.answer.Action.{Action}
use Rattle.unit.specs.declared.last.Last.{Last}
use Rattle.unit.specs.declared.last.Last.TheVariants.{Unknown, Known}

-- the RBC with these three number bytes
abbrev pub rbc_of : ℕ → ℕ → ℕ → Partner
rbc_of high middle low = record { kind = rbc; high = high; middle = middle; low = low }

-- "11 for a state that holds it": the last known RBC has not the reserved number
abbrev pub last_ok : Last → Bool
last_ok Unknown = true
last_ok (Known high middle low) = not (reserved (rbc_of high middle low))

-- the last known RBC; where none is known, this partner
abbrev pub known_or : Partner → Last → Partner
known_or p Unknown = p
known_or p (Known high middle low) = rbc_of high middle low

-- "an order of type RBC whose low 14 bits are 16,383 means the RBC of the most recent 159 sent to an RBC"; where none is known the
-- meant partner is still the reserved one, and any other partner means itself
abbrev pub meant : Last → Partner → Partner
meant last p = cond (reserved p) (known_or p last) p

-- a 159 sent to an RBC
abbrev pub to_rbc : Action → Bool
to_rbc a = eqb a.number established && is_rbc a.partner

-- what is known after an action, and after a step's actions in their order
abbrev pub recalled_by : Last → Action → Last
recalled_by last a = cond (to_rbc a) (Known a.partner.high a.partner.middle a.partner.low) last

unfoldable pub recalled : Last → List Action → Last
recalled last [] = last
recalled last (a ∷ acts) = recalled (recalled_by last a) acts

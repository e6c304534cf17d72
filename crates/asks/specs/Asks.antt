-- Requests Q-14 and Q-6: what C asks beside a step; nothing is written.
-- Defines: interface_number, reads_returned, per_place, standing_number, standing_returned.
use Rattle.std.specs.Prelude.{ℕ, ◌+◌, ◌*◌, cond, List, eqb, ℤ, pos, neg_ℤ}
use Rattle.wire.specs.Refusals.{accepted}
use Rattle.unit.specs.OnRecords.{applied}
use Rattle.unit.specs.declared.search.Standing.{Standing}
use Rattle.image.specs.Images.{read_a2}

-- the number of the interface between C and the core, the header's RESHEFTAL_INTERFACE
abbrev pub interface_number : ℕ
interface_number = 1

-- Q-14: "those of reading an A2 image (A1 gives 2)": 0, or minus the refusal
abbrev pub reads_returned : List ℕ → ℤ
reads_returned image = neg_ℤ (pos (read_a2 image).code)

-- Q-6: "Refusals 5 and 7 then carry place and phase": both in one number, 16 times the place, plus the phase; 0 for "place 4 and phase 0"
abbrev pub per_place : ℕ
per_place = 16

abbrev pub standing_number : Standing → ℕ
standing_number w = cond (eqb w.phase 0) 0 (per_place * w.place + w.phase)

-- of the answer that a step of the state would give that was read; minus the refusal where the image does not read
unfoldable pub standing_returned : List ℕ → List ℕ → ℤ
standing_returned image bytes =
    cond (eqb (read_a2 image).code accepted) (pos (standing_number (applied (read_a2 image).state bytes).standing)) (reads_returned image)

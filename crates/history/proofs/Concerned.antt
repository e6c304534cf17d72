-- What a record says of a partner as it reads: that it names it, and that it is a timeout for it.
-- Defines: named_by, timeout_by.
use mathlib.Core.Bool.{Bool, false, ◌&&◌}
use Rattle.record.specs.Partners.{same_partner}
use Rattle.record.specs.declared.partner.Partner.{Partner}
use Rattle.record.specs.Readings.{Reading}
use Rattle.unit.specs.Standings.{by_concern, concern_of}
use Rattle.unit.specs.declared.last.Last.{Last}
use Rattle.unit.specs.declared.last.Last.TheVariants.{Unknown}
use Rattle.history.specs.Histories.{is_timeout}

-- what `names` and `timeout_for` make of a reading
abbrev pub named_by : Partner → Last → Reading → Bool
named_by p last r = by_concern false (same_partner p) (same_partner p) (λ q f. same_partner p q) (concern_of last r)

abbrev pub timeout_by : Partner → Reading → Bool
timeout_by p r = by_concern false (λ q. false) (λ q. false) (λ q f. same_partner p q && is_timeout f) (concern_of Unknown r)

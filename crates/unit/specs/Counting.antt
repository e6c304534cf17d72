-- Only private contracts use what stands here: counting while a run goes on.
-- Defines: most_total, added, Below, Bounded, tally_of, front_within, refused_rest, accepted_rest.
use Rattle.place.specs.Table.{request, release, incompatible, initiate, terminate, established}
use Rattle.unit.specs.declared.run.Totals.{Totals}
use Rattle.unit.specs.declared.run.Tally.{Tally}
use Rattle.unit.specs.declared.run.Rest.{Rest}
use Rattle.unit.specs.declared.change.Change.{Change}
use Rattle.place.specs.declared.place.Place.{Place}
use Rattle.std.specs.Prelude.{List, [], ◌∷◌, ℕ, ◌+◌, ◌*◌, ◌≤◌, cond, not, eqb}
use Rattle.wire.specs.Bytes.{is_empty}
use Rattle.wire.specs.Orders.{first_that_applies}
use Rattle.record.specs.Takes.{longest_log, nothing_left, budget_used, Taken, Stopped, take_one}

-- no total passes four actions for each byte of the longest log
abbrev pub most_total : ℕ
most_total = 4 * longest_log

-- the totals with one action of this number
unfoldable pub added : Totals → ℕ → Totals
added t number =
    record {
      request = cond (eqb number request) (t.request + 1) t.request;
      release = cond (eqb number release) (t.release + 1) t.release;
      incompatible = cond (eqb number incompatible) (t.incompatible + 1) t.incompatible;
      initiate = cond (eqb number initiate) (t.initiate + 1) t.initiate;
      terminate = cond (eqb number terminate) (t.terminate + 1) t.terminate;
      established = cond (eqb number established) (t.established + 1) t.established;
    }

-- no total is over a number
pub record Below (b : ℕ) (t : Totals) : Type 0 where
  pub request : t.request ≤ b
  pub release : t.release ≤ b
  pub incompatible : t.incompatible ≤ b
  pub initiate : t.initiate ≤ b
  pub terminate : t.terminate ≤ b
  pub established : t.established ≤ b

-- a run's counts are bounded by the offset reached
pub record Bounded (t : Tally) : Type 0 where
  pub read : t.read ≤ t.offset
  pub refused : t.refused ≤ t.read
  pub totals : Below (4 * t.read) t.totals

-- a run so far, its places taken up again
abbrev pub tally_of : Rest → List Place → Tally
tally_of r ps =
    record {
      state = record { limits = r.limits; train = r.train; marks = r.marks; places = ps; last = r.last };
      offset = r.offset;
      read = r.read;
      refused = r.refused;
      totals = r.totals;
    }

-- what a run meets next, with so many records read of its budget, in what is left of the log
abbrev pub front_within : ℕ → ℕ → List ℕ → Taken
front_within read budget log =
    first_that_applies Stopped ((not (is_empty log), nothing_left) ∷ (not (eqb read budget), budget_used) ∷ []) (take_one log)

-- the rest of a run after a record of this length that was refused
abbrev pub refused_rest : Rest → ℕ → Rest
refused_rest r k =
    record {
      limits = r.limits;
      train = r.train;
      marks = r.marks;
      last = r.last;
      offset = r.offset + k;
      read = r.read + 1;
      refused = r.refused + 1;
      totals = r.totals;
    }

-- and after one that made this change, the actions of its closings counted in these totals
abbrev pub accepted_rest : Rest → ℕ → Change → Totals → Rest
accepted_rest r k c t =
    record {
      limits = r.limits;
      train = c.train;
      marks = c.marks;
      last = c.last;
      offset = r.offset + k;
      read = r.read + 1;
      refused = r.refused;
      totals = added (added t c.first) c.second;
    }

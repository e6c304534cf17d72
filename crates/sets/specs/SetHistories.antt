-- Cross-checks only: nobody has to believe what stands here.
-- Request Q-7: histories of the engine of sets, and what demand 3 counts in them, from this engine's own steps.
-- Defines: set_after, set_sum, set_accepted, set_orders, set_calls, set_losses, set_actions, set_releases, members_held, is_member,
-- set_waits, set_names, set_silent, set_releases_of, set_sums.
use Rattle.std.specs.Prelude.{ℕ, ◌+◌, Bool, true, false, ◌&&◌, ◌||◌, not, List, [], ◌∷◌, eqb, length}
use Rattle.wire.specs.Refusals.{accepted}
use Rattle.record.specs.Partners.{same_partner}
use Rattle.record.specs.Records.{reading}
use Rattle.record.specs.declared.partner.Partner.{Partner}
use Rattle.unit.specs.Kept.{count}
use Rattle.unit.specs.OnRecords.{action_room}
use Rattle.unit.specs.Standings.{by_concern, concern_of}
use Rattle.history.specs.Histories.{is_order, is_call, is_loss, is_release, release_of, timeout_for}
use Rattle.wire.specs.Bytes.{as_bit}
use Rattle.history.specs.Sums.{Sums}
use Rattle.unit.specs.States.{one_to_two}
use Rattle.sets.specs.Members.{has_member}
use Rattle.sets.specs.SixSets.{size, everyone, six_in, set_start}
use Rattle.sets.specs.SetSteps.{SetOutcome}
use Rattle.sets.specs.OnSets.{on_sets}
use Rattle.sets.specs.declared.state.SetState.{SetState}

-- the state after a history, "a row of event records, each given 20 bytes for its actions"
unfoldable pub set_after : SetState → List (List ℕ) → SetState
set_after b [] = b
set_after b (bytes ∷ history) = set_after (on_sets b bytes action_room).state history

-- the sum over a history of what each record counts for, by the state that it meets and its outcome
unfoldable pub set_sum : (SetState → List ℕ → SetOutcome SetState → ℕ) → SetState → List (List ℕ) → ℕ
set_sum f b [] = 0
set_sum f b (bytes ∷ history) = f b bytes (on_sets b bytes action_room) + set_sum f (on_sets b bytes action_room).state history

-- the accepted orders, calls 38 and losses of a history
abbrev pub set_accepted : (List ℕ → Bool) → SetState → List ℕ → SetOutcome SetState → ℕ
set_accepted test b bytes o = as_bit (test bytes && eqb o.code accepted)

abbrev pub set_orders : SetState → List (List ℕ) → ℕ
set_orders = set_sum (set_accepted is_order)

abbrev pub set_calls : SetState → List (List ℕ) → ℕ
set_calls = set_sum (set_accepted is_call)

abbrev pub set_losses : SetState → List (List ℕ) → ℕ
set_losses = set_sum (set_accepted is_loss)

-- its actions, and "releases the actions 22"
abbrev pub set_actions : SetState → List (List ℕ) → ℕ
set_actions = set_sum (λ b bytes o. length o.actions)

abbrev pub set_releases : SetState → List (List ℕ) → ℕ
set_releases = set_sum (λ b bytes o. count is_release o.actions)

-- how many members there are, and whether a partner is one
abbrev pub members_held : SetState → ℕ
members_held b = size (six_in b)

abbrev pub is_member : Partner → SetState → Bool
is_member p b = has_member p (everyone (six_in b))

-- "A partner that waits (any phase but Open)": calling, contacted, lost or terminating
unfoldable pub set_waits : Partner → SetState → Bool
set_waits p b =
    has_member p (six_in b).calling
    || (has_member p (six_in b).contacted
    || (has_member p (six_in b).lost || has_member p (six_in b).terminating))

-- "is from then on named by nothing but timeouts"
abbrev pub set_names : Partner → SetState → List ℕ → Bool
set_names p b bytes = by_concern false (same_partner p) (same_partner p) (λ q f. same_partner p q) (concern_of b.last (reading bytes))

unfoldable pub set_silent : Partner → SetState → List (List ℕ) → Bool
set_silent p b [] = true
set_silent p b (bytes ∷ history) =
    (not (set_names p b bytes) || timeout_for p bytes) && set_silent p (on_sets b bytes action_room).state history

-- the releases of one partner
abbrev pub set_releases_of : Partner → SetState → List (List ℕ) → ℕ
set_releases_of p = set_sum (λ b bytes o. count (release_of p) o.actions)

-- what demand 3 counts in a history of this engine from its cold start with X 1 to 2 and n tries
unfoldable pub set_sums : ℕ → List (List ℕ) → Sums
set_sums n history =
    record {
      orders = set_orders (set_start (one_to_two n)).state history;
      calls = set_calls (set_start (one_to_two n)).state history;
      losses = set_losses (set_start (one_to_two n)).state history;
      actions = set_actions (set_start (one_to_two n)).state history;
    }

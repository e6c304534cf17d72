-- Examples only: nobody has to believe what stands here.
-- Request Q-11: where the promise ends. Pairs of records that do differ with their order, from a cold start with X 1 to 2 and three tries.
-- Defines: Pair, code_and_numbers, both_ways, pairs, last_both_ways, two_versions.
use Rattle.std.specs.Prelude.{ℕ, List, [], ◌∷◌, map}
use Rattle.place.specs.Places.{fleet_tries}
use Rattle.unit.specs.Steps.{Outcome}
use Rattle.unit.specs.OnRecords.{action_room, on_record}
use Rattle.unit.specs.declared.last.Last.{Last}
use Rattle.unit.specs.declared.state.State.{State}
use Rattle.history.specs.Histories.{after}
use Rattle.history.specs.Sums.{started}

-- two records, and what came before them
pub record Pair : Type 0 where
  pub before : List (List ℕ)
  pub one : List ℕ
  pub other : List ℕ

-- 0 or the refusal, then the numbers of the actions
abbrev pub code_and_numbers : Outcome → List ℕ
code_and_numbers o = o.code ∷ map (λ a. a.number) o.actions

-- what the one and the other get where the one comes first, and what they get where the other does
unfoldable pub both_ways : Pair → List (List (List ℕ))
both_ways pair =
    let s : State = after (started fleet_tries) pair.before in
    let first : Outcome = on_record s pair.one action_room in
    let second : Outcome = on_record s pair.other action_room in
    (code_and_numbers first ∷ code_and_numbers (on_record first.state pair.other action_room) ∷ [])
    ∷ (code_and_numbers (on_record second.state pair.one action_room) ∷ code_and_numbers second ∷ [])
    ∷ []

-- three calls
abbrev three_taken : List (List ℕ)
three_taken =
    (11 ∷ 0 ∷ 0 ∷ 0 ∷ 1 ∷ 38 ∷ 0 ∷ [])
    ∷ (11 ∷ 0 ∷ 0 ∷ 0 ∷ 2 ∷ 38 ∷ 0 ∷ [])
    ∷ (11 ∷ 0 ∷ 0 ∷ 0 ∷ 3 ∷ 38 ∷ 0 ∷ [])
    ∷ []

-- RBC 5 Open: an order to RBC 6, not accepting, and the loss of RBC 5. Three places taken: orders to RBC 8 and RBC 9; a call of RBC 8 and
-- an order to RBC 9
unfoldable pub pairs : List Pair
pairs =
    record {
      before = (11 ∷ 0 ∷ 0 ∷ 0 ∷ 5 ∷ 38 ∷ 0 ∷ []) ∷ [];
      one = 5 ∷ 0 ∷ 0 ∷ 0 ∷ 6 ∷ 0 ∷ 1 ∷ [];
      other = 9 ∷ 0 ∷ 0 ∷ 0 ∷ 5 ∷ [];
    }
    ∷ record {
      before = three_taken;
      one = 5 ∷ 0 ∷ 0 ∷ 0 ∷ 8 ∷ 1 ∷ 1 ∷ [];
      other = 5 ∷ 0 ∷ 0 ∷ 0 ∷ 9 ∷ 1 ∷ 1 ∷ [];
    }
    ∷ record {
      before = three_taken;
      one = 11 ∷ 0 ∷ 0 ∷ 0 ∷ 8 ∷ 38 ∷ 0 ∷ [];
      other = 5 ∷ 0 ∷ 0 ∷ 0 ∷ 9 ∷ 1 ∷ 1 ∷ [];
    }
    ∷ []

-- the last known RBC after both, in the two orders
unfoldable pub last_both_ways : Pair → List Last
last_both_ways pair =
    let s : State = after (started fleet_tries) pair.before in
    (after s (pair.one ∷ pair.other ∷ [])).last ∷ (after s (pair.other ∷ pair.one ∷ [])).last ∷ []

-- message 32 of RBC 1 and of RBC 2, both Contacting
unfoldable pub two_versions : Pair
two_versions =
    record {
      before =
          (5 ∷ 0 ∷ 0 ∷ 0 ∷ 1 ∷ 1 ∷ 1 ∷ [])
          ∷ (5 ∷ 0 ∷ 0 ∷ 0 ∷ 2 ∷ 1 ∷ 1 ∷ [])
          ∷ (8 ∷ 0 ∷ 0 ∷ 0 ∷ 1 ∷ [])
          ∷ (8 ∷ 0 ∷ 0 ∷ 0 ∷ 2 ∷ [])
          ∷ [];
      one = 11 ∷ 0 ∷ 0 ∷ 0 ∷ 1 ∷ 32 ∷ 17 ∷ [];
      other = 11 ∷ 0 ∷ 0 ∷ 0 ∷ 2 ∷ 32 ∷ 17 ∷ [];
    }

-- Examples only: nobody has to believe what stands here.
-- Events that request Q-11 is computed with, and the state that they come to.
-- Defines: rbc_one, rbc_two, riu_three, rbc_four; version_one, lost_one, up_one, drop_one, ended_one, timeout_two, version_two,
-- lost_two, up_three, timeout_three, drop_four, ended_four (an event and its partner);
-- at_work (a history), working (the state after it), in_turn and one_by_one (two mixtures of the same rows), first_answered and
-- second_answered (two with messages 32 of two RBCs), one_each and one_each_later (two orders of a row with one event each).
use Rattle.std.specs.Prelude.{ℕ, refl, List, [], ◌∷◌, map}
use Rattle.record.specs.Partners.{rbc, riu}
use Rattle.record.specs.Records.{reading}
use Rattle.record.specs.declared.partner.Partner.{Partner}
use Rattle.record.specs.declared.event.PartnerEvent.TheVariants.{Drop, Up, Loss, Timeout, Version, Ended}
use Rattle.place.specs.Places.{fleet_tries}
use Rattle.place.specs.Table.{turn}
use Rattle.unit.specs.Lasts.{recalled}
use Rattle.unit.specs.States.{first, seek, places_ok, sound, cold, cold_start, some}
use Rattle.unit.specs.Steps.{closed, closing_actions, step}
use Rattle.unit.specs.OnRecords.{on_record}
use Rattle.unit.specs.declared.state.State.{State}
use Rattle.unit.specs.declared.answer.Action.{Action}
use Rattle.history.specs.Histories.{after}
use Rattle.history.specs.Sums.{started}
use Rattle.history.specs.EitherOrder.{Delivered, Reply}

-- three RBCs and an RIU
abbrev pub rbc_one : Partner
rbc_one = record { kind = rbc; high = 0; middle = 0; low = 1 }

abbrev pub rbc_two : Partner
rbc_two = record { kind = rbc; high = 0; middle = 0; low = 2 }

abbrev pub riu_three : Partner
riu_three = record { kind = riu; high = 0; middle = 0; low = 3 }

abbrev pub rbc_four : Partner
rbc_four = record { kind = rbc; high = 0; middle = 0; low = 4 }

-- message 32 has version 17, which is 1.1
unfoldable pub version_one : Delivered
unfolding reading
version_one = record { bytes = 11 ∷ 0 ∷ 0 ∷ 0 ∷ 1 ∷ 32 ∷ 17 ∷ []; partner = rbc_one; event = Version 17; means = refl }

unfoldable pub lost_one : Delivered
unfolding reading
lost_one = record { bytes = 9 ∷ 0 ∷ 0 ∷ 0 ∷ 1 ∷ []; partner = rbc_one; event = Loss; means = refl }

unfoldable pub up_one : Delivered
unfolding reading
up_one = record { bytes = 8 ∷ 0 ∷ 0 ∷ 0 ∷ 1 ∷ []; partner = rbc_one; event = Up; means = refl }

unfoldable pub drop_one : Delivered
unfolding reading
drop_one = record { bytes = 6 ∷ 0 ∷ 0 ∷ 0 ∷ 1 ∷ []; partner = rbc_one; event = Drop; means = refl }

unfoldable pub ended_one : Delivered
unfolding reading
ended_one = record { bytes = 11 ∷ 0 ∷ 0 ∷ 0 ∷ 1 ∷ 39 ∷ 0 ∷ []; partner = rbc_one; event = Ended; means = refl }

unfoldable pub timeout_two : Delivered
unfolding reading
timeout_two = record { bytes = 10 ∷ 0 ∷ 0 ∷ 0 ∷ 2 ∷ []; partner = rbc_two; event = Timeout; means = refl }

unfoldable pub version_two : Delivered
unfolding reading
version_two = record { bytes = 11 ∷ 0 ∷ 0 ∷ 0 ∷ 2 ∷ 32 ∷ 17 ∷ []; partner = rbc_two; event = Version 17; means = refl }

unfoldable pub lost_two : Delivered
unfolding reading
lost_two = record { bytes = 9 ∷ 0 ∷ 0 ∷ 0 ∷ 2 ∷ []; partner = rbc_two; event = Loss; means = refl }

unfoldable pub up_three : Delivered
unfolding reading
up_three = record { bytes = 8 ∷ 1 ∷ 0 ∷ 0 ∷ 3 ∷ []; partner = riu_three; event = Up; means = refl }

unfoldable pub timeout_three : Delivered
unfolding reading
timeout_three = record { bytes = 10 ∷ 1 ∷ 0 ∷ 0 ∷ 3 ∷ []; partner = riu_three; event = Timeout; means = refl }

unfoldable pub drop_four : Delivered
unfolding reading
drop_four = record { bytes = 6 ∷ 0 ∷ 0 ∷ 0 ∷ 4 ∷ []; partner = rbc_four; event = Drop; means = refl }

unfoldable pub ended_four : Delivered
unfolding reading
ended_four = record { bytes = 11 ∷ 0 ∷ 0 ∷ 0 ∷ 4 ∷ 39 ∷ 0 ∷ []; partner = rbc_four; event = Ended; means = refl }

-- RBC 1 and RBC 2 ordered and connected, RIU 3 ordered, a call of RBC 4: Contacting, Contacting, Connecting, Open
unfoldable pub at_work : List (List ℕ)
at_work =
    (5 ∷ 0 ∷ 0 ∷ 0 ∷ 1 ∷ 1 ∷ 1 ∷ [])
    ∷ (5 ∷ 0 ∷ 0 ∷ 0 ∷ 2 ∷ 1 ∷ 1 ∷ [])
    ∷ (8 ∷ 0 ∷ 0 ∷ 0 ∷ 1 ∷ [])
    ∷ (8 ∷ 0 ∷ 0 ∷ 0 ∷ 2 ∷ [])
    ∷ (5 ∷ 1 ∷ 0 ∷ 0 ∷ 3 ∷ 1 ∷ 1 ∷ [])
    ∷ (11 ∷ 0 ∷ 0 ∷ 0 ∷ 4 ∷ 38 ∷ 0 ∷ [])
    ∷ []

unfoldable pub working : State
unfolding reading turn first seek places_ok sound cold cold_start closed closing_actions step on_record
    after some recalled at_work
working = after (started fleet_tries) at_work

-- RBC 1: 32, 32, lost, up; RBC 2: three timeouts; RIU 3: up, timeout; RBC 4: drop, 39
unfoldable pub in_turn : List Delivered
unfolding version_one timeout_two up_three drop_four lost_one timeout_three ended_four up_one
in_turn =
    version_one
    ∷ timeout_two
    ∷ up_three
    ∷ version_one
    ∷ drop_four
    ∷ lost_one
    ∷ timeout_two
    ∷ timeout_three
    ∷ ended_four
    ∷ up_one
    ∷ timeout_two
    ∷ []

unfoldable pub one_by_one : List Delivered
unfolding drop_four ended_four up_three timeout_three timeout_two version_one lost_one up_one
one_by_one =
    drop_four
    ∷ ended_four
    ∷ up_three
    ∷ timeout_three
    ∷ timeout_two
    ∷ timeout_two
    ∷ timeout_two
    ∷ version_one
    ∷ version_one
    ∷ lost_one
    ∷ up_one
    ∷ []

-- RBC 1: 32, drop, 39; RBC 2: timeout, 32, lost; RIU 3: up
unfoldable pub first_answered : List Delivered
unfolding version_one timeout_two drop_one up_three version_two ended_one lost_two
first_answered = version_one ∷ timeout_two ∷ drop_one ∷ up_three ∷ version_two ∷ ended_one ∷ lost_two ∷ []

unfoldable pub second_answered : List Delivered
unfolding up_three timeout_two version_two lost_two version_one drop_one ended_one
second_answered = up_three ∷ timeout_two ∷ version_two ∷ lost_two ∷ version_one ∷ drop_one ∷ ended_one ∷ []

-- one event of each
unfoldable pub one_each : List Delivered
unfolding version_one timeout_two up_three drop_four
one_each = version_one ∷ timeout_two ∷ up_three ∷ drop_four ∷ []

unfoldable pub one_each_later : List Delivered
unfolding timeout_two up_three drop_four version_one
one_each_later = timeout_two ∷ up_three ∷ drop_four ∷ version_one ∷ []

-- 0 or the refusal, then the numbers of the actions
abbrev pub code_and_actions : Reply → List ℕ
code_and_actions a = a.code ∷ map (λ (action : Action). action.number) a.actions

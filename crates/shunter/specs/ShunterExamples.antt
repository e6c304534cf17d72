-- Examples only: nobody has to believe what stands here.
-- Histories of three and four partners on two modems, for computed instances.
-- Defines: fitted_limits, fitted, order_rbc, order_alone, call_rbc, drop_rbc, up_rbc, lost_rbc, timeout_rbc, end_all, answers_of,
-- three_partners, four_wait, two_lost.
use Rattle.std.specs.Prelude.{ℕ, List, [], ◌∷◌, ◌++◌}
use Rattle.place.specs.declared.limits.Limits.{Limits}
use Rattle.unit.specs.States.{one_to_two}
use Rattle.unit.specs.OnRecords.{action_room, action_bytes}
use Rattle.shunter.specs.Queues.{waiting, cold_shunter}
use Rattle.shunter.specs.Shunting.{shunt}
use Rattle.shunter.specs.declared.state.Shunter.{Shunter}

-- X 1 to 2, three tries
abbrev pub fitted_limits : Limits
fitted_limits = one_to_two 3

abbrev pub fitted : Shunter
fitted = (cold_shunter fitted_limits).shunter

-- records that name an RBC by its low byte: an order of cause 1 that accepts other RBCs' sessions, one that ends them, a call 38, a drop,
-- a connection up, one lost, a timeout; and an end of all
abbrev pub order_rbc : ℕ → List ℕ
order_rbc n = 5 ∷ 0 ∷ 0 ∷ 0 ∷ n ∷ 1 ∷ 1 ∷ []

abbrev pub order_alone : ℕ → List ℕ
order_alone n = 5 ∷ 0 ∷ 0 ∷ 0 ∷ n ∷ 0 ∷ 1 ∷ []

abbrev pub call_rbc : ℕ → List ℕ
call_rbc n = 11 ∷ 0 ∷ 0 ∷ 0 ∷ n ∷ 38 ∷ 0 ∷ []

abbrev pub drop_rbc : ℕ → List ℕ
drop_rbc n = 6 ∷ 0 ∷ 0 ∷ 0 ∷ n ∷ []

abbrev pub up_rbc : ℕ → List ℕ
up_rbc n = 8 ∷ 0 ∷ 0 ∷ 0 ∷ n ∷ []

abbrev pub lost_rbc : ℕ → List ℕ
lost_rbc n = 9 ∷ 0 ∷ 0 ∷ 0 ∷ n ∷ []

abbrev pub timeout_rbc : ℕ → List ℕ
timeout_rbc n = 10 ∷ 0 ∷ 0 ∷ 0 ∷ n ∷ []

abbrev pub end_all : List ℕ
end_all = 7 ∷ 0 ∷ []

-- the answers of a history: the number, the bytes that went out, and who waits then, the three parted by FF hex
unfoldable pub answers_of : Shunter → List (List ℕ) → List (List ℕ)
answers_of h [] = []
answers_of h (bytes ∷ history) =
    ((shunt h bytes action_room).code
    ∷ (0xFF ∷ action_bytes (shunt h bytes action_room).actions ++ (0xFF ∷ waiting (shunt h bytes action_room).shunter.queue)))
    ∷ answers_of (shunt h bytes action_room).shunter history

-- three partners: two take the modems, the third waits; its up, lost and timeout get 18, a call gets 17; the first is dropped
abbrev pub three_partners : List (List ℕ)
three_partners =
    order_rbc 1 ∷ order_rbc 2 ∷ order_rbc 3 ∷ up_rbc 3 ∷ lost_rbc 3 ∷ timeout_rbc 3
    ∷ call_rbc 4 ∷ call_rbc 2 ∷ drop_rbc 1 ∷ up_rbc 3 ∷ []

-- two wait, the later one with one in front of it
abbrev pub four_wait : List (List ℕ)
four_wait = order_rbc 1 ∷ order_rbc 2 ∷ order_rbc 3 ∷ order_rbc 4 ∷ []

-- two Lost RBCs with modems, one that waits
abbrev pub two_lost : List (List ℕ)
two_lost = call_rbc 1 ∷ call_rbc 2 ∷ lost_rbc 1 ∷ lost_rbc 2 ∷ order_rbc 3 ∷ []

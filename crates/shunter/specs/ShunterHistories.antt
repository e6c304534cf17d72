-- Request Q-10, what is promised over histories of the shunter: a history is a row of event records, each given 20 bytes for its actions.
-- Defines: shunter_after, shunter_sum, modem_releases, ahead, queued_at, waits_through, reaches, reached.
use Rattle.std.specs.Prelude.{ℕ, suc, ◌+◌, Bool, cond, ◌&&◌, ◌||◌, not, List, [], ◌∷◌, eqb}
use Rattle.unit.specs.Kept.{count}
use Rattle.unit.specs.OnRecords.{action_room}
use Rattle.history.specs.Histories.{is_release}
use Rattle.shunter.specs.Queues.{waiting, among}
use Rattle.shunter.specs.Shunting.{Shunting, modem_missing, place_waits, shunt}
use Rattle.shunter.specs.declared.state.Shunter.{Shunter}

-- the shunter after a history
unfoldable pub shunter_after : Shunter → List (List ℕ) → Shunter
shunter_after h [] = h
shunter_after h (bytes ∷ history) = shunter_after (shunt h bytes action_room).shunter history

-- the sum of what each step of a history counts for, by the shunter that the record meets
unfoldable pub shunter_sum : (Shunter → List ℕ → Shunting → ℕ) → Shunter → List (List ℕ) → ℕ
shunter_sum f h [] = 0
shunter_sum f h (bytes ∷ history) =
    f h bytes (shunt h bytes action_room) + shunter_sum f (shunt h bytes action_room).shunter history

-- "modem releases": the actions 22 that went out
abbrev pub modem_releases : Shunter → List (List ℕ) → ℕ
modem_releases = shunter_sum (λ h bytes o. count is_release o.actions)

-- "as it has in front of it": how many wait longer than a place does
unfoldable pub ahead : ℕ → List ℕ → ℕ
ahead i [] = 0
ahead i (j ∷ js) = cond (eqb i j) 0 (suc (ahead i js))

-- a place waits
abbrev pub queued_at : ℕ → Shunter → Bool
queued_at i h = among i (waiting h.queue)

-- it waits before each step of a history and after the last
unfoldable pub waits_through : ℕ → Shunter → List (List ℕ) → Bool
waits_through i h [] = queued_at i h
waits_through i h (bytes ∷ history) = queued_at i h && waits_through i (shunt h bytes action_room).shunter history

-- "what 17 or 18 refuses never reaches it"
abbrev pub reaches : Shunting → Bool
reaches o = not (eqb o.code modem_missing || eqb o.code place_waits)

-- the records of a history that reach the core
unfoldable pub reached : Shunter → List (List ℕ) → List (List ℕ)
reached h [] = []
reached h (bytes ∷ history) =
    cond (reaches (shunt h bytes action_room)) (bytes ∷ reached (shunt h bytes action_room).shunter history)
    (reached (shunt h bytes action_room).shunter history)

-- Every line of a sheet has room.
-- Defines: text_room.
-- Proves: line-room, end-room.
use mathlib.Core.List.{List, [], ◌∷◌}
use Prim.Native.Nat.{ℕ, ◌*◌, ◌≤◌}
use native.Mathlib.Omega.{arith}
use lib.ListN.{length, length-append}
use Rattle.wire.specs.Blocks.{blocks}
use Rattle.unit.specs.declared.answer.Action.{Action}
use Rattle.text.specs.Texts.{most_digits, decimal, partner_number, action_text, line_text, end_text}
use Rattle.text.proofs.Numbers.{digits-few}

-- for each line so much of the room of every sheet
abbrev pub text_room : ℕ
text_room = 192

few : (n : ℕ) → length (decimal n) ≤ most_digits
few n = digits-few most_digits n

action-few : (a : Action) → length (action_text a) ≤ 33
unfolding action_text
action-few a =
    let number = few a.number in
    let type = few a.partner.kind in
    let partner = few (partner_number a.partner) in
    simp length-append (omega arith)

actions-few : (acts : List Action) → length (blocks action_text acts) ≤ 33 * length acts
unfolding blocks
actions-few [] = omega arith
actions-few (a ∷ acts) =
    let one = action-few a in
    let rest = actions-few acts in
    simp length-append (omega arith)

pub line-room : (number kind code : ℕ) (acts : List Action) → length acts ≤ 4
    → length (line_text number kind code acts) ≤ text_room
unfolding line_text
line-room number kind code acts most =
    let numbers = few number in
    let kinds = few kind in
    let codes = few code in
    let actions = actions-few acts in
    simp length-append (omega arith)

pub end-room : (stop read : ℕ) → length (end_text stop read) ≤ text_room
unfolding end_text
end-room stop read =
    let stops = few stop in
    let reads = few read in
    simp length-append (omega arith)

-- What an event makes of a place and of its member is the same, and so are the places and the sets after it.
-- Defines: After, Matches.
-- Proves: moved-many, turn-moves.
use mathlib.Core.Path.{◌≡◌, refl, subst}
use mathlib.Core.Bool.{Bool, true, false, cond}
use Prim.Native.Nat.{◌+◌}
use native.Mathlib.Omega.{arith}
use lib.Dec.{ltb}
use Rattle.wire.proofs.Tests.{and_right, true-false}
use Rattle.record.specs.Partners.{is_rbc}
use Rattle.record.specs.declared.partner.Partner.{Partner}
use Rattle.record.specs.declared.event.PartnerEvent.{PartnerEvent}
use Rattle.record.specs.declared.event.PartnerEvent.TheVariants.{Drop, Up, Loss, Timeout, Version, Ended}
use Rattle.place.specs.Places.{tries, seat, fits}
use Rattle.place.specs.Table.{supported, turn, takes, numbers, place_after}
use Rattle.place.specs.declared.limits.Limits.{Limits}
use Rattle.place.specs.declared.phase.Phase.{Phase}
use Rattle.place.specs.declared.phase.Phase.TheVariants.{Connecting, Contacting, Open, Lost, Ending}
use Rattle.place.specs.declared.place.Direction.{Direction}
use Rattle.place.specs.declared.place.Direction.TheVariants.{Outgoing, Incoming}
use Rattle.place.specs.declared.turn.Turn.{Turn}
use Rattle.place.specs.declared.turn.Turn.TheVariants as turning
use Rattle.wire.specs.Bytes.{as_bit}
use Rattle.sets.specs.Members.{has_member, member_for, without}
use Rattle.sets.specs.SixSets.{Six, set_in, with_set}
use Rattle.sets.specs.Moves.{move_of, on_move, moves, sent_in}
use Rattle.sets.specs.SetSteps.{tried, moved, new_member}
use Rattle.sets.specs.SameSets.{name_of, place_passes, many}
use Rattle.sets.specs.declared.members.Member.{Member}
use Rattle.sets.specs.declared.names.SetName.{SetName}
use Rattle.sets.specs.declared.moves.Move.{Move}
use Rattle.sets.specs.declared.moves.Move.TheVariants as moving
use Rattle.sets.proofs.Counting.{count_in-without, many-set, member-many}

-- what a member counts for after a move
abbrev pub After : (SetName → Member → Bool) → SetName → Member → Move → Bool
After test w m = on_move (test w m) false (λ sent v t. test v (tried t m))

-- a move takes the member out of one set and puts it into another
pub moved-many : (test : SetName → Member → Bool) (p : Partner) (w : SetName) (mv : Move) (x : Six)
    → has_member p (set_in w x) ≡ true
    → many test (moved p w mv x) + as_bit (test w (member_for p (set_in w x)))
    ≡ many test x + as_bit (After test w (member_for p (set_in w x)) mv)
unfolding moved
moved-many test p w mv x is = by mv
  where
    m : Member
    m = member_for p (set_in w x)

    rest : Six
    rest = with_set w (without p (set_in w x)) x

    left : many test rest + as_bit (test w m) ≡ many test x
    left =
        let store = many-set test w (without p (set_in w x)) x in
        let taken = count_in-without (test w) p (set_in w x) is in
        omega arith

    by : (mv : Move) → many test (moved p w mv x) + as_bit (test w m) ≡ many test x + as_bit (After test w m mv)
    by moving.Stays = refl
    by moving.Leaves =
        let out = left in
        omega arith
    by (moving.Enters v t) =
        let out = left in
        let more = member-many test v (tried t m) rest in
        omega arith
    by (moving.Sends number v t) =
        let out = left in
        let more = member-many test v (tried t m) rest in
        omega arith
    by (moving.SendsBoth first second v t) =
        let out = left in
        let more = member-many test v (tried t m) rest in
        omega arith

-- a turn of a place and a move of its member are the same
pub record Matches (d : Direction) (ph : Phase) (p : Partner) (t : Turn) (mv : Move) : Type 0 where
  pub taken : takes t ≡ moves mv
  pub sent : numbers t ≡ sent_in mv
  pub after : (test : SetName → Member → Bool)
      → place_passes test (place_after (seat d ph p) t) ≡ After test (name_of d ph) (new_member d (tries ph) p) mv

-- the move of a member that is the turn of its place
move_for : Direction → Turn → Move
move_for d turning.Stays = moving.Stays
move_for d turning.Released = moving.Leaves
move_for d (turning.Becomes ph) = moving.Enters (name_of d ph) (tries ph)
move_for d (turning.Sends number ph) = moving.Sends number (name_of d ph) (tries ph)
move_for d (turning.SendsBoth first second ph) = moving.SendsBoth first second (name_of d ph) (tries ph)

-- it matches the turn
move-matches : (d : Direction) (ph : Phase) (p : Partner) (t : Turn) → Matches d ph p t (move_for d t)
unfolding move_for
move-matches d ph p turning.Stays = record { taken = refl; sent = refl; after = λ test. refl }
move-matches d ph p turning.Released = record { taken = refl; sent = refl; after = λ test. refl }
move-matches d ph p (turning.Becomes next) = record { taken = refl; sent = refl; after = λ test. refl }
move-matches d ph p (turning.Sends number next) = record { taken = refl; sent = refl; after = λ test. refl }
move-matches d ph p (turning.SendsBoth first second next) = record { taken = refl; sent = refl; after = λ test. refl }

-- whichever way a test goes
move-cond : (d : Direction) (b : Bool) (t u : Turn) → move_for d (cond b t u) ≡ cond b (move_for d t) (move_for d u)
move-cond d true t u = refl
move-cond d false t u = refl

-- the table of phases and what is said set by set are the same, row by row
turn-move : (l : Limits) (d : Direction) (ph : Phase) (p : Partner) (e : PartnerEvent)
    → fits d ph p ≡ true
    → move_for d (turn l ph e) ≡ move_of l e (name_of d ph) (new_member d (tries ph) p)
unfolding turn move_of move_for
turn-move l d (Connecting t) p Drop ok = refl
turn-move l d (Connecting t) p Up ok = refl
turn-move l d (Connecting t) p Loss ok = refl
turn-move l d (Connecting t) p Timeout ok = move-cond d (ltb t l.tries) _ _
turn-move l d (Connecting t) p (Version v) ok = refl
turn-move l d (Connecting t) p Ended ok = refl
turn-move l d (Contacting t) p Drop ok = refl
turn-move l d (Contacting t) p Up ok = refl
turn-move l d (Contacting t) p Loss ok = refl
turn-move l d (Contacting t) p Timeout ok = move-cond d (ltb t l.tries) _ _
turn-move l Outgoing (Contacting t) p (Version v) ok = move-cond Outgoing (supported l v) _ _
turn-move l Incoming (Contacting t) p (Version v) ok = true-false false (and_right (is_rbc p) false ok) refl
turn-move l d (Contacting t) p Ended ok = refl
turn-move l Outgoing Open p Drop ok = refl
turn-move l Incoming Open p Drop ok = refl
turn-move l Outgoing Open p Up ok = refl
turn-move l Incoming Open p Up ok = refl
turn-move l Outgoing Open p Loss ok = refl
turn-move l Incoming Open p Loss ok = refl
turn-move l Outgoing Open p Timeout ok = refl
turn-move l Incoming Open p Timeout ok = refl
turn-move l Outgoing Open p (Version v) ok = refl
turn-move l Incoming Open p (Version v) ok = refl
turn-move l Outgoing Open p Ended ok = refl
turn-move l Incoming Open p Ended ok = refl
turn-move l d (Lost t) p Drop ok = refl
turn-move l d (Lost t) p Up ok = refl
turn-move l d (Lost t) p Loss ok = refl
turn-move l d (Lost t) p Timeout ok = move-cond d (ltb t l.tries) _ _
turn-move l d (Lost t) p (Version v) ok = refl
turn-move l d (Lost t) p Ended ok = refl
turn-move l d (Ending t) p Drop ok = refl
turn-move l d (Ending t) p Up ok = refl
turn-move l d (Ending t) p Loss ok = refl
turn-move l d (Ending t) p Timeout ok = move-cond d (ltb t l.tries) _ _
turn-move l d (Ending t) p (Version v) ok = refl
turn-move l d (Ending t) p Ended ok = refl

-- so what an event makes of a place and of its member is the same
pub turn-moves : (l : Limits) (d : Direction) (ph : Phase) (p : Partner) (e : PartnerEvent)
    → fits d ph p ≡ true
    → Matches d ph p (turn l ph e) (move_of l e (name_of d ph) (new_member d (tries ph) p))
turn-moves l d ph p e ok =
    subst (Matches d ph p (turn l ph e)) (turn-move l d ph p e ok) (move-matches d ph p (turn l ph e))

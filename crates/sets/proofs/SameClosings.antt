-- A closing does the same to places and to sets that mean the same, and sends the same.
-- Proves: closed_same, sent-same.
use mathlib.Core.Path.{◌≡◌, refl, sym, ap, ◌∙◌}
use mathlib.Core.Bool.{Bool, true, false, cond, ◌&&◌}
use mathlib.Core.List.{List, [], ◌∷◌, ◌++◌, map, map-append}
use Prim.Native.Nat.{ℕ, ◌+◌}
use native.Mathlib.Omega.{arith}
use Rattle.record.specs.Partners.{is_rbc}
use Rattle.record.specs.declared.partner.Partner.{Partner}
use Rattle.place.specs.Places.{seat}
use Rattle.place.specs.Table.{release, terminate, first_try, numbers, place_after, closed_by}
use Rattle.place.specs.declared.phase.Phase.{Phase}
use Rattle.place.specs.declared.phase.Phase.TheVariants.{Connecting, Contacting, Open, Lost, Ending}
use Rattle.place.specs.declared.place.Direction.{Direction}
use Rattle.place.specs.declared.place.Direction.TheVariants.{Outgoing, Incoming}
use Rattle.place.specs.declared.place.Holding.{Holding}
use Rattle.place.specs.declared.place.Holding.TheVariants.{Free, Held}
use Rattle.place.specs.declared.place.Place.{Place}
use Rattle.place.specs.declared.turn.Turn.{Turn}
use Rattle.place.specs.declared.turn.Turn.TheVariants.{Stays, Released, Sends}
use Rattle.place.specs.declared.turn.Closing.{Closing}
use Rattle.place.specs.declared.turn.Closing.TheVariants.{Every, Sessions, Nothing}
use Rattle.unit.specs.Kept.{count, here}
use Rattle.wire.specs.Sums.{sum}
use Rattle.wire.specs.Bytes.{as_bit}
use Rattle.unit.specs.Steps.{act, actions_in, closed, closing_actions}
use Rattle.unit.specs.declared.answer.Action.{Action}
use Rattle.unit.proofs.Counts.{count-append}
use Rattle.unit.proofs.Weights.{weigh-same}
use Rattle.sets.specs.SixSets.{Six}
use Rattle.sets.specs.Moves.{dropped, on_move}
use Rattle.sets.specs.SetSteps.{tried, shuts, goers, stayers, closed_six, sent_all, closing_sent}
use Rattle.sets.specs.SameSets.{place_passes, count_in, many}
use Rattle.sets.specs.declared.members.Member.{Member}
use Rattle.sets.specs.declared.names.SetName.{SetName}
use Rattle.sets.specs.declared.names.SetName.TheVariants.{Calling, Contacted, IncomingSessions, OutgoingSessions, LostSessions}
use Rattle.sets.specs.declared.names.SetName.TheVariants.{TerminatingSessions}
use Rattle.sets.proofs.Counting.{count_in-append, count_in-map, count_in-none, count_in-same, count_in-parts}
use Rattle.sets.proofs.Meaning.{Same}

-- what a member that is dropped counts for
abbrev after_drop : (SetName → Member → Bool) → SetName → Member → Bool
after_drop test w m = on_move (test w m) false (λ sent v t. test v (tried t m)) (dropped w)

-- and after a closing
abbrev after_closing : Closing → (SetName → Member → Bool) → SetName → Member → Bool
after_closing which test w m = cond (shuts which w m) (after_drop test w m) (test w m)

-- the places after a closing, weighed
weigh-after : (f : Place → ℕ) (which : Closing) (ps : List Place)
    → sum f (closed which ps) ≡ sum (λ p. f (place_after p (closed_by which p))) ps
unfolding sum closed
weigh-after f which [] = refl
weigh-after f which (p ∷ ps) = ap (λ k. f (place_after p (closed_by which p)) + k) (weigh-after f which ps)

-- what is said of a turn that is not taken for anybody, and of one that is taken for some
never : {A : Type 0} (f : Turn → A) (b : Bool) (t u : Turn) → f (cond (b && false) t u) ≡ f u
never f true t u = refl
never f false t u = refl

where-so : {A : Type 0} (f : Turn → A) (b : Bool) (t u : Turn) → f (cond (b && true) t u) ≡ cond b (f t) (f u)
where-so f true t u = refl
where-so f false t u = refl

-- a place passes a test after a turn
abbrev turn_passes : (SetName → Member → Bool) → Direction → Phase → Partner → Turn → Bool
turn_passes test d ph p t = place_passes test (place_after (seat d ph p) t)

-- a closing of a place is one of its member
place-closed : (which : Closing) (test : SetName → Member → Bool) (k : Holding)
    → place_passes test (place_after (record { holding = k }) (closed_by which (record { holding = k })))
    ≡ place_passes (after_closing which test) (record { holding = k })
place-closed which test Free = refl
place-closed Every test (Held d (Connecting t) p) = refl
place-closed Every test (Held d (Contacting t) p) = refl
place-closed Every test (Held Outgoing Open p) = refl
place-closed Every test (Held Incoming Open p) = refl
place-closed Every test (Held d (Lost t) p) = refl
place-closed Every test (Held d (Ending t) p) = refl
place-closed Sessions test (Held d (Connecting t) p) = never (turn_passes test d (Connecting t) p) (is_rbc p) _ _
place-closed Sessions test (Held d (Contacting t) p) = never (turn_passes test d (Contacting t) p) (is_rbc p) _ _
place-closed Sessions test (Held Outgoing Open p) = where-so (turn_passes test Outgoing Open p) (is_rbc p) _ _
place-closed Sessions test (Held Incoming Open p) = where-so (turn_passes test Incoming Open p) (is_rbc p) _ _
place-closed Sessions test (Held d (Lost t) p) = where-so (turn_passes test d (Lost t) p) (is_rbc p) _ _
place-closed Sessions test (Held d (Ending t) p) = never (turn_passes test d (Ending t) p) (is_rbc p) _ _
place-closed Nothing test (Held d ph p) = refl

-- a set of which those that a closing is for leave
leaving : (which : Closing) (w : SetName) (test : Member → Bool) (ms : List Member)
    → count_in (λ m. cond (shuts which w m) false (test m)) ms ≡ count_in test (stayers which w ms)
leaving which w test ms =
    let parts = count_in-parts (shuts which w) (λ m. false) test ms in
    let none = count_in-none (goers which w ms) in
    omega arith

-- and of which they terminate
ending : (which : Closing) (w : SetName) (test after : Member → Bool) (ms : List Member)
    → count_in (λ m. cond (shuts which w m) (after (tried first_try m)) (test m)) ms
    ≡ count_in test (stayers which w ms) + count_in after (map (tried first_try) (goers which w ms))
ending which w test after ms =
    let parts = count_in-parts (shuts which w) (λ m. after (tried first_try m)) test ms in
    let mapped = count_in-map after (tried first_try) (goers which w ms) in
    omega arith

-- those that terminate already stay
staying : (which : Closing) (test : SetName → Member → Bool) (m : Member)
    → after_closing which test TerminatingSessions m ≡ test TerminatingSessions m
staying Every test m = refl
staying Sessions test m = refl
staying Nothing test m = refl

-- the six after a closing
six-closed : (which : Closing) (test : SetName → Member → Bool) (x : Six)
    → many test (closed_six which x) ≡ many (after_closing which test) x
unfolding many closed_six
six-closed which test x =
    let f = tried first_try in
    let in-goers = goers which IncomingSessions x.incoming in
    let out-goers = goers which OutgoingSessions x.outgoing in
    let a = leaving which Calling (test Calling) x.calling in
    let b = leaving which Contacted (test Contacted) x.contacted in
    let c = ending which IncomingSessions (test IncomingSessions) (test TerminatingSessions) x.incoming in
    let d = ending which OutgoingSessions (test OutgoingSessions) (test TerminatingSessions) x.outgoing in
    let e = leaving which LostSessions (test LostSessions) x.lost in
    let g = count_in-same (after_closing which test TerminatingSessions) (test TerminatingSessions) (staying which test) x.terminating in
    let h = count_in-append (test TerminatingSessions) x.terminating (map f (in-goers ++ out-goers)) in
    let i = ap (count_in (test TerminatingSessions)) (map-append f in-goers out-goers) in
    let j = count_in-append (test TerminatingSessions) (map f in-goers) (map f out-goers) in
    omega arith

-- so places and sets that mean the same do after a closing
pub closed_same : (which : Closing) (ps : List Place) (x : Six) → Same ps x → Same (closed which ps) (closed_six which x)
closed_same which ps x same test =
    weigh-after (here (place_passes test)) which ps
    ∙ weigh-same _ _ (λ p. ap as_bit (place-closed which test p.holding)) ps
    ∙ same (after_closing which test)
    ∙ sym (six-closed which test x)

-- what a closing sends for a member
abbrev closing_sends : Closing → (Action → Bool) → SetName → Member → Bool
closing_sends which test w m =
    cond (shuts which w m)
    (on_move false (test (act m.partner release)) (λ sent v t. test (act m.partner terminate)) (dropped w))
    false

-- the actions of a closing of places, place by place
weigh-sent : (test : Action → Bool) (which : Closing) (ps : List Place)
    → count test (closing_actions which ps) ≡ sum (λ p. count test (actions_in p.holding (closed_by which p))) ps
unfolding sum count closing_actions
weigh-sent test which [] = refl
weigh-sent test which (p ∷ ps) =
    let rest = weigh-sent test which ps in
    let joined = count-append test (actions_in p.holding (closed_by which p)) (closing_actions which ps) in
    omega arith

-- one action is counted alone
one_more : (k : ℕ) → k + 0 ≡ k
one_more k = omega arith

-- how many actions of a turn pass a test
abbrev turn_sends : (Action → Bool) → Partner → Turn → ℕ
turn_sends test p t = count test (map (act p) (numbers t))

-- a turn that is taken for some, and sends one action
some-send : (test : Action → Bool) (p : Partner) (b : Bool) (t : Turn) (passes : Bool)
    → turn_sends test p t ≡ as_bit passes
    → turn_sends test p (cond (b && true) t Stays) ≡ as_bit (cond b passes false)
unfolding count
some-send test p true t passes one = one
some-send test p false t passes one = refl

-- what a closing sends for a place is what it sends for its member
place-sends : (which : Closing) (test : Action → Bool) (k : Holding)
    → count test (actions_in k (closed_by which (record { holding = k })))
    ≡ here (place_passes (closing_sends which test)) (record { holding = k })
unfolding count
place-sends which test Free = refl
place-sends Every test (Held d (Connecting t) p) = one_more _
place-sends Every test (Held d (Contacting t) p) = one_more _
place-sends Every test (Held Outgoing Open p) = one_more _
place-sends Every test (Held Incoming Open p) = one_more _
place-sends Every test (Held d (Lost t) p) = one_more _
place-sends Every test (Held d (Ending t) p) = refl
place-sends Sessions test (Held d (Connecting t) p) = never (turn_sends test p) (is_rbc p) _ _
place-sends Sessions test (Held d (Contacting t) p) = never (turn_sends test p) (is_rbc p) _ _
place-sends Sessions test (Held Outgoing Open p) = some-send test p (is_rbc p) (Sends terminate (Ending first_try)) _ (one_more _)
place-sends Sessions test (Held Incoming Open p) = some-send test p (is_rbc p) (Sends terminate (Ending first_try)) _ (one_more _)
place-sends Sessions test (Held d (Lost t) p) = some-send test p (is_rbc p) Released _ (one_more _)
place-sends Sessions test (Held d (Ending t) p) = never (turn_sends test p) (is_rbc p) _ _
place-sends Nothing test (Held d ph p) = refl

-- an action of one number for each member, counted
count-all-sent : (test : Action → Bool) (number : ℕ) (ms : List Member)
    → count test (sent_all number ms) ≡ count_in (λ m. test (act m.partner number)) ms
unfolding count count_in
count-all-sent test number [] = refl
count-all-sent test number (m ∷ ms) = ap (λ k. as_bit (test (act m.partner number)) + k) (count-all-sent test number ms)

-- those of a set that a closing is for
going : (which : Closing) (w : SetName) (test : Action → Bool) (number : ℕ) (ms : List Member)
    → count_in (λ m. cond (shuts which w m) (test (act m.partner number)) false) ms ≡ count test (sent_all number (goers which w ms))
going which w test number ms =
    let parts = count_in-parts (shuts which w) (λ m. test (act m.partner number)) (λ m. false) ms in
    let none = count_in-none (stayers which w ms) in
    let sent = count-all-sent test number (goers which w ms) in
    omega arith

-- nobody that terminates is sent anything
quiet : (which : Closing) (test : Action → Bool) (m : Member) → closing_sends which test TerminatingSessions m ≡ false
quiet Every test m = refl
quiet Sessions test m = refl
quiet Nothing test m = refl

-- what a closing of the six sends
six-sends : (which : Closing) (test : Action → Bool) (x : Six)
    → count test (closing_sent which x) ≡ many (closing_sends which test) x
unfolding many closing_sent
six-sends which test x =
    let p = sent_all release (goers which Calling x.calling) in
    let q = sent_all release (goers which Contacted x.contacted) in
    let r = sent_all terminate (goers which IncomingSessions x.incoming) in
    let s = sent_all terminate (goers which OutgoingSessions x.outgoing) in
    let t = sent_all release (goers which LostSessions x.lost) in
    let first = count-append test p (q ++ (r ++ (s ++ t))) in
    let second = count-append test q (r ++ (s ++ t)) in
    let third = count-append test r (s ++ t) in
    let fourth = count-append test s t in
    let a = going which Calling test release x.calling in
    let b = going which Contacted test release x.contacted in
    let c = going which IncomingSessions test terminate x.incoming in
    let d = going which OutgoingSessions test terminate x.outgoing in
    let e = going which LostSessions test release x.lost in
    let g = count_in-same (closing_sends which test TerminatingSessions) (λ m. false) (quiet which test) x.terminating in
    let h = count_in-none x.terminating in
    omega arith

-- so a closing of places and one of sets that mean the same send the same
pub sent-same : (which : Closing) (ps : List Place) (x : Six)
    → Same ps x
    → (test : Action → Bool)
    → count test (closing_actions which ps) ≡ count test (closing_sent which x)
sent-same which ps x same test =
    weigh-sent test which ps
    ∙ weigh-same _ _ (λ p. place-sends which test p.holding) ps
    ∙ same (closing_sends which test)
    ∙ sym (six-sends which test x)

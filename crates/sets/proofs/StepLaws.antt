-- What each kind of step of the engine of sets is by what the code's tests and searches showed; the sets as the code holds them against
-- their lists.
-- Defines: rest_of, answering, admits, carries, names.
-- Proves: member-held, held-count, enter-is, packed-room, packed-enter, rest-is, rest-room, moved-is, ready-few,
-- refused-held, noted-held, closed-held, recalled-held, joined-held, level-is, mission-is, mode-is, hole-is, end_is, admitted-is,
-- ordered-is, order_is, received_is, called_is, taken_is, named-is.
use Rattle.std.specs.Prelude.{Option}
use mathlib.Core.Path.{◌≡◌, refl, sym, ap, ap₂, ◌∙◌}
use mathlib.Core.Bool.{Bool, true, cond, ◌||◌}
use mathlib.Core.List.{List, [], ◌∷◌, ◌++◌, map}
use Prim.Native.Nat.{ℕ, ◌≤◌, ◌<◌}
use native.Mathlib.Omega.{arith}
use lib.Dec.{eqb, ltb}
use lib.ListN.{length}
use Rattle.wire.specs.Refusals as refusal
use Rattle.record.specs.Partners.{is_rbc, reserved}
use Rattle.record.specs.Records.{mission_ended}
use Rattle.record.specs.declared.partner.Partner.{Partner}
use Rattle.record.specs.declared.event.Cause.{Cause}
use Rattle.record.specs.declared.event.PartnerEvent.{PartnerEvent}
use Rattle.record.specs.declared.event.Event.TheVariants.{Level, Mission, Mode, Hole, EndAll}
use Rattle.place.specs.Table.{request, established, first_try}
use Rattle.place.specs.declared.place.Direction.TheVariants.{Outgoing, Incoming}
use Rattle.place.specs.declared.turn.Closing.{Closing}
use Rattle.place.specs.declared.turn.Closing.TheVariants.{Every}
use Rattle.unit.specs.Lasts.{meant, recalled}
use Rattle.unit.specs.Steps.{act, mark_mode, mark_hole, hole_taken, in_force, spend, displaced}
use Rattle.unit.specs.declared.answer.Action.{Action}
use Rattle.unit.specs.declared.last.Last.{Last}
use Rattle.unit.specs.declared.state.Marks.{Marks}
use Rattle.unit.specs.declared.state.Train.{Train}
use Rattle.sets.specs.Members.{most_members, session_tries, has_member, member_for, without, joining, members_of, set_of}
use Rattle.sets.specs.SixSets.{Six, Sets, set_in, with_set, size, whereabouts, on_whereabouts, phase_in, unpacked_six, unpacked}
use Rattle.sets.specs.SixSets.{packed_six, packed_sets, tidy_six, set_ready}
use Rattle.sets.specs.Moves.{move_of, on_move, moves, sent_in}
use Rattle.sets.specs.SetSteps.{SetOutcome, set_refused_at, set_refused, set_done, set_noted, tried, closed_six, closing_sent, set_closed}
use Rattle.sets.specs.SetSteps.{with_member, moved, set_recalling, set_moved, set_named, new_member, admitted_to, set_joined}
use Rattle.sets.specs.SetSteps.{set_ordered_to, set_ordered, set_received, set_called, set_step}
use Rattle.sets.specs.OnSets.{boxed, set_listed}
use Rattle.sets.specs.Holding.{held_set, with_held}
use Rattle.sets.specs.declared.answer.SetAnswer.{SetAnswer}
use Rattle.sets.specs.declared.members.Member.{Member}
use Rattle.sets.specs.declared.members.Members.{Members}
use Rattle.sets.specs.declared.moves.Move.{Move}
use Rattle.sets.specs.declared.names.SetName.{SetName}
use Rattle.sets.specs.declared.names.SetName.TheVariants.{Calling, Contacted, IncomingSessions, OutgoingSessions, LostSessions}
use Rattle.sets.specs.declared.names.SetName.TheVariants.{TerminatingSessions}
use Rattle.sets.specs.declared.six.SixSets.{SixSets}
use Rattle.sets.specs.declared.state.SetState.{SetState}
use Rattle.sets.proofs.Counting.{count_in-all, count_in-without, many-set, many-in, many-size}
use Rattle.sets.proofs.SixByName.{held-tidy, held-members}
use Rattle.sets.proofs.Packing.{tidy-length, packed-six, unpacked-six, packed-tidy, ready-tidy, ready-size, packed-ready}

-- the member that is a partner is the same as the code holds it
pub member-held : (w : SetName) (x : SixSets) (p : Partner) (from : Members)
    → from ≡ held_set w x
    → member_for p (members_of from) ≡ member_for p (set_in w (unpacked_six x))
member-held w x p from held = ap (member_for p) (ap members_of held ∙ held-members w x)

-- one set has no more members than all
set-size : (w : SetName) (x : Six) → length (set_in w x) ≤ size x
set-size w x =
    let one = many-in (λ v m. true) w x in
    omega (arith, many-size x, count_in-all (set_in w x))

-- and so none that is held has
pub held-count : (w : SetName) (x : SixSets) → tidy_six x ≡ true → (held_set w x).count ≤ size (unpacked_six x)
held-count w x ok =
    let fits = set-size w (unpacked_six x) in
    let long = sym (ap length (held-members w x)) ∙ tidy-length (held_set w x) (held-tidy w x ok) in
    omega arith

-- another set put among those held is the one put among the lists
held-put : (w : SetName) (x : SixSets) (ms : List Member)
    → tidy_six x ≡ true
    → with_held w (set_of ms) x ≡ packed_six (with_set w ms (unpacked_six x))
held-put w x ms ok = by w (packed-six x ok)
  where
    by : (w : SetName) → packed_six (unpacked_six x) ≡ x → with_held w (set_of ms) x ≡ packed_six (with_set w ms (unpacked_six x))
    by Calling same = ap (with_held Calling (set_of ms)) (sym same)
    by Contacted same = ap (with_held Contacted (set_of ms)) (sym same)
    by IncomingSessions same = ap (with_held IncomingSessions (set_of ms)) (sym same)
    by OutgoingSessions same = ap (with_held OutgoingSessions (set_of ms)) (sym same)
    by LostSessions same = ap (with_held LostSessions (set_of ms)) (sym same)
    by TerminatingSessions same = ap (with_held TerminatingSessions (set_of ms)) (sym same)

-- a held set that was changed, put back in its place
put_is : (x : SixSets) (w : SetName) (change : List Member → List Member) (from after : Members)
    → tidy_six x ≡ true
    → from ≡ held_set w x
    → after ≡ set_of (change (members_of from))
    → with_held w after x ≡ packed_six (with_set w (change (set_in w (unpacked_six x))) (unpacked_six x))
put_is x w change from after ok held is =
    ap (λ s. with_held w s x) (is ∙ ap (λ ms. set_of (change ms)) (ap members_of held ∙ held-members w x)) ∙ held-put w x _ ok

-- a held set with one member more, put back in its place
pub enter-is : (x : SixSets) (w : SetName) (m : Member) (from after : Members)
    → tidy_six x ≡ true
    → from ≡ held_set w x
    → after ≡ set_of (joining (members_of from) m)
    → with_held w after x ≡ packed_six (with_member w m (unpacked_six x))
enter-is x w m from after ok held is = put_is x w (λ ms. joining ms m) from after ok held is

-- what the code holds for lists with room in all is tidy and has that room
pub packed-room : (y : Six) (x : SixSets)
    → x ≡ packed_six y
    → size y < most_members
    → (tidy_six x ≡ true) × (size (unpacked_six x) < most_members)
packed-room y x is room =
    let few : size y ≤ most_members = omega arith in
    let same = ap (λ s. size (unpacked_six s)) is ∙ ap size (unpacked-six y few) in
    (ap tidy_six is ∙ packed-tidy y few, omega arith)

-- and to enter a set there is to enter it in the lists
pub packed-enter : (y : Six) (x : SixSets) (w : SetName) (m : Member)
    → x ≡ packed_six y
    → size y ≤ most_members
    → packed_six (with_member w m (unpacked_six x)) ≡ packed_six (with_member w m y)
packed-enter y x w m is few = ap (λ u. packed_six (with_member w m u)) (ap unpacked_six is ∙ unpacked-six y few)

-- the lists after a member was taken out of its set
abbrev pub rest_of : Partner → SetName → Six → Six
rest_of p w x = with_set w (without p (set_in w x)) x

-- the code holds them after its store
pub rest-is : (x : SixSets) (p : Partner) (w : SetName) (from out : Members)
    → tidy_six x ≡ true
    → from ≡ held_set w x
    → out ≡ set_of (without p (members_of from))
    → with_held w out x ≡ packed_six (rest_of p w (unpacked_six x))
rest-is x p w from out ok held is = put_is x w (without p) from out ok held is

-- and there is room for the member again
pub rest-room : (x : Six) (p : Partner) (w : SetName)
    → size x ≤ most_members
    → has_member p (set_in w x) ≡ true
    → size (rest_of p w x) < most_members
rest-room x p w few there =
    let store = many-set (λ v m. true) w (without p (set_in w x)) x in
    let taken = count_in-without (λ m. true) p (set_in w x) there in
    omega (arith, many-size x, many-size (rest_of p w x))

-- a member that moves, by its move
pub moved-is : (p : Partner) (w : SetName) (mv : Move) (x : Six)
    → moved p w mv x
    ≡ on_move x (rest_of p w x) (λ sent v t. with_member v (tried t (member_for p (set_in w x))) (rest_of p w x)) mv
unfolding moved
moved-is p w mv x = refl

-- an outcome on lists as the code answers it
abbrev pub answering : SetOutcome Sets → SetAnswer
answering o = set_listed (boxed o)

-- what is said of a newcomer, by where it stands and whether there is room
abbrev pub admits : Option SetName → Bool → SetOutcome Sets → Sets → SetOutcome Sets
admits found t joins z =
    on_whereabouts found (λ w. set_refused_at refusal.has_place (phase_in w) z) (cond t joins (set_refused refusal.all_taken z))

-- what a move makes, taken or not
abbrev pub carries : Bool → Partner → SetName → Move → SetState → SetOutcome Sets
carries t p w mv b =
    cond t (set_recalling (unpacked b) (moved p w mv (unpacked_six b.sets)) (map (act p) (sent_in mv)))
    (set_refused_at refusal.not_taken (phase_in w) (unpacked b))

-- what an event that names a partner makes, by where the partner stands
abbrev pub names : Option SetName → Partner → PartnerEvent → SetState → SetOutcome Sets
names found p e b =
    on_whereabouts found
    (λ w. set_moved (unpacked b) p w (move_of b.limits e w (member_for p (set_in w (unpacked_six b.sets)))))
    (set_refused refusal.has_none (unpacked b))

module _ (b : SetState) where
  -- the lists of the state
  abbrev six : Six
  six = unpacked_six b.sets

  -- the state with another train, other marks, other sets and another last known RBC
  abbrev held : Train → Marks → SixSets → Last → SetState
  held t m x l = record { limits = b.limits; train = t; marks = m; sets = x; last = l }

  -- the sets of a state that is ready
  pub ready-few : set_ready b ≡ true → (tidy_six b.sets ≡ true) × (size six ≤ most_members)
  ready-few ok = (ready-tidy b ok, ready-size b ok)

  -- a refusal of the state as it is held
  pub refused-held : (code phase : ℕ)
      → set_ready b ≡ true
      → set_listed (set_refused_at code phase b) ≡ answering (set_refused_at code phase (unpacked b))
  refused-held code phase ok = ap (λ s. set_listed (set_refused_at code phase s)) (sym (packed-ready b ok))

  -- another train and other marks
  pub noted-held : (t : Train) (m : Marks)
      → set_ready b ≡ true
      → set_listed (set_done (held t m b.sets b.last) []) ≡ answering (set_done (set_noted (unpacked b) t m) [])
  unfolding packed_sets unpacked
  noted-held t m ok = ap (λ x. set_listed (set_done (held t m x b.last) [])) (sym (packed-six b.sets (ready-tidy b ok)))

  -- another train, and every member closed
  pub closed-held : (t : Train) (x : SixSets)
      → x ≡ packed_six (closed_six Every six)
      → set_listed (set_done (held t b.marks x b.last) (closing_sent Every six))
      ≡ answering (set_closed Every (set_noted (unpacked b) t b.marks))
  unfolding set_closed packed_sets unpacked
  closed-held t x is = ap (λ y. set_listed (set_done (held t b.marks y b.last) (closing_sent Every six))) is

  -- other sets, and the last known RBC by the actions
  pub recalled-held : (y : Six) (acts : List Action) (x : SixSets) (l : Last)
      → x ≡ packed_six y
      → l ≡ recalled b.last acts
      → set_listed (set_done (held b.train b.marks x l) acts) ≡ answering (set_recalling (unpacked b) y acts)
  unfolding packed_sets unpacked
  recalled-held y acts x l is known = ap₂ (λ s k. set_listed (set_done (held b.train b.marks s k) acts)) is known

  -- a partner that joins, after the closing
  pub joined-held : (p : Partner) (accepting : Bool) (cause : Cause) (which : Closing) (m : Marks) (x : SixSets)
      → which ≡ displaced p accepting
      → m ≡ spend cause b.marks
      → x ≡ packed_six (with_member Calling (new_member Outgoing first_try p) (closed_six which six))
      → set_listed (set_done (held b.train m x b.last) (closing_sent which six ++ (act p request ∷ [])))
      ≡ answering (set_joined (unpacked b) p accepting cause)
  unfolding set_joined packed_sets unpacked
  joined-held p accepting cause which m x closing spent is =
      let entered : Closing → SixSets = λ w. packed_six (with_member Calling (new_member Outgoing first_try p) (closed_six w six)) in
      let sent : Closing → List Action = λ w. closing_sent w six ++ (act p request ∷ []) in
      ap₂ (λ n s. set_listed (set_done (held b.train n s b.last) (sent which))) spent is
      ∙ ap (λ w. set_listed (set_done (held b.train (spend cause b.marks) (entered w) b.last) (sent w))) closing

  -- the level is stored, and manual 1 sets its mark
  pub level-is : (level : ℕ) (manual marked : Bool)
      → marked ≡ (b.marks.manual || manual)
      → set_done
      (set_noted (unpacked b) (record { level = level; mission = b.train.mission })
      (record { inside = b.marks.inside; mode = b.marks.mode; manual = marked; end = b.marks.end })) []
      ≡ set_step (unpacked b) (Level level manual)
  unfolding set_step unpacked
  level-is level manual marked is =
      ap
      (λ m.
      set_done
      (set_noted (unpacked b) (record { level = level; mission = b.train.mission })
      (record { inside = b.marks.inside; mode = b.marks.mode; manual = m; end = b.marks.end })) [])
      is

  -- the mission is stored, and 0 also ends all
  pub mission-is : (mission : ℕ) (t : Bool)
      → eqb mission mission_ended ≡ t
      → let noted : Sets = set_noted (unpacked b) (record { level = b.train.level; mission = mission }) b.marks in
      cond t (set_closed Every noted) (set_done noted []) ≡ set_step (unpacked b) (Mission mission)
  unfolding set_step unpacked
  mission-is mission t test =
      let noted : Sets = set_noted (unpacked b) (record { level = b.train.level; mission = mission }) b.marks in
      ap (λ u. cond u (set_closed Every noted) (set_done noted [])) (sym test)

  -- a mode change sets its mark
  pub mode-is : set_done (set_noted (unpacked b) b.train (mark_mode b.marks)) [] ≡ set_step (unpacked b) Mode
  unfolding set_step unpacked
  mode-is = refl

  -- a hole is entered only outside one, and left only inside
  pub hole-is : (entered t : Bool)
      → hole_taken b.marks entered ≡ t
      → cond t (set_done (set_noted (unpacked b) b.train (mark_hole b.marks entered)) []) (set_refused refusal.not_taken (unpacked b))
      ≡ set_step (unpacked b) (Hole entered)
  unfolding set_step unpacked
  hole-is entered t test =
      ap
      (λ u.
      cond u (set_done (set_noted (unpacked b) b.train (mark_hole b.marks entered)) []) (set_refused refusal.not_taken (unpacked b)))
      (sym test)

  -- an end of all closes every member, with the train as it is
  pub end_is : set_closed Every (set_noted (unpacked b) b.train b.marks) ≡ set_step (unpacked b) EndAll
  unfolding set_step unpacked
  end_is = refl

  -- a newcomer is admitted by where it stands, and by the room
  pub admitted-is : (p : Partner) (found : Option SetName) (k : ℕ) (t : Bool) (joins : SetOutcome Sets)
      → whereabouts p six ≡ found
      → k ≡ size six
      → ltb k most_members ≡ t
      → admits found t joins (unpacked b) ≡ admitted_to (unpacked b) p joins
  unfolding unpacked
  admitted-is p found k t joins search many test =
      ap₂ (λ f u. admits f u joins (unpacked b)) (sym search) (sym test ∙ ap (λ n. ltb n most_members) many)

  -- an order to the partner that is meant
  pub ordered-is : (p : Partner) (accepting : Bool) (cause : Cause) (t : Bool)
      → reserved p ≡ t
      → cond t (set_refused refusal.none_known (unpacked b)) (admitted_to (unpacked b) p (set_joined (unpacked b) p accepting cause))
      ≡ set_ordered_to (unpacked b) p accepting cause
  ordered-is p accepting cause t test =
      ap
      (λ u.
      cond u (set_refused refusal.none_known (unpacked b)) (admitted_to (unpacked b) p (set_joined (unpacked b) p accepting cause)))
      (sym test)

  -- an order by its cause
  pub order_is : (p q : Partner) (accepting : Bool) (cause : Cause) (t : Bool)
      → in_force cause b.train b.marks ≡ t
      → q ≡ meant b.last p
      → cond t (set_ordered_to (unpacked b) q accepting cause) (set_refused refusal.not_in_force (unpacked b))
      ≡ set_ordered (unpacked b) p accepting cause
  unfolding set_ordered unpacked
  order_is p q accepting cause t test whom =
      ap₂ (λ u r. cond u (set_ordered_to (unpacked b) r accepting cause) (set_refused refusal.not_in_force (unpacked b))) (sym test) whom

  -- an RBC that calls is in session
  pub received_is : (p : Partner)
      → set_recalling (unpacked b) (with_member IncomingSessions (new_member Incoming session_tries p) six) (act p established ∷ [])
      ≡ set_received (unpacked b) p
  unfolding set_received unpacked
  received_is p = refl

  -- a call by who calls
  pub called_is : (p : Partner) (t : Bool)
      → is_rbc p ≡ t
      → cond t (admitted_to (unpacked b) p (set_received (unpacked b) p)) (set_refused refusal.call_from_riu (unpacked b))
      ≡ set_called (unpacked b) p
  unfolding set_called
  called_is p t test =
      ap (λ u. cond u (admitted_to (unpacked b) p (set_received (unpacked b) p))
      (set_refused refusal.call_from_riu (unpacked b))) (sym test)

  -- an event that names a member, by its move
  pub taken_is : (p : Partner) (w : SetName) (mv : Move) (t : Bool)
      → moves mv ≡ t
      → carries t p w mv b ≡ set_moved (unpacked b) p w mv
  unfolding set_moved unpacked
  taken_is p w mv t test = ap (λ u. carries u p w mv b) (sym test)

  -- an event that names a partner, by where it stands
  pub named-is : (p : Partner) (e : PartnerEvent) (found : Option SetName)
      → whereabouts p six ≡ found
      → names found p e b ≡ set_named (unpacked b) p e
  unfolding set_named unpacked
  named-is p e found search = ap (λ f. names f p e b) (sym search)

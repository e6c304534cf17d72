-- A change carried out, in the shapes that the code builds.
-- Proves: closes_any-none, set_past, closed-nothing, closing_actions-nothing, carried-refused, carried-made, carried-noted, carried-quiet,
-- carried-set, carried-take, settled-past, recalled-both, made-few, packed-made, packed-unclosed, made-length,
-- unclosed, written-made, written-refused.
use mathlib.Core.Path.{◌≡◌, refl, sym, ap, ap₂, subst, ◌∙◌}
use mathlib.Core.Bool.{true, false}
use mathlib.Core.List.{List, [], ◌∷◌, ◌++◌, map, append-nil, map-append}
use Prim.Native.Nat.{ℕ, zero, suc, ◌+◌, ◌≤◌}
use native.Mathlib.Omega.{arith}
use lib.ListN.{length, set, length-append, length-map}
use borrow.Author.Tests.{ne_eqb, eqb-true}
use lib.Dec.{eqb}
use Rattle.std.specs.Prelude.{None, Some}
use Rattle.wire.specs.Refusals as refusal
use Rattle.wire.specs.declared.refusal.Refusal.{Refusal}
use Rattle.wire.proofs.Distinct.{refused-some}
use Rattle.record.specs.declared.partner.Partner.{Partner}
use Rattle.record.specs.declared.event.Event.{Event}
use Rattle.wire.proofs.Tests.{true-false, cond-case}
use Rattle.place.specs.Places.{vacant, seat}
use Rattle.place.specs.Table.{request, first_try, place_after}
use Rattle.place.proofs.Holdings.{holding_closed_by}
use Rattle.place.specs.declared.phase.Phase.TheVariants.{Connecting}
use Rattle.place.specs.declared.place.Direction.TheVariants.{Outgoing}
use Rattle.place.specs.declared.place.Holding.{Holding}
use Rattle.place.specs.declared.place.Holding.TheVariants.{Free, Held}
use Rattle.place.specs.declared.place.Place.{Place}
use Rattle.place.specs.declared.turn.Turn.TheVariants.{Stays}
use Rattle.place.specs.declared.turn.Closing.{Closing}
use Rattle.place.specs.declared.turn.Closing.TheVariants.{Every, Sessions, Nothing}
use Rattle.unit.specs.declared.last.Last.{Last}
use Rattle.unit.specs.Lasts.{recalled_by, recalled}
use Rattle.unit.specs.States.{place_count, nowhere}
use Rattle.unit.specs.Steps.{Outcome, refused_at, done, act, actions_in, with_train, with_marks, with_places}
use Rattle.unit.specs.Steps.{closed, closing_actions, close_places, taken_in, step, set_at}
use Rattle.unit.specs.OnRecords.{written}
use Rattle.unit.specs.Forms.{most_actions, listed, packed, stepped}
use Rattle.unit.specs.Changes.{push_all, given, sending, noted, closes_any, settled, made, carried, sent_behind, Appended}
use Rattle.unit.specs.declared.state.Train.{Train}
use Rattle.unit.specs.declared.state.Marks.{Marks}
use Rattle.unit.specs.declared.state.State.{State}
use Rattle.unit.specs.declared.search.Standing.{Standing}
use Rattle.unit.specs.declared.answer.Action.{Action}
use Rattle.unit.specs.declared.answer.Actions.{Actions}
use Rattle.unit.specs.declared.answer.Answer.{Answer}
use Rattle.unit.specs.declared.answer.Stepped.{Stepped}
use Rattle.unit.specs.declared.change.Change.{Change}
use Rattle.unit.proofs.Weights.{length-closed}
use Rattle.unit.proofs.Few.{step-few}
use Rattle.unit.proofs.Rules.{send-listed}
use Rattle.unit.proofs.Written.{written_none}

not-closed : (k : Holding) → holding_closed_by Nothing k ≡ Stays
not-closed Free = refl
not-closed (Held d ph p) = refl

silent : (k : Holding) → actions_in k (holding_closed_by Nothing k) ≡ []
silent Free = refl
silent (Held d ph p) = refl

pub closes_any-none : (which : Closing) → closes_any which ≡ false → which ≡ Nothing
closes_any-none Every h = true-false true refl h
closes_any-none Sessions h = true-false true refl h
closes_any-none Nothing h = refl

-- where nothing is due, nothing is closed
pub closed-nothing : (ps : List Place) → closed Nothing ps ≡ ps
unfolding closed
closed-nothing [] = refl
closed-nothing (p ∷ ps) = ap₂ ◌∷◌ (ap (place_after p) (not-closed p.holding)) (closed-nothing ps)

pub closing_actions-nothing : (ps : List Place) → closing_actions Nothing ps ≡ []
unfolding closing_actions
closing_actions-nothing [] = refl
closing_actions-nothing (p ∷ ps) = ap₂ ◌++◌ (silent p.holding) (closing_actions-nothing ps)

-- 0 gives no action, and no action is no 159
recalled-given : (last : Last) (p : Partner) (number : ℕ)
    → recalled last (map (act p) (given number)) ≡ recalled_by last (act p number)
unfolding recalled given
recalled-given last p number =
    cond-case (λ ks. recalled last (map (act p) ks) ≡ recalled_by last (act p number)) (eqb number 0) [] (number ∷ [])
    (λ none. ap (λ k. recalled_by last (act p k)) (sym (eqb-true number 0 none)))
    (λ some. refl)

recalled-append : (last : Last) (acts more : List Action) → recalled last (acts ++ more) ≡ recalled (recalled last acts) more
unfolding recalled
recalled-append last [] more = refl
recalled-append last (a ∷ acts) more = recalled-append (recalled_by last a) acts more

-- what is known after two numbers
pub recalled-both : (last : Last) (p : Partner) (f g : ℕ)
    → recalled last (map (act p) (given f ++ given g)) ≡ recalled_by (recalled_by last (act p f)) (act p g)
recalled-both last p f g =
    ap (recalled last) (map-append (act p) (given f) (given g))
    ∙ recalled-append last (map (act p) (given f)) (map (act p) (given g))
    ∙ recalled-given (recalled last (map (act p) (given f))) p g
    ∙ ap (λ l. recalled_by l (act p g)) (recalled-given last p f)

pub set_past : (ps : List Place) (i : ℕ) (p : Place) → length ps ≤ i → set ps i p ≡ ps
set_past [] i p above = refl
set_past (q ∷ ps) zero p above = absurd (omega arith)
set_past (q ∷ ps) (suc i) p above = ap (◌∷◌ q) (set_past ps i p (omega arith))

module _ (s : State) where
  -- a change that is refused: the state as it is, and where the partner stands
  pub carried-refused : (c : Change) (r : Refusal) → c.refusal ≡ Some r → carried s c ≡ refused_at (refusal.number r) c.standing s
  unfolding carried
  carried-refused c r is = simp (is, ne_eqb (refusal.number r) refusal.accepted (λ none. omega (arith, refused-some r)))

  -- one that is accepted
  pub carried-made : (c : Change) → c.refusal ≡ None → carried s c ≡ made s c
  unfolding carried
  carried-made c accepted = simp accepted

  module _ (four : length s.places ≡ place_count) (t : Train) (m : Marks) (w : Standing) where
    -- a change that sets no place: the closings alone
    pub carried-noted : (which : Closing)
        → carried s (noted None t m which w s.last)
        ≡ done (with_places (with_marks (with_train s t) m) (closed which s.places)) (closing_actions which s.places)
    unfolding carried made settled noted given
    carried-noted which =
        let past : length (closed which s.places) ≤ place_count = rw (length-closed which s.places) (omega (arith, four)) in
        λ i.
        done (with_places (with_marks (with_train s t) m) (set_past (closed which s.places) place_count vacant past i))
        (append-nil (closing_actions which s.places) i)

    -- and with no closing: the train and the marks alone
    pub carried-quiet : carried s (noted None t m Nothing w s.last) ≡ done (with_marks (with_train s t) m) []
    carried-quiet =
        carried-noted Nothing
        ∙ (λ i. done (with_places (with_marks (with_train s t) m) (closed-nothing s.places i)) (closing_actions-nothing s.places i))

  -- one place set, none closed
  pub carried-set : (at : ℕ) (place : Place) (p : Partner) (f g : ℕ) (w : Standing) (known last : Last)
      → known ≡ recalled_by s.last (act p f)
      → last ≡ recalled_by known (act p g)
      → carried s (record {
        refusal = None;
        train = s.train;
        marks = s.marks;
        which = Nothing;
        at = at;
        place = place;
        partner = p;
        first = f;
        second = g;
        standing = w;
        last = last;
      })
      ≡ set_at s at place (map (act p) (given f ++ given g))
  unfolding carried made settled
  carried-set at place p f g w known last first second =
      let acts = map (act p) (given f ++ given g) in
      let told = second ∙ ap (λ l. recalled_by l (act p g)) first ∙ sym (recalled-both s.last p f g) in
      λ i.
      done
      (record {
        limits = s.limits;
        train = s.train;
        marks = s.marks;
        places = set (closed-nothing s.places i) at place;
        last = told i;
      })
      (closing_actions-nothing s.places i ++ acts)

  -- a partner taken in after the closings
  pub carried-take : (m : Marks) (which : Closing) (at : ℕ) (p : Partner) (w : Standing)
      → carried s (record {
        refusal = None;
        train = s.train;
        marks = m;
        which = which;
        at = at;
        place = seat Outgoing (Connecting first_try) p;
        partner = p;
        first = request;
        second = 0;
        standing = w;
        last = s.last;
      })
      ≡ taken_in (close_places which (with_marks s m)) at p
  unfolding carried made settled given
  carried-take m which at p w = refl

  module _ (c : Change) where
    -- past the last place none is set
    pub settled-past :
        length s.places ≤ c.at
        → ◌≡◌ {A = State}
        (record { limits = s.limits; train = c.train; marks = c.marks; places = s.places; last = c.last })
        (settled s c)
    unfolding settled
    settled-past above =
        let none = sym (set_past s.places c.at c.place above) in
        λ i. record { limits = s.limits; train = c.train; marks = c.marks; places = none i; last = c.last }

    -- a change that is a step has at most four actions
    pub made-few : (four : length s.places ≡ place_count) (e : Event)
        → made s c ≡ step s e
        → length (made s c).actions ≤ most_actions
    made-few four e is = subst (λ o. length o.actions ≤ most_actions) (sym is) (step-few s four e)

    -- the code makes it: the closings, the place, the actions
    module _ (few : length (made s c).actions ≤ most_actions) (r : Answer) (next : State) (sent : Actions)
        (answer : (acts : List Action) → sent ≡ listed acts → r ≡ packed (done next acts)) where
      pub packed-made :
          next ≡ settled (with_places s (closed c.which s.places)) c
          → sent ≡ push_all (listed (closing_actions c.which s.places)) c.partner (given c.first ++ given c.second)
          → r ≡ packed (made s c)
      unfolding made
      packed-made state pushes =
          let acts = closing_actions c.which s.places ++ sending c in
          let own = given c.first ++ given c.second in
          let long = length-append (closing_actions c.which s.places) (sending c) in
          let same = length-map own (act c.partner) in
          answer acts
          (pushes ∙ send-listed (closing_actions c.which s.places) c.partner own (omega (arith, few, long, same)))
          ∙ ap (λ t. packed (done t acts)) state

      -- with no closing, on the state as it is
      pub packed-unclosed :
          closes_any c.which ≡ false
          → next ≡ settled s c
          → sent ≡ push_all (listed []) c.partner (given c.first ++ given c.second)
          → r ≡ packed (made s c)
      packed-unclosed nothing-closed state pushes =
          let none = closes_any-none c.which nothing-closed in
          let unclosed = ap (λ w. closed w s.places) none ∙ closed-nothing s.places in
          let unsent = ap (λ w. closing_actions w s.places) none ∙ closing_actions-nothing s.places in
          packed-made
          (state ∙ ap (λ ps. settled (with_places s ps) c) (sym unclosed))
          (pushes ∙ ap (λ acts. push_all (listed acts) c.partner (given c.first ++ given c.second)) (sym unsent))

-- the code makes it in the buffer: the closings, then the place and the last actions
module _ (s : State) (c : Change) where
  pub made-length : length (made s c).actions ≡ length (closing_actions c.which s.places) + length (sending c)
  unfolding made
  made-length = length-append (closing_actions c.which s.places) (sending c)

  -- where nothing is closed
  pub unclosed : (buffer : List ℕ)
      → closes_any c.which ≡ false
      → (◌≡◌ {A = State} s (with_places s (closed c.which s.places)))
      × (0 ≡ length (closing_actions c.which s.places))
      × (buffer ≡ written (closing_actions c.which s.places) buffer)
  unclosed buffer nothing-closed =
      let none = closes_any-none c.which nothing-closed in
      let unsent = ap (λ w. closing_actions w s.places) none ∙ closing_actions-nothing s.places in (
        ap (with_places s) (sym (ap (λ w. closed w s.places) none ∙ closed-nothing s.places)),
        sym (ap length unsent),
        sym (ap (λ acts. written acts buffer) unsent ∙ written_none buffer),
      )

  pub written-made : (next : State) (n : ℕ) (r : Stepped) (before between after : List ℕ)
      → next ≡ with_places s (closed c.which s.places)
      → n ≡ length (closing_actions c.which s.places)
      → between ≡ written (closing_actions c.which s.places) before
      → (r ≡ sent_behind n (settled next c) (sending c)) × Appended between after n (sending c)
      → (r ≡ stepped (made s c)) × (after ≡ written (made s c).actions before)
  unfolding stepped made
  written-made next n r before between after state count wrote sent =
      let acts = closing_actions c.which s.places in
      let total : n + length (sending c) ≡ length (acts ++ sending c) = omega (arith, count, made-length) in (
        sent.0 ∙ (λ i. record { code = refusal.accepted; state = settled (state i) c; count = total i; standing = nowhere }),
        sent.1 acts before count wrote,
      )

-- a refusal leaves the buffer as it is
pub written-refused : (o : Outcome) (r : Stepped) (code : ℕ) (w v : Standing) (s : State) (buffer : List ℕ)
    → r ≡ stepped (refused_at code w s)
    → w ≡ v
    → o ≡ refused_at code v s
    → (r ≡ stepped o) × (buffer ≡ written o.actions buffer)
written-refused o r code w v s buffer is stands refusing = (
  is ∙ ap (λ x. stepped (refused_at code x s)) stands ∙ ap stepped (sym refusing),
  sym (ap (λ x. written x.actions buffer) refusing ∙ written_none buffer),
)

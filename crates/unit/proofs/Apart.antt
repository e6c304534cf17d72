-- Two events that name different partners do not see each other: what an event makes of its partner's place stays the same when another
-- partner's place was changed before it.
-- Defines: Put, put, Own, Seen, Answers, Alike.
-- Proves: own-seen, put-comm, named-follows, named-rest, seen_here, second_alike, quiet-last, other-sym, either-places, either-last,
-- named-recalled.
use mathlib.Core.Path.{◌≡◌, refl, sym, ap, ap₂, subst, ◌∙◌}
use mathlib.Core.Bool.{Bool, true, false, cond, ◌||◌}
use mathlib.Core.List.{List, [], ◌∷◌, map}
use Prim.Native.Nat.{ℕ, zero, suc, ◌+◌, ◌≤◌, ◌<◌}
use native.Mathlib.Omega.{arith}
use lib.Dec.{ltb}
use lib.ListN.{length, get_or, set}
use lib.Seq.{set_comm, get_or-set_other}
use Rattle.record.specs.Partners.{same_partner}
use Rattle.record.specs.declared.partner.Partner.{Partner}
use Rattle.record.specs.declared.event.PartnerEvent.{PartnerEvent}
use Rattle.record.specs.declared.event.PartnerEvent.TheVariants.{Drop, Up, Loss, Timeout, Version, Ended}
use Rattle.record.specs.declared.event.Event.TheVariants.{Named}
use Rattle.record.proofs.Partners.{same_refl, same-eq}
use Rattle.wire.specs.Refusals as refusal
use borrow.Table.Steps.{cases}
use Rattle.wire.proofs.Tests.{true-false, cond-case, cond-holds}
use Rattle.place.specs.Places.{tries, vacant, is_free, held_phase, holds}
use Rattle.place.specs.Table.{request, initiate, terminate, one_more, again, turn, takes, numbers, place_after}
use Rattle.place.proofs.Holdings.{holds_in}
use Rattle.place.proofs.Turns.{after_holds}
use Rattle.place.specs.declared.phase.Phase.{Phase}
use Rattle.place.specs.declared.place.Holding.{Holding}
use Rattle.place.specs.declared.place.Holding.TheVariants.{Free, Held}
use Rattle.place.specs.declared.limits.Limits.{Limits}
use Rattle.place.specs.declared.phase.Phase.TheVariants.{Connecting, Contacting, Open, Lost, Ending}
use Rattle.place.specs.declared.turn.Turn.TheVariants.{Released, Sends}
use Rattle.place.specs.declared.place.Place.{Place}
use Rattle.place.specs.declared.turn.Turn.{Turn}
use Rattle.unit.specs.Lasts.{to_rbc, recalled}
use Rattle.unit.specs.declared.last.Last.{Last}
use Rattle.unit.specs.declared.last.Last.TheVariants.{Known}
use Rattle.unit.specs.Kept.{count, is_version}
use Rattle.wire.specs.Bytes.{as_bit}
use Rattle.unit.specs.States.{some, first, seek, nowhere, standing}
use Rattle.unit.specs.Steps.{Outcome, refused_at, act, turned_at, step}
use Rattle.unit.specs.Searching.{turned, named_at}
use Rattle.unit.specs.declared.state.State.{State}
use Rattle.unit.specs.declared.search.Found.{Found}
use Rattle.unit.specs.declared.search.Found.TheVariants.{At, Vacant, Full}
use Rattle.unit.proofs.Searches.{found_ok}
use Rattle.unit.proofs.Recalled.{recalled-none, step-last}
use Rattle.unit.proofs.ByFound.{named-found}

-- what an event does to the places: nothing, or one of them is set
pub data Put : Type 0 where
  keep : Put
  store : ℕ → Place → Put

abbrev pub put : Put → List Place → List Place
put keep ps = ps
put (store i x) ps = set ps i x

-- the place that is set is the partner's, and nobody comes in
abbrev pub Own : Partner → List Place → Put → Type 0
Own p ps keep = Unit
Own p ps (store i x) =
    (i < length ps)
    × (holds p (get_or ps i vacant) ≡ true)
    × ((q : Partner) → holds q x ≡ true → holds q (get_or ps i vacant) ≡ true)

-- a partner is found alike in two rows of places
pub record Seen (q : Partner) (ps qs : List Place) : Type 0 where
  pub there : some (holds q) qs ≡ some (holds q) ps
  pub lowest : first (holds q) qs ≡ first (holds q) ps
  pub same : (j : ℕ) → holds q (get_or ps j vacant) ≡ true → get_or qs j vacant ≡ get_or ps j vacant

-- a store where the test says the same changes no search
some-set : (test : Place → Bool) (ps : List Place) (i : ℕ) (x : Place)
    → test x ≡ test (get_or ps i vacant)
    → some test (set ps i x) ≡ some test ps
unfolding some
some-set test [] i x same = refl
some-set test (p ∷ ps) zero x same = ap (λ b. b || some test ps) same
some-set test (p ∷ ps) (suc i) x same = ap (λ b. test p || b) (some-set test ps i x same)

first-set : (test : Place → Bool) (ps : List Place) (i : ℕ) (x : Place)
    → test x ≡ test (get_or ps i vacant)
    → first test (set ps i x) ≡ first test ps
unfolding first
first-set test [] i x same = refl
first-set test (p ∷ ps) zero x same = ap (λ b. cond b 0 (suc (first test ps))) same
first-set test (p ∷ ps) (suc i) x same = ap (λ k. cond (test p) 0 (suc k)) (first-set test ps i x same)

-- two partners of one place are the same
one-partner : (p q : Partner) (k : Holding) → holds_in p k ≡ true → holds_in q k ≡ true → same_partner p q ≡ true
one-partner p q Free h g = true-false false h refl
one-partner p q (Held d ph r) h g = ap (same_partner p) (same-eq q r g) ∙ h

module _ (p q : Partner) (other : same_partner p q ≡ false) where
  -- a place of one is not the other's
  not-held : (k : Holding) → holds_in p k ≡ true → holds_in q k ≡ false
  not-held k h = cases (holds_in q k) (λ is. true-false (same_partner p q) (one-partner p q k h is) other) (λ none. none)

  -- what the one sets, the other does not see
  pub own-seen : (ps : List Place) (w : Put) → Own p ps w → Seen q ps (put w ps)
  own-seen ps keep own = record { there = refl; lowest = refl; same = λ j held. refl }
  own-seen ps (store i x) own =
      record {
        there = some-set (holds q) ps i x alike;
        lowest = first-set (holds q) ps i x alike;
        same = λ j held. get_or-set_other ps i j x vacant (λ at. apart j held at);
      }
    where
      before : holds q (get_or ps i vacant) ≡ false
      before = not-held (get_or ps i vacant).holding own.1

      after : holds q x ≡ false
      after = cases (holds q x) (λ is. true-false (holds q (get_or ps i vacant)) (own.2 q is) before) (λ none. none)

      alike : holds q x ≡ holds q (get_or ps i vacant)
      alike = after ∙ sym before

      apart : (j : ℕ) → holds q (get_or ps j vacant) ≡ true → j ≡ i → ⊥
      apart j held at = true-false (holds q (get_or ps i vacant)) (subst (λ k. holds q (get_or ps k vacant) ≡ true) at held) before

  -- and the two are set in either order
  pub put-comm : (ps : List Place) (v w : Put) → Own p ps v → Own q ps w → put w (put v ps) ≡ put v (put w ps)
  put-comm ps keep w own theirs = refl
  put-comm ps (store i x) keep own theirs = refl
  put-comm ps (store i x) (store j y) own theirs =
      set_comm ps i j x y
      (λ at.
      true-false (holds q (get_or ps i vacant)) (subst (λ k. holds q (get_or ps k vacant) ≡ true) (sym at) theirs.1)
      (not-held (get_or ps i vacant).holding own.1))

-- the same number, place and phase, and actions
abbrev pub Answers : Outcome → Outcome → Type 0
Answers o u = (o.code ≡ u.code) × (o.standing ≡ u.standing) × (o.actions ≡ u.actions)

-- what an event makes of two states that show its partner alike: it sets the same, and answers the same
pub record Alike (s t : State) (p : Partner) (o u : Outcome) : Type 0 where
  pub what : Put
  pub own : Own p s.places what
  pub here : o.state.places ≡ put what s.places
  pub there : u.state.places ≡ put what t.places
  pub answers : Answers u o

-- where no place was found, the answer is refusal 6
abbrev Nobody : Found → Type 0
Nobody (At i ph) = ⊥
Nobody (Vacant i) = Unit
Nobody Full = Unit

none_named : (s : State) (p : Partner) (e : PartnerEvent) (found : Found)
    → Nobody found
    → named_at s p e found ≡ refused_at refusal.has_none nowhere s
none_named s p e (At i ph) none = absurd none
none_named s p e (Vacant i) none = refl
none_named s p e Full none = refl

-- what the search answers, by whether the partner has a place
unplaced : List Place → Found
unplaced ps = cond (some is_free ps) (Vacant (first is_free ps)) Full

seek-by : (p : Partner) (ps : List Place) (b : Bool)
    → some (holds p) ps ≡ b
    → seek p ps ≡ cond b (At (first (holds p) ps) (held_phase (get_or ps (first (holds p) ps) vacant))) (unplaced ps)
unfolding seek unplaced
seek-by p ps b is = ap (λ c. cond c (At (first (holds p) ps) (held_phase (get_or ps (first (holds p) ps) vacant))) (unplaced ps)) is

unplaced-nobody : (ps : List Place) → Nobody (unplaced ps)
unfolding unplaced
unplaced-nobody ps = cond-case Nobody (some is_free ps) (Vacant (first is_free ps)) Full (λ b. tt) (λ b. tt)

module _ (s t : State) (p : Partner) (e : PartnerEvent) (limits : t.limits ≡ s.limits) (seen : Seen p s.places t.places) where
  -- no place in the one, none in the other
  nobody-alike : (f g : Found) → Nobody f → Nobody g → Alike s t p (named_at s p e f) (named_at t p e g)
  nobody-alike f g none neither =
      subst (λ o. Alike s t p o (named_at t p e g)) (sym (none_named s p e f none))
      (subst (Alike s t p (refused_at refusal.has_none nowhere s)) (sym (none_named t p e g neither))
      (record { what = keep; own = tt; here = refl; there = refl; answers = (refl, refl, refl) }))

  -- the same place, in the same phase
  place-alike : (i : ℕ) (ph : Phase) (u : Turn)
      → i < length s.places
      → holds p (get_or s.places i vacant) ≡ true
      → Alike s t p (turned s i ph p u) (turned t i ph p u)
  place-alike i ph u below held = by (takes u)
    where
      by : (b : Bool)
          → Alike s t p (cond b (turned_at s i p u) (refused_at refusal.not_taken (standing (At i ph)) s))
          (cond b (turned_at t i p u) (refused_at refusal.not_taken (standing (At i ph)) t))
      by true =
          record {
            what = store i (place_after (get_or s.places i vacant) u);
            own = (below, held, λ q. after_holds q (get_or s.places i vacant) u);
            here = refl;
            there = ap (λ x. set t.places i (place_after x u)) (seen.same i held);
            answers = (refl, refl, refl);
          }
      by false = record { what = keep; own = tt; here = refl; there = refl; answers = (refl, refl, refl) }

  found_alike : (b : Bool)
      → some (holds p) s.places ≡ b
      → Alike s t p (named_at s p e (seek p s.places)) (named_at t p e (seek p t.places))
  found_alike true is =
      let i = first (holds p) s.places in
      let ph = held_phase (get_or s.places i vacant) in
      let mine = seek-by p s.places true is in
      let theirs = seek-by p t.places true (seen.there ∙ is) in
      let at = found_ok p s.places (At i ph) mine in
      let same : seek p t.places ≡ At i ph =
      theirs
      ∙ ap (λ k. At k (held_phase (get_or t.places k vacant))) seen.lowest
      ∙ ap (λ x. At i (held_phase x)) (seen.same i at.1) in
      subst (λ f. Alike s t p (named_at s p e f) (named_at t p e (seek p t.places))) (sym mine)
      (subst (λ f. Alike s t p (named_at s p e (At i ph)) (named_at t p e f)) (sym same)
      (subst (λ l. Alike s t p (named_at s p e (At i ph)) (turned t i ph p (turn l ph e))) (sym limits)
      (place-alike i ph (turn s.limits ph e) at.0 at.1)))
  found_alike false is =
      let mine = seek-by p s.places false is in
      let theirs = seek-by p t.places false (seen.there ∙ is) in
      nobody-alike (seek p s.places) (seek p t.places) (subst Nobody (sym mine) (unplaced-nobody s.places))
      (subst Nobody (sym theirs) (unplaced-nobody t.places))

  -- the step on an event that names it
  pub named-follows : Alike s t p (step s (Named p e)) (step t (Named p e))
  named-follows =
      subst (λ o. Alike s t p o (step t (Named p e))) (sym (named-found s p e))
      (subst (Alike s t p (named_at s p e (seek p s.places))) (sym (named-found t p e))
      (found_alike (some (holds p) s.places) refl))

-- such an event leaves the train, the marks and the limits
pub named-rest : (s : State) (p : Partner) (e : PartnerEvent)
    → ((step s (Named p e)).state.train ≡ s.train)
    × ((step s (Named p e)).state.marks ≡ s.marks)
    × ((step s (Named p e)).state.limits ≡ s.limits)
named-rest s p e = subst Kept (sym (named-found s p e)) (by (seek p s.places))
  where
    Kept : Outcome → Type 0
    Kept o = (o.state.train ≡ s.train) × (o.state.marks ≡ s.marks) × (o.state.limits ≡ s.limits)

    by : (f : Found) → Kept (named_at s p e f)
    by (At i ph) =
        cond-holds Kept (takes (turn s.limits ph e)) (turned_at s i p (turn s.limits ph e)) _ (refl, refl, refl) (refl, refl, refl)
    by (Vacant i) = (refl, refl, refl)
    by Full = (refl, refl, refl)

-- and where a partner is seen as it stands, it is seen
pub seen_here : (p : Partner) (ps : List Place) → Seen p ps ps
seen_here p ps = record { there = refl; lowest = refl; same = λ j held. refl }

-- the second of two such events answers what it answers first
pub second_alike : (s : State) (p q : Partner) (e f : PartnerEvent)
    → same_partner p q ≡ false
    → Alike s (step s (Named p e)).state q (step s (Named q f)) (step (step s (Named p e)).state (Named q f))
second_alike s p q e f other =
    let own = named-follows s s p e refl (seen_here p s.places) in
    named-follows s (step s (Named p e)).state q f (named-rest s p e).2
    (subst (Seen q s.places) (sym own.here) (own-seen p q other s.places own.what own.own))

-- a turn that is no answer to message 32 sends no 159
abbrev Quiet : Partner → Last → Turn → Type 0
Quiet p last u = recalled last (map (act p) (numbers u)) ≡ last

quiet-again : (l : Limits) (p : Partner) (last : Last) (number : ℕ) (ph : Phase)
    → Quiet p last (Sends number (one_more ph))
    → Quiet p last (again l number ph)
unfolding recalled
quiet-again l p last number ph sent = cond-holds (Quiet p last) (ltb (tries ph) l.tries) (Sends number (one_more ph)) Released sent refl

quiet-turn : (l : Limits) (p : Partner) (last : Last) (ph : Phase) (e : PartnerEvent)
    → is_version e ≡ false
    → Quiet p last (turn l ph e)
unfolding turn recalled
quiet-turn l p last (Connecting t) Drop h = refl
quiet-turn l p last (Connecting t) Up h = refl
quiet-turn l p last (Connecting t) Loss h = refl
quiet-turn l p last (Connecting t) Timeout h = quiet-again l p last request (Connecting t) refl
quiet-turn l p last (Connecting t) Ended h = refl
quiet-turn l p last (Contacting t) Drop h = refl
quiet-turn l p last (Contacting t) Up h = refl
quiet-turn l p last (Contacting t) Loss h = refl
quiet-turn l p last (Contacting t) Timeout h = quiet-again l p last initiate (Contacting t) refl
quiet-turn l p last (Contacting t) Ended h = refl
quiet-turn l p last Open Drop h = refl
quiet-turn l p last Open Up h = refl
quiet-turn l p last Open Loss h = refl
quiet-turn l p last Open Timeout h = refl
quiet-turn l p last Open Ended h = refl
quiet-turn l p last (Lost t) Drop h = refl
quiet-turn l p last (Lost t) Up h = refl
quiet-turn l p last (Lost t) Loss h = refl
quiet-turn l p last (Lost t) Timeout h = quiet-again l p last request (Lost t) refl
quiet-turn l p last (Lost t) Ended h = refl
quiet-turn l p last (Ending t) Drop h = refl
quiet-turn l p last (Ending t) Up h = refl
quiet-turn l p last (Ending t) Loss h = refl
quiet-turn l p last (Ending t) Timeout h = quiet-again l p last terminate (Ending t) refl
quiet-turn l p last (Ending t) Ended h = refl
quiet-turn l p last ph (Version v) h = true-false true refl h

pub quiet-last : (s : State) (p : Partner) (e : PartnerEvent)
    → is_version e ≡ false
    → (last : Last)
    → recalled last (step s (Named p e)).actions ≡ last
unfolding recalled
quiet-last s p e other last =
    subst (λ (o : Outcome). recalled last o.actions ≡ last) (sym (named-found s p e)) (by (seek p s.places))
  where
    by : (f : Found) → recalled last (named_at s p e f).actions ≡ last
    by (At i ph) =
        cond-holds (λ o. recalled last o.actions ≡ last) (takes (turn s.limits ph e)) (turned_at s i p (turn s.limits ph e)) _
        (quiet-turn s.limits p last ph e other)
        refl
    by (Vacant i) = refl
    by Full = refl

-- two partners differ both ways
pub other-sym : (p q : Partner) → same_partner p q ≡ false → same_partner q p ≡ false
other-sym p q other =
    cases (same_partner q p)
    (λ is. true-false (same_partner p q) (ap (same_partner p) (same-eq q p is) ∙ same_refl p) other)
    (λ is. is)

-- the two events in either order
module _ (s : State) (p q : Partner) (e f : PartnerEvent) (other : same_partner p q ≡ false) where
  -- give the same places
  pub either-places :
      (step (step s (Named p e)).state (Named q f)).state.places ≡ (step (step s (Named q f)).state (Named p e)).state.places
  either-places =
      let mine = second_alike s q p f e (other-sym p q other) in
      let theirs = second_alike s p q e f other in
      theirs.there
      ∙ ap (put theirs.what) mine.here
      ∙ put-comm p q other s.places mine.what theirs.what mine.own theirs.own
      ∙ sym (ap (put mine.what) theirs.here)
      ∙ sym mine.there

  -- and the last known RBC of the later
  pub either-last :
      (step (step s (Named p e)).state (Named q f)).state.last
      ≡ recalled (recalled s.last (step s (Named p e)).actions) (step s (Named q f)).actions
  either-last =
      step-last (step s (Named p e)).state (Named q f)
      ∙ ap₂ recalled (step-last s (Named p e)) (second_alike s p q e f other).answers.2

-- a partner's event that sends a 159 to an RBC makes that partner the last known
sent-recalled : (q : Partner) (sent : List ℕ) (last : Last)
    → 1 ≤ count to_rbc (map (act q) sent)
    → recalled last (map (act q) sent) ≡ Known q.high q.middle q.low
unfolding recalled count
sent-recalled q [] last some = absurd (omega arith)
sent-recalled q (number ∷ sent) last some =
    by (to_rbc (act q number)) (count to_rbc (map (act q) sent)) refl some (λ l. sent-recalled q sent l)
  where
    own : Last
    own = Known q.high q.middle q.low

    by : (b : Bool) (k : ℕ)
        → count to_rbc (map (act q) sent) ≡ k
        → 1 ≤ as_bit b + k
        → ((l : Last) → 1 ≤ k → recalled l (map (act q) sent) ≡ own)
        → recalled (cond b own last) (map (act q) sent) ≡ own
    by b (suc k) is h later = later (cond b own last) (omega arith)
    by true zero is h later = recalled-none own (map (act q) sent) is
    by false zero is h later = absurd (omega arith)

pub named-recalled : (s : State) (q : Partner) (f : PartnerEvent) (last : Last)
    → 1 ≤ count to_rbc (step s (Named q f)).actions
    → recalled last (step s (Named q f)).actions ≡ Known q.high q.middle q.low
unfolding count
named-recalled s q f last = subst Sets (sym (named-found s q f)) (by (seek q s.places))
  where
    Sets : Outcome → Type 0
    Sets o = 1 ≤ count to_rbc o.actions → recalled last o.actions ≡ Known q.high q.middle q.low

    by : (found : Found) → Sets (named_at s q f found)
    by (At i ph) =
        cond-holds Sets (takes (turn s.limits ph f)) (turned_at s i q (turn s.limits ph f)) _
        (sent-recalled q (numbers (turn s.limits ph f)) last)
        (λ some. absurd (omega arith))
    by (Vacant i) = λ some. absurd (omega arith)
    by Full = λ some. absurd (omega arith)

-- An accepted step as one partner sees it: what it is sent, whether it has a place, waits, is served.
-- Proves: place-some, some-has, count-implied, hits-once, hits-split, ordered-line, line-place, line-nobody, core-silent, core-releases,
-- place-account, newcomer-absent, caller-seated, core-none.
use mathlib.Core.Path.{◌≡◌, refl, sym, ap, subst, ◌∙◌}
use mathlib.Core.Bool.{Bool, true, false, cond, ◌&&◌, ◌||◌, not}
use mathlib.Core.Logic.{◌⊎◌, inl, inr}
use mathlib.Core.List.{List, [], ◌∷◌, ◌++◌, map, map-append}
use Prim.Native.Nat.{ℕ, suc, ◌+◌, ◌≤◌}
use native.Mathlib.Omega.{arith}
use lib.Dec.{eqb}
use lib.ListN.{take, drop, take-append-drop}
use borrow.Author.Tests.{eqb-true, eq-eqb}
use Rattle.wire.proofs.Tests.{and_left, and_right, and_both, true-false}
use Rattle.record.specs.Partners.{same_partner}
use Rattle.record.specs.declared.partner.Partner.{Partner}
use Rattle.record.proofs.Partners.{same-eq}
use Rattle.place.specs.Places.{is_free, partner_of, holds}
use Rattle.place.specs.Table.{request, release}
use Rattle.place.specs.declared.place.Holding.{Holding}
use Rattle.place.specs.declared.place.Holding.TheVariants.{Free, Held}
use Rattle.place.specs.declared.place.Place.{Place}
use Rattle.unit.specs.Concerns.{takes_in, action_for, other_for, place_of}
use Rattle.unit.specs.Kept.{here, count}
use Rattle.wire.specs.Bytes.{as_bit}
use Rattle.wire.specs.Sums.{sum}
use Rattle.unit.specs.Standings.{Concern, nobody, order_to, call_of, naming}
use Rattle.unit.specs.States.{some, first}
use Rattle.unit.specs.Steps.{act}
use Rattle.unit.specs.declared.answer.Action.{Action}
use Rattle.unit.proofs.Counts.{count-append, count_same}
use Rattle.unit.proofs.Effects.{Places}
use Rattle.unit.proofs.Few.{busy, once-few}
use Rattle.unit.proofs.Sent.{most_for}
use Rattle.unit.proofs.Searches.{found_ok}
use Rattle.unit.proofs.Seats.{own-places}
use Rattle.history.proofs.Counted.{and-true}
use Rattle.shunter.specs.Queues.{among, distinct, place_at}
use Rattle.shunter.specs.Shunting.{kept, waits_for, own_request, held_back, newcomers, line_up, first_requests}
use Rattle.shunter.specs.ShunterSums.{request_to, release_to, call_by}
use Rattle.shunter.specs.ShunterSums.{order_of}
use Rattle.shunter.proofs.TwoTests.{fails-then, or-either, or-first, or-second, or-none, and_none}
use Rattle.shunter.proofs.InRow.{among-append, among-kept, kept-among}
use Rattle.shunter.proofs.Modems.{holds-weigh, one_place}
use Rattle.shunter.proofs.Ready.{waits-some, some-waits}
use Rattle.shunter.proofs.LinedUp.{Moved, still-same, stayers, joins-lowest}
use Rattle.shunter.proofs.Accounts.{count_kept, count-plus, partner-kept, holds-held}
use Rattle.shunter.proofs.Balance.{EndsIn, Acted, own-counted, own-other}

-- a partner with one place at most has one, or none
some-weigh : (test : Place → Bool) (ps : List Place) → sum (here test) ps ≤ 1 → sum (here test) ps ≡ as_bit (some test ps)
unfolding sum some
some-weigh test [] few = refl
some-weigh test (p ∷ ps) few = by (test p) few (some-weigh test ps)
  where
    by : (b : Bool)
        → as_bit b + sum (here test) ps ≤ 1
        → (sum (here test) ps ≤ 1 → sum (here test) ps ≡ as_bit (some test ps))
        → as_bit b + sum (here test) ps ≡ as_bit (b || some test ps)
    by true few rest = omega arith
    by false few rest =
        let own = rest (omega arith) in
        omega arith

-- a partner that has a place has some place
pub place-some : (p : Partner) (ps : List Place) (i : ℕ)
    → sum (here (holds p)) ps ≤ 1
    → holds p (place_at ps i) ≡ true
    → some (holds p) ps ≡ true
place-some p ps i few has = by (some (holds p) ps) refl
  where
    by : (b : Bool) → some (holds p) ps ≡ b → b ≡ true
    by true is = refl
    by false is =
        let weight = some-weigh (holds p) ps few in
        let none = ap as_bit is in
        let own = holds-weigh p ps i has in
        absurd (omega arith)

-- one that has some place has one
pub some-has : (p : Partner) (ps : List Place)
    → some (holds p) ps ≡ true
    → (P : Type 0)
    → ((i : ℕ) → holds p (place_at ps i) ≡ true → P)
    → P
unfolding some
some-has p [] has P then = true-false false has refl
some-has p (x ∷ ps) has P then =
    either (λ more. some-has p ps more P (λ i own. then (suc i) own)) (or-either (holds p x) (some (holds p) ps) has)
  where
    either : (some (holds p) ps ≡ true → P) → (holds p x ≡ true) ⊎ (some (holds p) ps ≡ true) → P
    either rest (inl own) = then 0 own
    either rest (inr more) = rest more

-- fewer pass a test that implies another
pub count-implied : (t u : Action → Bool)
    → ((a : Action) → t a ≡ true → u a ≡ true)
    → (acts : List Action)
    → count t acts ≤ count u acts
unfolding count
count-implied t u more [] = omega arith
count-implied t u more (a ∷ acts) =
    let own = by (t a) (u a) (more a) in
    let rest = count-implied t u more acts in
    omega arith
  where
    by : (x y : Bool) → (x ≡ true → y ≡ true) → as_bit x ≤ as_bit y
    by true y more =
        let one = ap as_bit (more refl) in
        omega arith
    by false true more = omega arith
    by false false more = omega arith

module _ (p : Partner) (after : List Place) (one : sum (here (holds p)) after ≤ 1) where
  -- the first request of a held place is its partner's
  request-own : (place : Place) → busy place ≡ true → (same_partner p (partner_of place) && true) ≡ holds p place
  request-own place own = by place.holding own
    where
      by : (k : Holding) → busy (record { holding = k }) ≡ true
          → (same_partner p (partner_of (record { holding = k })) && true) ≡ holds p (record { holding = k })
      by Free own = true-false false own refl
      by (Held d ph q) own = and-true (same_partner p q)

  -- a partner that is one of the served is sent one 21
  pub hits-once : (js : List ℕ)
      → ((j : ℕ) → among j js ≡ true → busy (place_at after j) ≡ true)
      → distinct js ≡ true
      → count (request_to p) (first_requests after js) ≡ as_bit (waits_for after js p)
  unfolding count waits_for among distinct
  hits-once [] own apart = refl
  hits-once (j ∷ js) own apart =
      let rest = hits-once js (λ k h. own k (or-second (eqb k j) (among k js) h)) (and_right (not (among j js)) (distinct js) apart) in
      let first = ap as_bit (request-own (place_at after j) (own j (or-first (eqb j j) (among j js) (eq-eqb j j refl)))) in
      let both = by (holds p (place_at after j)) (waits_for after js p) refl refl in
      omega arith
    where
      by : (a b : Bool) → holds p (place_at after j) ≡ a → waits_for after js p ≡ b → as_bit a + as_bit b ≡ as_bit (a || b)
      by true true has more =
          waits-some after p js more (2 ≡ 1)
          (λ k waits had.
          true-false (not (among j js)) (and_left (not (among j js)) (distinct js) apart)
          (ap not (ap (λ i. among i js) (one_place p after j k one has had) ∙ waits)))
      by true false has more = refl
      by false b has more = omega arith

-- the first requests of two rows
pub hits-split : (p : Partner) (after : List Place) (n : ℕ) (js : List ℕ)
    → count (request_to p) (first_requests after (take n js)) + count (request_to p) (first_requests after (drop n js))
    ≡ count (request_to p) (first_requests after js)
hits-split p after n js =
    let f : ℕ → Action = λ i. act (partner_of (place_at after i)) request in
    sym (count-append (request_to p) (map f (take n js)) (map f (drop n js)))
    ∙ ap (count (request_to p)) (sym (map-append f (take n js) (drop n js)) ∙ ap (map f) (take-append-drop n js))

module _ (p : Partner) (c : Concern) (before after : List Place) (is : List ℕ) (acts : List Action) (step : Moved c before after is)
    (acted : Acted c before after is acts)
    (one-after : sum (here (holds p)) after ≤ 1) where
  abbrev waits : Partner → Bool
  waits = waits_for before is

  abbrev lined : List ℕ
  lined = line_up before is c after

  abbrev out : List Action
  out = kept (λ a. not (held_back waits c a)) acts

  -- one in the line has a place
  line-some : waits_for after lined p ≡ true → some (holds p) after ≡ true
  line-some mine = waits-some after p lined mine (some (holds p) after ≡ true) (λ i one has. place-some p after i one-after has)

  -- a partner that waited is in the line exactly where it still has its place
  some-line : waits p ≡ true → some (holds p) after ≡ true → waits_for after lined p ≡ true
  unfolding line_up
  some-line mine has =
      waits-some before p is mine (waits_for after lined p ≡ true)
      (λ i one had.
      some-has p after has (waits_for after lined p ≡ true)
      (λ k now.
      let same = one_place p before k i (step.one p) (partner-kept c before after is step p k i had now) had in
      let waiting = ap (λ j. among j is) same ∙ one in
      let still = kept-among (λ j. not (is_free (place_at after j))) k is waiting (holds-held p (place_at after k) now) in
      some-waits after p k lined
      (among-append k (stayers c before after is step) (newcomers before c) ∙ or-first (among k (stayers c before after is step)) _ still)
      now))

  -- the newly ordered one is in the line
  pub ordered-line : order_of p c ≡ true → waits_for after lined p ≡ true
  unfolding line_up among
  ordered-line own = by c step.changed own (stayers c before after is step)
    where
      by : (c : Concern)
          → Places c before after
          → order_of p c ≡ true
          → (old : List ℕ)
          → waits_for after (old ++ newcomers before c) p ≡ true
      by nobody changed own old = true-false false own refl
      by (order_to q) changed own old =
          let i = first is_free before in
          let at = joins-lowest (order_to q) q _ before after changed in
          let has : holds p (place_at after i) ≡ true =
          ap (λ j. holds p (place_at after j)) at ∙ ap (holds p) changed.seated ∙ own in
          some-waits after p i (old ++ (i ∷ []))
          (among-append i old (i ∷ []) ∙ or-second (among i old) (eqb i i || false) (or-first (eqb i i) false (eq-eqb i i refl)))
          has
      by (call_of q) changed own old = true-false false own refl
      by (naming q e) changed own old = true-false false own refl

  -- and nobody else is
  line-own : waits_for after lined p ≡ true → (waits p || order_of p c) ≡ true
  unfolding line_up among
  line-own mine =
      waits-some after p lined mine ((waits p || order_of p c) ≡ true)
      (λ i one has.
      either i has
      (or-either (among i (stayers c before after is step)) (among i (newcomers before c))
      (sym (among-append i (stayers c before after is step) (newcomers before c)) ∙ one)))
    where
      joined : (c : Concern) (i : ℕ)
          → Places c before after
          → among i (newcomers before c) ≡ true
          → holds p (place_at after i) ≡ true
          → order_of p c ≡ true
      joined nobody i changed one has = true-false false one refl
      joined (order_to q) i changed one has =
          let at = joins-lowest (order_to q) q _ before after changed in
          let same = eqb-true i (first is_free before) (sym (or-none (eqb i (first is_free before))) ∙ one) ∙ at in
          sym (ap (holds p) changed.seated) ∙ sym (ap (λ j. holds p (place_at after j)) same) ∙ has
      joined (call_of q) i changed one has = true-false false one refl
      joined (naming q e) i changed one has = true-false false one refl

      either : (i : ℕ)
          → holds p (place_at after i) ≡ true
          → (among i (stayers c before after is step) ≡ true) ⊎ (among i (newcomers before c) ≡ true)
          → (waits p || order_of p c) ≡ true
      either i has (inl old) =
          let both = among-kept (λ j. not (is_free (place_at after j))) i is old in
          let same = still-same c before after is step i both.0 both.1 in
          or-first (waits p) (order_of p c) (some-waits before p i is both.0 (sym (ap (holds p) same) ∙ has))
      either i has (inr new) = or-second (waits p) (order_of p c) (joined c i step.changed new has)

  -- in the line exactly where the partner waited or is ordered, and has a place
  pub line-place : (waits p || order_of p c) ≡ true → waits_for after lined p ≡ some (holds p) after
  line-place mine = by (waits_for after lined p) (some (holds p) after) refl refl (or-either (waits p) (order_of p c) mine)
    where
      by : (a b : Bool)
          → waits_for after lined p ≡ a
          → some (holds p) after ≡ b
          → (waits p ≡ true) ⊎ (order_of p c ≡ true)
          → a ≡ b
      by true true lines has own = refl
      by true false lines has own = sym (line-some lines) ∙ has
      by false true lines has (inl own) = sym lines ∙ some-line own has
      by false true lines has (inr own) = sym lines ∙ ordered-line own
      by false false lines has own = refl

  -- and not in it where it neither waited nor is ordered
  pub line-nobody : (waits p || order_of p c) ≡ false → waits_for after lined p ≡ false
  line-nobody other = fails-then (waits_for after lined p) (λ mine. true-false (waits p || order_of p c) (line-own mine) other)

  -- of the core's actions none goes out to a partner that waited, or is ordered
  pub core-silent : (waits p || order_of p c) ≡ true → count (action_for (same_partner p)) out ≡ 0
  unfolding count
  core-silent mine = by (or-either (waits p) (order_of p c) mine)
    where
      by : (waits p ≡ true) ⊎ (order_of p c ≡ true) → count (action_for (same_partner p)) out ≡ 0
      by (inl own) =
          let kept-ones = count_kept (λ a. not (held_back waits c a)) (action_for (same_partner p)) acts in
          let few =
          count-implied (λ a. not (held_back waits c a) && action_for (same_partner p) a) (other_for waits)
          (λ a h.
          let parts = and_right (not (held_back waits c a)) (same_partner p a.partner) h in
          let theirs = subst (λ q. waits q ≡ true) (same-eq p a.partner parts) own in
          other a (own_request c a) theirs (and_left (not (held_back waits c a)) (same_partner p a.partner) h))
          acts in
          let quiet = acted.quiet in
          omega arith
        where
          other : (a : Action) (b : Bool)
              → waits a.partner ≡ true
              → not (b || (waits a.partner && eqb a.number release)) ≡ true
              → (waits a.partner && not (eqb a.number release)) ≡ true
          other a true theirs h = true-false false h refl
          other a false theirs h =
              and_both (waits a.partner) (not (eqb a.number release)) theirs
              (ap (λ w. not (w && eqb a.number release)) (sym theirs) ∙ h)
      by (inr own) = ordered c acted.ends own
        where
          split : (x y : Bool) → as_bit (not x && y) + as_bit (x && y) ≡ as_bit y
          split true y = omega arith
          split false y = omega arith

          ordered : (d : Concern)
              → EndsIn d acts
              → order_of p d ≡ true
              → count (action_for (same_partner p)) (kept (λ a. not (held_back waits d a)) acts) ≡ 0
          ordered nobody ends own = true-false false own refl
          ordered (order_to q) ends own =
              let same = same-eq p q own in
              let mine = action_for (same_partner p) in
              let back = held_back waits (order_to q) in
              let kept-ones = count_kept (λ a. not (back a)) mine acts in
              let both = count-plus (λ a. not (back a) && mine a) (λ a. back a && mine a) mine (λ a. split (back a) (mine a)) acts in
              let theirs =
              count-implied (own_request (order_to q)) (λ a. back a && mine a)
              (λ a h.
              and_both (back a) (mine a) (or-first (own_request (order_to q) a) (waits a.partner && eqb a.number release) h)
              (subst (λ r. same_partner r a.partner ≡ true) (sym same)
              (and_left (same_partner q a.partner) (eqb a.number request) h)))
              acts in
              let few = own-counted before acts (order_to q) ends in
              let all = ap (count mine) ends.last ∙ count-append mine ends.closings (act q request ∷ []) in
              let closings : count mine ends.closings ≡ 0 =
              ap (λ r. count (action_for (same_partner r)) ends.closings) same ∙ ends.others in
              let last = once-few (same_partner p q) in
              omega arith
          ordered (call_of q) ends own = true-false false own refl
          ordered (naming q e) ends own = true-false false own refl

  -- what goes out of the core's actions to a partner
  out-less : (test : Action → Bool) → count test out ≤ count test acts
  out-less test =
      let kept-ones = count_kept (λ a. not (held_back waits c a)) test acts in
      let few =
      count-implied (λ a. not (held_back waits c a) && test a) test (λ a h. and_right (not (held_back waits c a)) (test a) h) acts in
      omega arith

  -- the releases of a partner that does not wait go out
  pub core-releases : waits p ≡ false → count (release_to p) out ≡ count (release_to p) acts
  core-releases other =
      count_kept (λ a. not (held_back waits c a)) (release_to p) acts
      ∙ count_same (λ a. not (held_back waits c a) && release_to p a) (release_to p) (λ a. by a (release_to p a) refl) acts
    where
      by : (a : Action) (b : Bool) → release_to p a ≡ b → (not (held_back waits c a) && release_to p a) ≡ release_to p a
      by a true is =
          let same = same-eq p a.partner (and_left (same_partner p a.partner) (eqb a.number release) is) in
          let theirs = subst (λ q. waits q ≡ false) same other in
          let released = and_right (same_partner p a.partner) (eqb a.number release) is in
          free (own_request c a) (waits a.partner) (eqb a.number release) (release_to p a) (own-other c a released) theirs
        where
          free : (x y z t : Bool) → x ≡ false → y ≡ false → (not (x || (y && z)) && t) ≡ t
          free true y z t h g = true-false true refl h
          free false true z t h g = true-false true refl g
          free false false z t h g = refl
      by a false is = ap (λ b. not (held_back waits c a) && b) is ∙ and_none (not (held_back waits c a)) ∙ sym is

  -- the account of its releases and its place
  pub place-account : count (release_to p) acts + as_bit (some (holds p) after)
      ≡ as_bit (some (holds p) before) + (as_bit (order_of p c) + as_bit (call_by p c))
  place-account =
      let conserved = acted.conserved (same_partner p) in
      let b = own-places p before ∙ some-weigh (holds p) before (step.one p) in
      let a = own-places p after ∙ some-weigh (holds p) after one-after in
      let t = taken c in
      omega arith
    where
      taken : (c : Concern) → as_bit (takes_in (same_partner p) c) ≡ as_bit (order_of p c) + as_bit (call_by p c)
      taken nobody = refl
      taken (order_to q) = omega arith
      taken (call_of q) = omega arith
      taken (naming q e) = refl

  -- who is taken in had no place
  pub newcomer-absent : some (holds p) before ≡ true → (order_of p c ≡ false) × (call_by p c ≡ false)
  newcomer-absent has = by c step.changed
    where
      none : (q : Partner) → sum (here (holds q)) before ≡ 0 → same_partner p q ≡ false
      none q absent =
          fails-then (same_partner p q)
          (λ same.
          let gone : sum (here (holds p)) before ≡ 0 = ap (λ r. sum (here (holds r)) before) (same-eq p q same) ∙ absent in
          let own = some-weigh (holds p) before (step.one p) in
          let one = ap as_bit has in
          absurd (omega arith))

      by : (c : Concern) → Places c before after → (order_of p c ≡ false) × (call_by p c ≡ false)
      by nobody changed = (refl, refl)
      by (order_to q) changed = (none q changed.absent, refl)
      by (call_of q) changed = (refl, none q changed.absent)
      by (naming q e) changed = (refl, refl)

  -- a caller has a place then
  pub caller-seated : call_by p c ≡ true → some (holds p) after ≡ true
  caller-seated calls = by c step.changed calls
    where
      by : (c : Concern) → Places c before after → call_by p c ≡ true → some (holds p) after ≡ true
      by nobody changed calls = true-false false calls refl
      by (order_to q) changed calls = true-false false calls refl
      by (call_of q) changed calls = place-some p after changed.at one-after (ap (holds p) changed.seated ∙ calls)
      by (naming q e) changed calls = true-false false calls refl

  -- a partner without a place, neither ordered nor calling, is sent nothing
  pub core-none : some (holds p) before ≡ false
      → order_of p c ≡ false
      → call_by p c ≡ false
      → count (action_for (same_partner p)) out ≡ 0
  core-none absent no-order no_call =
      let most = acted.most (same_partner p) in
      let less = out-less (action_for (same_partner p)) in
      let had = own-places p before ∙ some-weigh (holds p) before (step.one p) ∙ ap as_bit absent in
      let none = by c step.changed no-order no_call had in
      omega arith
    where
      by : (c : Concern)
          → Places c before after
          → order_of p c ≡ false
          → call_by p c ≡ false
          → sum (here (place_of (same_partner p))) before ≡ 0
          → most_for (same_partner p) before c ≡ 0
      by nobody changed o k had = had
      by (order_to q) changed o k had =
          let own = ap as_bit o in
          omega arith
      by (call_of q) changed o k had = ap as_bit k
      by (naming q e) changed o k had = named (same_partner p q) refl
        where
          named : (b : Bool) → same_partner p q ≡ b → ◌≡◌ {A = ℕ} (cond b 2 0) 0
          named true same =
              let found = found_ok q before _ changed.found in
              let has : holds p (place_at before changed.at) ≡ true =
              ap (λ r. holds r (place_at before changed.at)) (same-eq p q same) ∙ found.1 in
              true-false (some (holds p) before) (place-some p before changed.at (step.one p) has) absent
          named false same = refl

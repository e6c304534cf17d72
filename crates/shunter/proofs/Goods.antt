-- An accepted step that neither 17 nor 18 refuses: what the core's laws say of it, that the code carries it out so, and that the code
-- has room for it.
-- Proves: moved, acted, good, few.
use mathlib.Core.Path.{◌≡◌, refl, sym, ap, ap₂, subst, ◌∙◌}
use mathlib.Core.Bool.{Bool, true, false, cond, ◌&&◌, ◌||◌, not}
use mathlib.Core.List.{List, [], ◌∷◌, ◌++◌, append-nil}
use Prim.Native.Nat.{ℕ, suc, ◌+◌, ◌-◌, ◌≤◌, ◌<◌}
use native.Mathlib.Nat.{sub-zero}
use native.Mathlib.Omega.{arith}
use lib.Dec.{eqb}
use lib.ListN.{length, take, length-append}
use lib.Seq.{take-length, take_at}
use borrow.Author.Tests.{eqb-true, ne_eqb, eq-eqb}
use Rattle.wire.specs.Refusals as refusal
use Rattle.wire.proofs.Tests.{true-false, cond-case}
use Rattle.record.specs.Partners.{same_partner}
use Rattle.record.specs.Records.{reading}
use Rattle.record.specs.declared.partner.Partner.{Partner}
use Rattle.record.proofs.Partners.{same_refl}
use Rattle.place.specs.Places.{is_free, holds}
use Rattle.place.specs.Table.{request, release}
use Rattle.place.specs.declared.place.Holding.{Holding}
use Rattle.place.specs.declared.place.Holding.TheVariants.{Free, Held}
use Rattle.place.specs.declared.place.Place.{Place}
use Rattle.unit.specs.Concerns.{takes_in, action_for, held_by, is_connecting, place_of, place_past}
use Rattle.unit.specs.Forms.{most_actions}
use Rattle.unit.specs.Kept.{here, count}
use Rattle.wire.specs.Bytes.{as_bit}
use Rattle.wire.specs.Sums.{sum}
use Rattle.unit.specs.OnRecords.{action_room, on_record}
use Rattle.unit.specs.Standings.{Concern, nobody, order_to, call_of, naming, concern_of}
use Rattle.unit.specs.States.{first, nowhere}
use Rattle.unit.specs.Steps.{Outcome, act}
use Rattle.unit.specs.declared.answer.Action.{Action}
use Rattle.unit.proofs.Effects.{on_record-places}
use Rattle.unit.proofs.Facts.{sound-facts}
use Rattle.unit.proofs.Few.{on_record-few}
use Rattle.unit.proofs.Quiet.{on_record-quiet}
use Rattle.unit.proofs.Sent.{Ends, on_record-releases, on_record-most, on_record-ends}
use Rattle.unit.proofs.Sound.{on_record-sound}
use Rattle.shunter.specs.Queues.{modem_count, no_place, waiting, queued, place_at, just_ordered, ready}
use Rattle.shunter.specs.Shunting.{Shunting, kept, waits_for, held_back, newcomers, line_up, line_of, served, unserved, first_requests}
use Rattle.shunter.specs.Shunting.{sends, is_call_of, all_held, passed, on_concern, applying}
use Rattle.shunter.specs.Sending.{outward, line_for, sent_with, sent_own, Good}
use Rattle.shunter.specs.declared.state.Shunter.{Shunter}
use Rattle.shunter.proofs.Gathered.{kept_append}
use Rattle.shunter.proofs.Modems.{holds-weigh}
use Rattle.shunter.proofs.Ready.{ready-sound, ready-queued, waits-some}
use Rattle.shunter.specs.Shunting.{wakes}
use Rattle.shunter.proofs.LinedUp.{wakes-is, Moved, each-fresh, just-connecting, joins-lowest}
use Rattle.shunter.proofs.Accounts.{place-waiting}
use Rattle.shunter.proofs.Balance.{EndsIn, Acted, line-few, out-few}

-- no weight anywhere
weigh-none : (f : Place → ℕ) (ps : List Place) → ((i : ℕ) → f (place_at ps i) ≡ 0) → sum f ps ≡ 0
unfolding sum
weigh-none f [] none = refl
weigh-none f (p ∷ ps) none =
    let own = none 0 in
    let rest = weigh-none f ps (λ i. none (suc i)) in
    omega arith

module _ (h : Shunter) (bytes : List ℕ) (ready-h : ready h ≡ true) where
  abbrev before : List Place
  before = h.state.places

  abbrev is : List ℕ
  is = waiting h.queue

  abbrev c : Concern
  c = concern_of h.state.last (reading bytes)

  abbrev o : Outcome
  o = on_record h.state bytes action_room

  module _ (calm : wakes (waits_for before is) c ≡ false) (accepted : o.code ≡ refusal.accepted) where
    -- what an accepted step does to the places, as the queue sees it
    pub moved : Moved c before o.state.places is
    moved =
        let good = ready-sound h ready-h in
        let facts = sound-facts h.state good in
        let queue = ready-queued h ready-h in
        record {
          changed = on_record-places h.state bytes action_room accepted;
          four = facts.four;
          still-four = (sound-facts o.state (on_record-sound h.state bytes action_room good)).four;
          one = facts.places.1;
          fresh = queue.fresh;
          apart = queue.apart;
          calm = sym (wakes-is (waits_for before is) c) ∙ calm;
        }

    -- each partner that waits has a place
    waits-held : (p : Partner) → waits_for before is p ≡ true → 1 ≤ sum (here (holds p)) before
    waits-held p mine =
        waits-some before p is mine (1 ≤ sum (here (holds p)) before)
        (λ i one has. holds-weigh p before i has)

    -- and it is Connecting
    waits-connecting : sum (here (place_past (waits_for before is))) before ≡ 0
    waits-connecting =
        weigh-none (here (place_past (waits_for before is))) before
        (λ i. by i (place_at before i).holding refl)
      where
        by : (i : ℕ) (k : Holding)
            → (place_at before i).holding ≡ k
            → as_bit (place_past (waits_for before is) (record { holding = k })) ≡ 0
        by i Free at = refl
        by i (Held d ph p) at = past (waits_for before is p) (is_connecting ph) refl refl
          where
            past : (a b : Bool) → waits_for before is p ≡ a → is_connecting ph ≡ b → as_bit (a && not b) ≡ 0
            past true true mine connects = refl
            past true false mine connects =
                let own = ap (held_by (waits_for before is)) at ∙ mine in
                let one = place-waiting c before o.state.places is moved i own in
                let fresh = each-fresh c before o.state.places is moved i one in
                true-false (is_connecting ph)
                (just-connecting d ph p (sym (ap (λ k. just_ordered (record { holding = k })) at) ∙ fresh))
                connects
            past false b mine connects = refl

    -- what the core's laws say of its actions
    pub acted : Acted c before o.state.places is o.actions
    acted =
        record {
          conserved = λ mine.
              on_record-releases h.state mine bytes action_room
              ∙ ap (λ b. sum (here (place_of mine)) before + as_bit (b && takes_in mine c)) (eq-eqb o.code refusal.accepted accepted);
          most = λ mine. on_record-most h.state mine bytes action_room;
          quiet =
              on_record-quiet h.state (waits_for before is) waits-held waits-connecting bytes action_room
              (sym (wakes-is (waits_for before is) c) ∙ calm);
          ends = by c (on_record-ends h.state bytes action_room);
        }
      where
        by : (c : Concern) → Ends c o → EndsIn c o.actions
        by nobody ends = tt
        by (order_to p) ends = ends accepted
        by (call_of p) ends = tt
        by (naming p e) ends = tt

module _ (waits : Partner → Bool) (p : Partner) where
  -- of actions that are not for the ordered partner only the releases of those that wait are held back
  kept-closings : (acts : List Action)
      → count (action_for (same_partner p)) acts ≡ 0
      → kept (λ a. not (held_back waits (order_to p) a)) acts ≡ outward waits acts
  unfolding kept count
  kept-closings [] none = refl
  kept-closings (a ∷ acts) none = by (same_partner p a.partner) refl (kept-closings acts (omega arith)) none
    where
      w : Bool
      w = waits a.partner && eqb a.number release

      by : (b : Bool)
          → same_partner p a.partner ≡ b
          → kept (λ a. not (held_back waits (order_to p) a)) acts ≡ outward waits acts
          → as_bit b + count (action_for (same_partner p)) acts ≡ 0
          → cond (not ((b && eqb a.number request) || w)) (a ∷ kept (λ a. not (held_back waits (order_to p) a)) acts)
          (kept (λ a. not (held_back waits (order_to p) a)) acts)
          ≡ cond (not w) (a ∷ outward waits acts) (outward waits acts)
      by true same rest none = absurd (omega arith)
      by false same rest none = ap (λ zs. cond (not w) (a ∷ zs) zs) rest

  -- its own 21 is
  kept-own : (closings : List Action)
      → count (action_for (same_partner p)) closings ≡ 0
      → kept (λ a. not (held_back waits (order_to p) a)) (closings ++ (act p request ∷ [])) ≡ outward waits closings
  unfolding kept
  kept-own closings none =
      kept_append (λ a. not (held_back waits (order_to p) a)) closings (act p request ∷ [])
      ∙ ap (λ b. kept (λ a. not (held_back waits (order_to p) a)) closings
      ++ cond (not ((b && true) || (waits p && false))) (act p request ∷ []) []) (same_refl p)
      ∙ append-nil (kept (λ a. not (held_back waits (order_to p) a)) closings)
      ∙ kept-closings closings none

-- all the actions
take-all-less : (acts : List Action) → take (length acts - 0) acts ≡ acts
take-all-less acts = ap (λ n. take n acts) (sub-zero (length acts)) ∙ take-length acts

-- all but the last
take-less-one : (acts closings : List Action) (a : Action) → acts ≡ closings ++ (a ∷ []) → take (length acts - 1) acts ≡ closings
take-less-one acts closings a is =
    let long = ap length is ∙ length-append closings (a ∷ []) in
    ap₂ take (less long) is ∙ take_at closings (a ∷ []) (length closings) refl
  where
    less : length acts ≡ length closings + 1 → length acts - 1 ≡ length closings
    less long = omega arith

-- an accepted step of what goes out of the core's actions, and of the line
abbrev sent_as : Outcome → List Action → List ℕ → Shunting
sent_as o out line =
    record {
      code = refusal.accepted;
      shunter = record { state = o.state; queue = queued (unserved o.state.places line) };
      actions = out ++ first_requests o.state.places (served o.state.places line);
      standing = nowhere;
    }

-- an accepted step, as the code carries it out
carried : (h : Shunter) (c : Concern) (o : Outcome)
    → EndsIn c o.actions
    → (length (newcomers h.state.places c) ≡ 1 → first is_free h.state.places < no_place)
    → sends h c o ≡ sent_own h c o
unfolding sends sent_with line_up
carried h nobody o ends below = ap (λ acts. sent_with h o.state acts (line_for h nobody o)) (sym (take-all-less o.actions))
carried h (order_to p) o ends below =
    let i = first is_free h.state.places in
    let waits = waits_for h.state.places (waiting h.queue) in
    let old = kept (λ j. not (is_free (place_at o.state.places j))) (waiting h.queue) in
    let number = ne_eqb i no_place (let less = below refl in λ same. omega arith) in
    ap₂ (sent_as o)
    (ap (kept (λ a. not (held_back waits (order_to p) a))) ends.last ∙ kept-own waits p ends.closings ends.others
    ∙ ap (outward waits) (sym (take-less-one o.actions ends.closings (act p request) ends.last)))
    (sym (ap (λ b. old ++ cond b [] (i ∷ [])) number))
carried h (call_of p) o ends below = ap (λ acts. sent_with h o.state acts (line_for h nobody o)) (sym (take-all-less o.actions))
carried h (naming p e) o ends below = ap (λ acts. sent_with h o.state acts (line_for h nobody o)) (sym (take-all-less o.actions))

-- an order's place is one of the four
joins-below : (c : Concern) (before after : List Place) (is : List ℕ)
    → Moved c before after is
    → length (newcomers before c) ≡ 1
    → first is_free before < no_place
joins-below nobody before after is step one = absurd (omega arith)
joins-below (order_to p) before after is step one =
    let lowest = joins-lowest (order_to p) p _ before after step.changed in
    let below = step.changed.below in
    let four = step.four in
    omega arith
joins-below (call_of p) before after is step one = absurd (omega arith)
joins-below (naming p e) before after is step one = absurd (omega arith)

-- the line, as the code lines up
line-is : (h : Shunter) (c : Concern) (o : Outcome)
    → (length (newcomers h.state.places c) ≡ 1 → first is_free h.state.places < no_place)
    → line_of h c o ≡ line_for h c o
unfolding line_up
line-is h nobody o below = refl
line-is h (order_to p) o below =
    let i = first is_free h.state.places in
    let old = kept (λ j. not (is_free (place_at o.state.places j))) (waiting h.queue) in
    sym (ap (λ b. old ++ cond b [] (i ∷ [])) (ne_eqb i no_place (let less = below refl in λ same. omega arith)))
line-is h (call_of p) o below = refl
line-is h (naming p e) o below = refl

-- what is known of a step from a sound state
pub good : (h : Shunter) (bytes : List ℕ)
    → ready h ≡ true
    → Good h (concern_of h.state.last (reading bytes)) (on_record h.state bytes action_room)
unfolding sends
good h bytes ready-h = (
  on_record-few h.state bytes action_room,
  λ calm free accepted.
      let c = concern_of h.state.last (reading bytes) in
      let o = on_record h.state bytes action_room in
      let before = h.state.places in
      let is = waiting h.queue in
      let step = moved h bytes ready-h calm accepted in
      let sent = acted h bytes ready-h calm accepted in
      let facts = ready-queued h ready-h in
      let below = joins-below c before o.state.places is step in
      let equal = carried h c o sent.ends below in
      let out = out-few c before o.state.places is o.actions step sent facts in
      let line = line-few c before o.state.places is o.actions step sent facts in (
        equal,
        (subst (λ x. length x.actions ≤ most_actions) equal out, subst (λ js. length js ≤ modem_count) (line-is h c o below) line),
      ),
)

-- no step sends more than four actions
pub few : (h : Shunter) (bytes : List ℕ) → length (applying h bytes).actions ≤ most_actions
unfolding applying on_concern passed
few h bytes =
    cond-case Fewer (ready h) (on_concern h c o) _
    (λ ready-h.
    cond-case Fewer (wakes waits c) _ (passed h c o) (λ stirred. omega arith)
    (λ calm.
    cond-case Fewer (eqb o.code refusal.accepted) _ _
    (λ accepted.
    cond-case Fewer (is_call_of c && all_held h) _ (sends h c o) (λ full. omega arith)
    (λ free.
    let known = (good h bytes ready-h).1 calm free (eqb-true o.code refusal.accepted accepted) in
    subst Fewer (sym known.0) known.1.0))
    (λ other. omega arith)))
    (λ unsound. omega arith)
  where
    Fewer : Shunting → Type 0
    Fewer x = length x.actions ≤ most_actions

    c : Concern
    c = concern_of h.state.last (reading bytes)

    o : Outcome
    o = on_record h.state bytes action_room

    waits : Partner → Bool
    waits = waits_for h.state.places (waiting h.queue)

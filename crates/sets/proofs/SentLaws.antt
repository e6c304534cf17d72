-- The actions of a step while they are gathered: the array of them against the list; one after the other, and a set's.
-- Defines: SentStep, Sends.
-- Proves: listed-room, listed-sent, none-room, none-sent, listed-push, all-length, sent-step, sends.
use mathlib.Core.Path.{◌≡◌, sym, ap, ap₂, ◌∙◌}
use mathlib.Core.List.{List, [], ◌∷◌, ◌++◌, append_assoc, map-append}
use Prim.Native.Nat.{ℕ, ◌+◌, ◌≤◌, ◌<◌}
use native.Mathlib.Omega.{arith}
use lib.ListN.{length, get_or, set, take, length-append, length-map}
use lib.Seq.{length-take-le}
use Rattle.std.proofs.lemmas.List.{take_more}
use Rattle.wire.proofs.Padded.{padded-push, padded-take}
use Rattle.record.specs.declared.partner.Partner.{Partner}
use Rattle.unit.specs.Forms.{most_actions, no_action, listed}
use Rattle.unit.specs.Steps.{act}
use Rattle.unit.specs.declared.answer.Action.{Action}
use Rattle.unit.specs.declared.answer.Actions.{Actions}
use Rattle.sets.specs.Members.{no_member, members_of, set_of}
use Rattle.sets.specs.SetSteps.{sent_all}
use Rattle.sets.specs.Holding.{sent_so_far, neat}
use Rattle.sets.specs.declared.members.Member.{Member}
use Rattle.sets.specs.declared.members.Members.{Members}
use Rattle.sets.proofs.SixLaws.{set-lists, set-count}

-- the array of a list counts as many
listed-count : (a : Actions) (acts : List Action) → a ≡ listed acts → a.count ≡ length acts
unfolding listed
listed-count a acts is = ap (λ o. o.count) is

-- its actions read back
listed-told : (a : Actions) (acts : List Action) → a ≡ listed acts → length acts ≤ most_actions → sent_so_far a ≡ acts
unfolding listed
listed-told a acts is few = ap sent_so_far is ∙ padded-take most_actions no_action acts few

-- and zeros stand after them
listed-neat : (a : Actions) (acts : List Action) → a ≡ listed acts → length acts ≤ most_actions → neat a
listed-neat a acts is few = (
  omega (arith, listed-count a acts is),
  is ∙ ap listed (sym (listed-told a acts is few)),
)

-- where there is room for one more action, it may be sent
pub listed-room : (a : Actions) (acts : List Action)
    → a ≡ listed acts
    → length acts < most_actions
    → (neat a) × (a.count < most_actions)
listed-room a acts is room = (listed-neat a acts is (omega arith), omega (arith, listed-count a acts is))

-- and stands last
pub listed-sent : (a : Actions) (acts : List Action) (p : Partner) (number : ℕ)
    → a ≡ listed acts
    → length acts ≤ most_actions
    → listed (sent_so_far a ++ (act p number ∷ [])) ≡ listed (acts ++ (act p number ∷ []))
listed-sent a acts p number is few = ap (λ sent. listed (sent ++ (act p number ∷ []))) (listed-told a acts is few)

-- so the first action may be sent
pub none-room : (a : Actions) → a ≡ listed [] → (neat a) × (a.count < most_actions)
none-room a is = listed-room a [] is (omega arith)

-- and stands alone
pub none-sent : (a : Actions) (p : Partner) (number : ℕ)
    → a ≡ listed []
    → listed (sent_so_far a ++ (act p number ∷ [])) ≡ listed (act p number ∷ [])
none-sent a p number is = listed-sent a [] p number is (omega arith)

-- an action stored after the last one stands last in the list
pub listed-push : (a : Actions) (acts : List Action) (action : Action)
    → a ≡ listed acts
    → a.count < most_actions
    → record { items = set a.items a.count action; count = a.count + 1 } ≡ listed (acts ++ (action ∷ []))
unfolding listed
listed-push a acts action is room =
    let few = listed-count a acts is in
    ap (λ o. record { items = set o.items o.count action; count = o.count + 1 }) is
    ∙ (λ i.
    record {
      items = padded-push 3 no_action action acts (omega arith) i;
      count = sym (length-append acts (action ∷ [])) i;
    })

-- there is an action for each of the members
pub all-length : (number : ℕ) (ms : List Member) → length (sent_all number ms) ≡ length ms
all-length number ms = length-map ms (λ m. act m.partner number)

-- and so many come to those that are there
more-length : (acts : List Action) (number : ℕ) (ms : List Member) → length (acts ++ sent_all number ms) ≡ length acts + length ms
more-length acts number ms = length-append acts (sent_all number ms) ∙ ap (λ n. length acts + n) (all-length number ms)

-- the next of these members, after those before it that were sent their actions: there is room for one action more, and it comes last
abbrev pub SentStep : Actions → Actions → ℕ → ℕ → List Member → Type 0
SentStep a sent number i ms =
    (neat sent × (sent.count < most_actions))
    × ((next : Actions)
    → next ≡ listed (sent_so_far sent ++ (act (get_or ms i no_member).partner number ∷ []))
    → next ≡ listed (sent_so_far a ++ sent_all number (take (i + 1) ms)))

module _ (a sent : Actions) (number i : ℕ) (ms : List Member)
    (ok : neat a)
    (room : a.count + length ms ≤ most_actions)
    (below : i < length ms)
    (so_far : sent ≡ listed (sent_so_far a ++ sent_all number (take i ms))) where
  -- the actions so far
  abbrev acts : List Action
  acts = sent_so_far a ++ sent_all number (take i ms)

  -- so far there are as many as were there and members passed
  acts-length : length acts ≡ a.count + i
  acts-length =
      more-length (sent_so_far a) number (take i ms)
      ∙ ap₂ ◌+◌ (sym (listed-count a (sent_so_far a) ok.1)) (length-take-le i ms (omega arith))

  -- it has room where all of them have
  pub sent-step : SentStep a sent number i ms
  sent-step = (
    (
      listed-neat sent acts so_far (omega (arith, acts-length)),
      omega (arith, acts-length, listed-count sent acts so_far),
    ),
    λ next is.
        is
        ∙ ap (λ l. listed (l ++ (act (get_or ms i no_member).partner number ∷ [])))
        (listed-told sent acts so_far (omega (arith, acts-length)))
        ∙ ap listed
        (append_assoc (sent_so_far a) (sent_all number (take i ms)) _
        ∙ ap (λ l. sent_so_far a ++ l)
        (sym
        (ap (sent_all number) (take_more ms i no_member below)
        ∙ map-append (λ m. act m.partner number) (take i ms) (get_or ms i no_member ∷ [])))),
  )

-- a whole set after the actions of a list: there is room, and its actions come last
abbrev pub Sends : Actions → Members → List Action → List Member → Type 0
Sends a s acts ms =
    (neat a × (a.count + s.count ≤ most_actions))
    × ((number : ℕ) (next : Actions)
    → next ≡ listed (sent_so_far a ++ sent_all number (members_of s))
    → next ≡ listed (acts ++ sent_all number ms))

-- it has room where the two lists fit together
pub sends : (a : Actions) (s : Members) (acts : List Action) (ms : List Member)
    → a ≡ listed acts
    → s ≡ set_of ms
    → length acts + length ms ≤ most_actions
    → Sends a s acts ms
sends a s acts ms is are room =
    let so-many = listed-count a acts is in
    let more = set-count s ms are in (
      (listed-neat a acts is (omega arith), omega arith),
      λ number next e.
          e
          ∙ ap₂ (λ l k. listed (l ++ sent_all number k)) (listed-told a acts is (omega arith)) (set-lists s ms are (omega arith)),
    )

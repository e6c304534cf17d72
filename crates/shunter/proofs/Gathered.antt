-- Actions and places gathered: those that are kept, and the array of actions against the list.
-- Proves: gathered-more, gathered-count, kept_append, kept-length, outward-more, outward-held, outward-few.
use mathlib.Core.Path.{◌≡◌, refl, sym, ap, ◌∙◌}
use mathlib.Core.Bool.{Bool, true, false, cond, ◌&&◌, not}
use mathlib.Core.List.{List, [], ◌∷◌, ◌++◌, append-nil}
use Prim.Native.Nat.{ℕ, suc, ◌+◌, ◌≤◌, ◌<◌}
use native.Mathlib.Omega.{arith}
use native.Mathlib.Numerals.{add-one}
use lib.Dec.{eqb}
use lib.ListN.{length, get_or, set, take, length-append}
use lib.Seq.{take-suc, length-take-le}
use Rattle.wire.proofs.Padded.{padded-push}
use Rattle.wire.proofs.Tests.{cond-case}
use Rattle.record.specs.declared.partner.Partner.{Partner}
use Rattle.place.specs.Table.{release}
use Rattle.unit.specs.Forms.{most_actions, no_action, listed}
use Rattle.unit.specs.declared.answer.Action.{Action}
use Rattle.unit.specs.declared.answer.Actions.{Actions}
use Rattle.shunter.specs.Shunting.{kept}
use Rattle.shunter.specs.Sending.{outward}

-- an action stored after the last one stands last in the list
pub gathered-more : (acts : List Action) (a : Action) (out : Actions)
    → length acts < most_actions
    → out ≡ listed acts
    → record { items = set out.items out.count a; count = out.count + 1 } ≡ listed (acts ++ (a ∷ []))
unfolding listed
gathered-more acts a out room is =
    ap (λ o. record { items = set o.items o.count a; count = o.count + 1 }) is
    ∙ (λ i.
    record {
      items = padded-push 3 no_action a acts room i;
      count = sym (length-append acts (a ∷ [])) i;
    })

-- the actions counted are the list's
pub gathered-count : (acts : List Action) (out : Actions) → out ≡ listed acts → out.count ≡ length acts
unfolding listed
gathered-count acts out is = ap (λ o. o.count) is

module _ {A : Type 0} (test : A → Bool) where
  -- those kept of two rows
  pub kept_append : (xs ys : List A) → kept test (xs ++ ys) ≡ kept test xs ++ kept test ys
  unfolding kept
  kept_append [] ys = refl
  kept_append (x ∷ xs) ys =
      cond-case (λ l. cond (test x) (x ∷ kept test (xs ++ ys)) (kept test (xs ++ ys)) ≡ l ++ kept test ys) (test x)
      (x ∷ kept test xs) (kept test xs)
      (λ passes. simp passes (ap (◌∷◌ x) (kept_append xs ys)))
      (λ fails. simp fails (kept_append xs ys))

  -- no more are kept than there were
  pub kept-length : (xs : List A) → length (kept test xs) ≤ length xs
  unfolding kept
  kept-length [] = omega arith
  kept-length (x ∷ xs) =
      let rest = kept-length xs in
      cond-case (λ l. length l ≤ suc (length xs)) (test x) (x ∷ kept test xs) (kept test xs)
      (λ passes. omega arith)
      (λ fails. omega arith)

module _ (waits : Partner → Bool) (items : List Action) (i : ℕ) (below : i < length items) where
  -- the action looked at
  abbrev a : Action
  a = get_or items i no_action

  -- it is a release of a partner that waits
  abbrev held : Bool
  held = waits a.partner && eqb a.number release

  -- one more of the actions looked at
  outward-next : outward waits (take (i + 1) items) ≡ outward waits (take i items) ++ cond (not held) (a ∷ []) []
  unfolding kept
  outward-next =
      ap (outward waits) (ap (λ n. take n items) (add-one i) ∙ take-suc items i no_action below)
      ∙ kept_append (λ b. not (waits b.partner && eqb b.number release)) (take i items) (a ∷ [])

  -- it goes out
  pub outward-more : held ≡ false → outward waits (take i items) ++ (a ∷ []) ≡ outward waits (take (i + 1) items)
  outward-more goes =
      sym (outward-next ∙ ap (λ b. outward waits (take i items) ++ cond (not b) (a ∷ []) []) goes)

  -- it is held back
  pub outward-held : held ≡ true → outward waits (take i items) ≡ outward waits (take (i + 1) items)
  outward-held stays =
      sym
      (outward-next
      ∙ ap (λ b. outward waits (take i items) ++ cond (not b) (a ∷ []) []) stays
      ∙ append-nil (outward waits (take i items)))

  -- no more go out than were looked at
  pub outward-few : length (outward waits (take i items)) ≤ i
  outward-few =
      omega (
        arith,
        kept-length (λ b. not (waits b.partner && eqb b.number release)) (take i items),
        length-take-le i items (omega arith),
      )

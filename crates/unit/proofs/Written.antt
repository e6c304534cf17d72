-- The actions' bytes in the buffer, action after action as the code writes them.
-- Proves: given-none, given-some, appended-none, appended_one, appended-numbers, sending-length, written_none, listed-take.
use mathlib.Core.Path.{◌≡◌, refl, sym, ap, ap₂, ◌∙◌}
use mathlib.Core.List.{List, [], ◌∷◌, ◌++◌, map, append-nil, append_assoc, map-append}
use Prim.Native.Nat.{ℕ, ◌+◌, ◌*◌, ◌-◌, ◌≤◌, ◌<◌}
use native.Mathlib.Omega.{arith}
use borrow.Author.Tests.{eq-eqb, ne_eqb}
use lib.ListN.{length, take, drop, length-append, length-map, length-drop}
use lib.Seq.{sets, take_at, take_all, get_or_at}
use Rattle.wire.specs.Blocks.{blocks}
use Rattle.wire.proofs.Blocks.{blocks-length, filled_more}
use Rattle.wire.proofs.Padded.{padded-take}
use Rattle.record.specs.declared.partner.Partner.{Partner}
use Rattle.unit.specs.Steps.{act}
use Rattle.unit.specs.OnRecords.{action_room, action_size, bytes_of, action_bytes, written}
use Rattle.unit.specs.Forms.{most_actions, no_action, listed}
use Rattle.unit.specs.Changes.{given, sending, Appended}
use Rattle.unit.specs.declared.answer.Action.{Action}
use Rattle.unit.specs.declared.change.Change.{Change}

pub given-none : (number : ℕ) → number ≡ 0 → given number ≡ []
unfolding given
given-none number none = simp (eq-eqb number 0 none)

pub given-some : (number : ℕ) → (number ≡ 0 → ⊥) → given number ≡ number ∷ []
unfolding given
given-some number some = simp (ne_eqb number 0 some)

-- with no action written the buffer is as it was
pub written_none : (buffer : List ℕ) → written [] buffer ≡ buffer
unfolding written blocks
written_none buffer = refl

written-length : (acts : List Action) (buffer : List ℕ)
    → length (written acts buffer) ≡ action_size * length acts + (length buffer - action_size * length acts)
unfolding written
written-length acts buffer =
    length-append (action_bytes acts) (drop (action_size * length acts) buffer)
    ∙ ap₂ ◌+◌ (blocks-length bytes_of action_size (λ a. refl) acts) (length-drop (action_size * length acts) buffer)

-- one more action behind the others
module _ (acts : List Action) (a : Action) (buffer : List ℕ) (room : action_size * (length acts + 1) ≤ length buffer) where
  all : List Action
  all = acts ++ (a ∷ [])

  all-length : length all ≡ length acts + 1
  unfolding all
  all-length = length-append acts (a ∷ [])

  written-more : sets (written acts buffer) (action_size * length acts) (bytes_of a) ≡ written (acts ++ (a ∷ [])) buffer
  unfolding written all
  written-more =
      let more : action_size * length acts + action_size ≡ action_size * length all = omega (arith, all-length) in
      ap₂ (λ l x. sets (action_bytes l ++ drop (action_size * length acts) buffer) (action_size * length acts) (bytes_of x))
      (sym (take_at acts (a ∷ []) (length acts) refl)) (sym (get_or_at acts a [] no_action (length acts) refl))
      ∙ filled_more bytes_of action_size (λ x. refl) 0 all buffer (length acts) (action_size * length acts) no_action
      (omega (arith, all-length)) (omega arith) (omega (arith, room))
      ∙ ap₂ (λ l k. action_bytes l ++ drop k buffer) (take_all (length acts + 1) all (omega (arith, all-length))) more

pub appended-none : (buffer : List ℕ) (count : ℕ) → Appended buffer buffer count []
appended-none buffer count acts before n is = is ∙ ap (λ l. written l before) (sym (append-nil acts))

pub appended_one : (before after : List ℕ) (count : ℕ) (a : Action)
    → count < most_actions
    → action_room ≤ length before
    → after ≡ sets before (action_size * count) (bytes_of a)
    → Appended before after count (a ∷ [])
appended_one before after count a few room put acts buffer n is =
    let long = ap length is ∙ written-length acts buffer in
    put
    ∙ ap₂ (λ l k. sets l (action_size * k) (bytes_of a)) is n
    ∙ written-more acts a buffer (omega (arith, long, n, few, room))

-- the actions of some numbers, then of others
pub appended-numbers : (before between after : List ℕ) (count next : ℕ) (p : Partner) (xs ys : List ℕ)
    → Appended before between count (map (act p) xs)
    → next ≡ count + length xs
    → Appended between after next (map (act p) ys)
    → Appended before after count (map (act p) (xs ++ ys))
appended-numbers before between after count next p xs ys first sent second acts buffer n is =
    let long = length-append acts (map (act p) xs) in
    let same = length-map xs (act p) in
    second (acts ++ map (act p) xs) buffer (omega (arith, long, same, sent, n)) (first acts buffer n is)
    ∙ ap (λ l. written l buffer)
    (append_assoc acts (map (act p) xs) (map (act p) ys) ∙ ap (◌++◌ acts) (sym (map-append (act p) xs ys)))

-- how many actions a change sends last
pub sending-length : (c : Change) → length (sending c) ≡ length (given c.first) + length (given c.second)
sending-length c =
    length-map (given c.first ++ given c.second) (act c.partner) ∙ length-append (given c.first) (given c.second)

-- the actions counted in the code's array are the list's
pub listed-take : (acts : List Action) → length acts ≤ most_actions → take (listed acts).count (listed acts).items ≡ acts
unfolding listed
listed-take acts few = padded-take most_actions no_action acts few

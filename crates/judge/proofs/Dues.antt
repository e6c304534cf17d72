-- The due records one after the other, as the code passes them: the answer, and then the actions of a buffer.
-- Defines: Passed.
-- Proves: due-met, due-fails, due-fits, dues-follow, actions-sent, passed-end, passed-more, passed-fails.
use mathlib.Core.Path.{◌≡◌, refl, sym, ap, ap₂, ◌∙◌}
use mathlib.Core.Bool.{true, false}
use mathlib.Core.List.{List, [], ◌∷◌, ◌++◌, map, append-nil}
use Prim.Native.Nat.{ℕ, suc, ◌+◌, ◌*◌, ◌-◌, ◌/◌, ◌≤◌, ◌<◌}
use native.Mathlib.Nat.{add-zero}
use native.Mathlib.Omega.{arith}
use lib.ListN.{length, drop, length-drop}
use lib.Seq.{get_or-drop, drop-drop}
use Rattle.wire.specs.Blocks.{blocks}
use Rattle.wire.proofs.Blocks.{blocks-length}
use Rattle.wire.proofs.Tests.{cond-case}
use Rattle.unit.specs.OnRecords.{action_size, bytes_of, action_bytes}
use Rattle.unit.specs.declared.answer.Action.{Action}
use Rattle.judge.specs.Sheets.{due_bytes}
use Rattle.judge.specs.Judging.{compared, stands_at, is_right, point_at, dues_at}
use Rattle.judge.specs.Buffers.{action_in, buffer_actions, sent_actions}
use Rattle.judge.specs.declared.due.Due.{Due}
use Rattle.judge.specs.declared.due.Due.TheVariants.{AnEvent, TheAction}
use Rattle.judge.specs.declared.due.Point.{Point}
use Rattle.judge.specs.declared.due.Finding.{Finding}
use Rattle.judge.specs.declared.due.Finding.TheVariants.{Right}
use Rattle.judge.proofs.Comparing.{right-fits}

-- a due record that is met, and one that is not
module _ (d : Due) (ds : List Due) (sheet : List ℕ) (at : ℕ) (stands : Finding) (is : stands ≡ stands_at d sheet at) where
  pub due-met : is_right stands ≡ true → dues_at (d ∷ ds) sheet at ≡ dues_at ds sheet (at + length (due_bytes d))
  unfolding dues_at
  due-met right = simp (← is, right)

  pub due-fails : is_right stands ≡ false → point_at stands at d ≡ dues_at (d ∷ ds) sheet at
  unfolding dues_at
  due-fails other = ap (λ s. point_at s at d) is ∙ sym (simp (← is, other))

-- where the bytes of a record that is due stand, they fit
pub due-fits : (due sheet : List ℕ) (at : ℕ)
    → is_right (compared due (drop at sheet)) ≡ true
    → 1 ≤ length due
    → at + length due ≤ length sheet
due-fits due sheet at right some =
    let fits = right-fits due (drop at sheet) right in
    omega (arith, length-drop at sheet)

-- the point reached does not stand before the first of them
pub dues-follow : (ds : List Due) (sheet : List ℕ) (at : ℕ) → at ≤ (dues_at ds sheet at).at
unfolding dues_at
dues-follow [] sheet at = omega arith
dues-follow (d ∷ ds) sheet at =
    let later = dues-follow ds sheet (at + length (due_bytes d)) in
    cond-case (λ (p : Point). at ≤ p.at) (is_right (stands_at d sheet at)) (dues_at ds sheet (at + length (due_bytes d)))
    (point_at (stands_at d sheet at) at d)
    (λ met. omega arith)
    (λ fails. omega arith)

-- the actions of a buffer into which they were written
actions-written : (acts : List Action) (rest : List ℕ) → buffer_actions (length acts) (action_bytes acts ++ rest) ≡ acts
unfolding buffer_actions blocks
actions-written [] rest = refl
actions-written (a ∷ acts) rest = ap (◌∷◌ a) (actions-written acts rest)

-- and of the part with their bytes alone
pub actions-sent : (acts : List Action) → sent_actions (action_bytes acts) ≡ acts
actions-sent acts =
    let bytes = blocks-length bytes_of action_size (λ a. refl) acts in
    let count : length (action_bytes acts) / action_size ≡ length acts = omega arith in
    ap₂ buffer_actions count (sym (append-nil (action_bytes acts))) ∙ actions-written acts []

-- the first i actions of a buffer are passed, and the next one is due at this offset
module _ (sheet : List ℕ) (from : ℕ) (buffer : List ℕ) (count : ℕ) where
  abbrev pub Passed : ℕ → ℕ → Type 0
  Passed i at =
      (i ≤ count)
      × (dues_at (map TheAction (buffer_actions count buffer)) sheet from
      ≡ dues_at (map TheAction (buffer_actions (count - i) (drop (action_size * i) buffer))) sheet at)

  module _ (i at : ℕ) (passed : Passed i at) where
    pub passed-end : count ≤ i → point_at Right at AnEvent ≡ dues_at (map TheAction (buffer_actions count buffer)) sheet from
    unfolding dues_at buffer_actions
    passed-end all =
        let none : count - i ≡ 0 = omega arith in
        sym
        (passed.1 ∙ ap (λ n. dues_at (map TheAction (buffer_actions n (drop (action_size * i) buffer))) sheet at) none)

    module _ (below : i < count) (a : Action) (read : a ≡ action_in buffer (action_size * i)) where
      next :
          buffer_actions (count - i) (drop (action_size * i) buffer)
          ≡ a ∷ buffer_actions (count - (i + 1)) (drop (action_size * (i + 1)) buffer)
      unfolding buffer_actions
      next =
          let place = action_size * i in
          let one_more : count - i ≡ suc (count - (i + 1)) = omega arith in
          let on : place + action_size ≡ action_size * (i + 1) = omega arith in
          let front : action_in (drop place buffer) 0 ≡ action_in buffer place =
          simp (get_or-drop, add-zero) in
          ap (λ n. buffer_actions n (drop place buffer)) one_more
          ∙ ap₂ ◌∷◌ (front ∙ sym read)
          (ap (buffer_actions (count - (i + 1))) (drop-drop action_size place buffer ∙ ap (λ k. drop k buffer) on))

      module _ (stands : Finding) (is : stands ≡ stands_at (TheAction a) sheet at) where
        due-next :
            dues_at (map TheAction (buffer_actions count buffer)) sheet from
            ≡ dues_at
            (TheAction a ∷ map TheAction (buffer_actions (count - (i + 1)) (drop (action_size * (i + 1)) buffer))) sheet at
        due-next = passed.1 ∙ ap (λ l. dues_at (map TheAction l) sheet at) next

        pub passed-more : is_right stands ≡ true → Passed (i + 1) (at + action_size)
        passed-more right = (omega arith, due-next ∙ due-met (TheAction a) _ sheet at stands is right)

        pub passed-fails :
            is_right stands ≡ false
            → point_at stands at (TheAction a) ≡ dues_at (map TheAction (buffer_actions count buffer)) sheet from
        passed-fails other = due-fails (TheAction a) _ sheet at stands is other ∙ sym due-next

-- The judge's walk, an event record and what follows it a turn.
-- Defines: Judged, turned.
-- Proves: judged-stop, whole-fits, point-behind, judged-more, judged-fails.
use mathlib.Core.Path.{◌≡◌, refl, sym, ap, ap₂, subst, ◌∙◌}
use mathlib.Core.Bool.{true, false, cond}
use mathlib.Core.Logic.{◌⊎◌, inl, inr}
use mathlib.Core.List.{List, [], ◌∷◌, map}
use Prim.Native.Nat.{ℕ, zero, suc, ◌+◌, ◌*◌, ◌-◌, ◌≤◌}
use native.Mathlib.Omega.{arith}
use borrow.Author.Tests.{ltb-true, leb-true}
use lib.Dec.{leb}
use lib.ListN.{length, take, drop, length-drop}
use lib.Seq.{take_at}
use Rattle.wire.proofs.Blocks.{blocks-length}
use Rattle.wire.proofs.Tests.{cond-case}
use Rattle.record.specs.Records.{known, length_of}
use Rattle.record.specs.Takes.{take_one, on_taken}
use Rattle.record.specs.TakeWords.{TakenOk}
use Rattle.record.specs.Readings.{Reading}
use Rattle.record.specs.Takes.{Taken}
use Rattle.record.specs.Takes.{Whole, Stopped, Overlong}
use Rattle.record.proofs.Takes.{take-end}
use Rattle.unit.specs.Steps.{Outcome}
use Rattle.unit.specs.OnRecords.{action_room, action_size, on_record, bytes_of, action_bytes, written}
use Rattle.unit.specs.Forms.{stepped}
use Rattle.unit.specs.declared.state.State.{State}
use Rattle.unit.specs.declared.answer.Stepped.{Stepped}
use Rattle.judge.specs.Sheets.{dues}
use Rattle.judge.specs.Judging.{is_right, dues_at, on_point, verdict_at, stopped_at, judged_from}
use Rattle.judge.specs.Buffers.{sent_actions}
use Rattle.judge.specs.declared.due.Due.TheVariants.{TheAnswer, TheAction}
use Rattle.judge.specs.declared.due.Point.{Point}
use Rattle.judge.specs.declared.judge.Verdict.{Verdict}
use Rattle.judge.proofs.Dues.{dues-follow, actions-sent}

-- what stands at the front of a log, whatever its length
one_ok : (log : List ℕ) → TakenOk log (take_one log)
unfolding take_one
one_ok [] = inl refl
one_ok (kind ∷ rest) =
    cond-case (TakenOk (kind ∷ rest)) (known kind) _ _
    (λ is_Known.
    cond-case (TakenOk (kind ∷ rest)) (leb (length_of kind) (length (kind ∷ rest))) _ _
    (λ fits. (ltb-true 0 (length_of kind) is_Known, leb-true (length_of kind) (length (kind ∷ rest)) fits, refl))
    (λ short. inr (inl refl)))
    (λ unknown. inr (inr refl))

-- a turn of the walk, by what was taken
abbrev pub turned : ℕ → State → List ℕ → ℕ → ℕ → Taken → Verdict
turned most s sheet at records t =
    on_taken t (λ stop. stopped_at records stop at)
    (λ k.
    let o : Outcome = on_record s (take k (drop at sheet)) action_room in
    on_point (dues_at (dues o) sheet (at + k)) (λ to. judged_from most o.state sheet to (records + 1)) (verdict_at records))

module _ (sheet : List ℕ) (start : State) (from : ℕ) where
  -- the judgement from the start on is the one from here on
  abbrev pub Judged : State → ℕ → ℕ → Type 0
  Judged s at records =
      (records ≤ at) × (judged_from (length sheet) start sheet from 0 ≡ judged_from (length sheet - records) s sheet at records)

  module _ (s : State) (at records : ℕ) (so_far : Judged s at records) where
    -- what bounds the event records is used up only where the sheet is
    judged-turn : (t : Taken)
        → t ≡ take_one (drop at sheet)
        → turned (length sheet - (records + 1)) s sheet at records t ≡ judged_from (length sheet) start sheet from 0
    unfolding judged_from
    judged-turn t is =
        ap (turned (length sheet - (records + 1)) s sheet at records) is
        ∙ sym (so_far.1 ∙ by (length sheet - records) refl)
      where
        by : (n : ℕ)
            → n ≡ length sheet - records
            → judged_from n s sheet at records
            ≡ turned (length sheet - (records + 1)) s sheet at records (take_one (drop at sheet))
        by zero none =
            ap (turned (length sheet - (records + 1)) s sheet at records) (take-end sheet at (omega (arith, so_far.0)))
        by (suc n) some =
            let fewer : n ≡ length sheet - (records + 1) = omega arith in
            ap (λ m. turned m s sheet at records (take_one (drop at sheet))) fewer

    -- where nothing more is taken
    pub judged-stop : (stop : ℕ) (t : Taken)
        → t ≡ take_one (drop at sheet)
        → (t ≡ Stopped stop) ⊎ (t ≡ Overlong stop)
        → stopped_at records stop at ≡ judged_from (length sheet) start sheet from 0
    judged-stop stop t is (inl stops) = judged-turn (Stopped stop) (sym stops ∙ is)
    judged-stop stop t is (inr stops) = judged-turn (Overlong stop) (sym stops ∙ is)

    -- the rest of a turn, from a point and the next state
    abbrev from-point : Point → State → Verdict
    from-point p next = on_point p (λ to. judged_from (length sheet - (records + 1)) next sheet to (records + 1)) (verdict_at records)

    -- a whole event record
    module _ (k : ℕ) (r : Reading) (whole : take_one (drop at sheet) ≡ Whole k r) where
      pub whole-fits : (1 ≤ k) × (at + k ≤ length sheet)
      whole-fits =
          let ok = subst (TakenOk (drop at sheet)) whole (one_ok (drop at sheet)) in
          let left = length-drop at sheet in
          (ok.0, omega (arith, ok.0, ok.1))

      -- the step on it, its actions written to a buffer
      module _ (part before buffer : List ℕ) (answer : Stepped)
          (lent : part ≡ take k (drop at sheet))
          (answers : answer ≡ stepped (on_record s part action_room))
          (writes : buffer ≡ written (on_record s part action_room).actions before) where
        abbrev after : Outcome
        after = on_record s part action_room

        counts : answer.count ≡ length after.actions
        unfolding stepped
        counts = ap (λ (x : Stepped). x.count) answers

        -- the bytes that the step wrote
        abbrev lent-on : List ℕ
        lent-on = take (action_size * answer.count) buffer

        sent : sent_actions lent-on ≡ after.actions
        unfolding written
        sent =
            let bytes = blocks-length bytes_of action_size (λ a. refl) after.actions in
            let size : length (action_bytes after.actions) ≡ action_size * answer.count = omega (arith, counts) in
            let rest = drop (action_size * length after.actions) before in
            ap (λ l. sent_actions (take (action_size * answer.count) l)) writes
            ∙ ap sent_actions (take_at (action_bytes after.actions) rest (action_size * answer.count) size)
            ∙ actions-sent after.actions

        -- how far what is due behind it stands
        module _ (p : Point)
            (is : p ≡ dues_at (TheAnswer answer.code ∷ map TheAction (sent_actions lent-on)) sheet (at + k)) where
          pub point-behind : at + k ≤ p.at
          point-behind =
              let later = dues-follow (TheAnswer answer.code ∷ map TheAction (sent_actions lent-on)) sheet (at + k) in
              omega (arith, ap (λ (x : Point). x.at) is)

          due-here : p ≡ dues_at (dues after) sheet (at + k)
          unfolding stepped
          due-here =
              is
              ∙ ap₂ (λ code l. dues_at (TheAnswer code ∷ map TheAction l) sheet (at + k))
              (ap (λ (x : Stepped). x.code) answers) sent

          turns :
              judged_from (length sheet) start sheet from 0
              ≡ from-point p answer.state
          unfolding stepped
          turns =
              sym (judged-turn (Whole k r) (sym whole))
              ∙ ap (λ l. from-point (dues_at (dues (on_record s l action_room)) sheet (at + k))
              (on_record s l action_room).state) (sym lent)
              ∙ ap₂ from-point (sym due-here) (sym (ap (λ (x : Stepped). x.state) answers))

          pub judged-more : is_right p.stands ≡ true → Judged answer.state p.at (records + 1)
          judged-more right =
              let next = judged_from (length sheet - (records + 1)) answer.state sheet p.at (records + 1) in
              (omega (arith, so_far.0, whole-fits.0, point-behind), turns ∙ ap (λ b. cond b next (verdict_at records p)) right)

          pub judged-fails : is_right p.stands ≡ false → verdict_at records p ≡ judged_from (length sheet) start sheet from 0
          judged-fails other =
              let next = judged_from (length sheet - (records + 1)) answer.state sheet p.at (records + 1) in
              sym (turns ∙ ap (λ b. cond b next (verdict_at records p)) other)

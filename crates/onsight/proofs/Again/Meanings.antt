-- Cross-checks only: rules told a second time.
-- What is said of a history means what it says of each event of it: which state it met, what was answered, which were accepted.
-- Proves: met-each, met-length, codes-each, end_of-last, after-met, met-append, after-each, accepted_of-each, last_is-means, any_is-means,
-- and_left, and_right, every-means, unacknowledged-means.
use mathlib.Core.Path.{◌≡◌, refl, ap, ◌∙◌}
use mathlib.Core.Logic.{◌↔◌, ◌⊎◌, inl, inr, ⊎_elim}
use mathlib.Core.Bool.{Bool, true, false, ◌&&◌, ◌||◌, not, false≢true}
use mathlib.Core.List.{List, [], ◌∷◌, ◌++◌}
use Prim.Native.Nat.{ℕ, zero, suc, ◌<◌}
use native.Mathlib.Omega.{arith}
use lib.ListN.{length, get_or, take}
use borrow.Author.Tests.{eq-eqb, ne_eqb}
use Rattle.onsight.specs.Procedures.{step}
use Rattle.onsight.specs.Histories.{after}
use Rattle.onsight.specs.HistoryWords.{Met, met, end_of, codes, accepted_of, last_is, any_is, every, unacknowledged, is_acknowledgement}
use Rattle.onsight.specs.declared.event.Event.{Event}
use Rattle.onsight.specs.declared.event.Event.TheVariants.{Acknowledgement}
use Rattle.onsight.specs.declared.procedure.State.{State}
use Rattle.onsight.proofs.Again.Tests.{is_acknowledgement-means}

-- the event at each place of a history met the state after those before it, and was answered by the step there
-- meaning
pub met-each : (s : State) (es : List Event) (i : ℕ) (m : Met) (e : Event)
    → i < length es
    → get_or (met s es) i m
    ≡ record { state = after s (take i es); event = get_or es i e; answer = step (after s (take i es)) (get_or es i e) }
unfolding after met
met-each s [] i m e less = absurd (omega arith)
met-each s (f ∷ es) zero m e less = refl
met-each s (f ∷ es) (suc i) m e less = met-each (step s f).state es i m e (omega arith)

-- and there is one for each event
-- meaning
pub met-length : (s : State) (es : List Event) → length (met s es) ≡ length es
unfolding met
met-length s [] = refl
met-length s (e ∷ es) = ap suc (met-length (step s e).state es)

-- the number at each place is that of the step there, and there are no others
-- meaning
pub codes-each : (s : State) (es : List Event) (i d : ℕ) (e : Event)
    → (length (codes s es) ≡ length es)
    × (i < length es → get_or (codes s es) i d ≡ (step (after s (take i es)) (get_or es i e)).code)
unfolding after met
codes-each s [] i d e = (refl, λ less. absurd (omega arith))
codes-each s (f ∷ es) zero d e = (ap suc (codes-each (step s f).state es zero d e).0, λ less. refl)
codes-each s (f ∷ es) (suc i) d e =
    let rest = codes-each (step s f).state es i d e in
    (ap suc rest.0, λ less. rest.1 (omega arith))

-- the state that the last one left
-- meaning
pub end_of-last : (s : State) (ms : List Met) (m : Met)
    → (end_of s [] ≡ s)
    × (end_of s (ms ++ (m ∷ [])) ≡ m.answer.state)
unfolding end_of
end_of-last s [] m = (refl, refl)
end_of-last s (n ∷ ms) m = (refl, (end_of-last n.answer.state ms m).1)

-- the state after a history is the one that its last event left
-- meaning
pub after-met : (s : State) (es : List Event) → after s es ≡ end_of s (met s es)
unfolding after met end_of
after-met s [] = refl
after-met s (e ∷ es) = after-met (step s e).state es

pub met-append : (s : State) (es fs : List Event) → met s (es ++ fs) ≡ met s es ++ met (after s es) fs
unfolding after met
met-append s [] fs = refl
met-append s (e ∷ es) fs =
    ap (λ ms. record { state = s; event = e; answer = step s e } ∷ ms) (met-append (step s e).state es fs)

-- the state after no event is the one before, and after one more event the one that its step leaves
-- meaning
pub after-each : (s : State) (es : List Event) (e : Event)
    → (after s [] ≡ s)
    × (after s (es ++ (e ∷ [])) ≡ (step (after s es) e).state)
unfolding after met
after-each s es e = (
  refl,
  after-met s (es ++ (e ∷ []))
      ∙ ap (end_of s) (met-append s es (e ∷ []))
      ∙ (end_of-last s (met s es) (record { state = after s es; event = e; answer = step (after s es) e })).1,
)

-- those that were answered 0, in their order, and no others
-- meaning
pub accepted_of-each : (m : Met) (ms : List Met)
    → (accepted_of [] ≡ [])
    × (m.answer.code ≡ 0 → accepted_of (m ∷ ms) ≡ m ∷ accepted_of ms)
    × ((m.answer.code ≡ 0 → ⊥) → accepted_of (m ∷ ms) ≡ accepted_of ms)
unfolding accepted_of
accepted_of-each m ms = (
  refl,
  (λ is. simp (eq-eqb m.answer.code 0 is)),
  (λ other. simp (ne_eqb m.answer.code 0 other)),
)

-- the test of the last one; where there is none, what is given for that
-- meaning
pub last_is-means : (test : Met → Bool) (none : Bool) (ms : List Met) (m : Met)
    → (last_is test none [] ≡ none)
    × (last_is test none (ms ++ (m ∷ [])) ≡ test m)
unfolding last_is
last_is-means test none [] m = (refl, refl)
last_is-means test none (n ∷ ms) m = (refl, (last_is-means test (test n) ms m).1)

-- there is one among them that passes the test
abbrev One : (Event → Bool) → Met → List Met → Type 0
One test d ms = (i : ℕ) × ((i < length ms) × (test (get_or ms i d).event ≡ true))

or-either : (a b : Bool) → (a || b) ≡ true → (a ≡ true) ⊎ (b ≡ true)
or-either true b h = inl refl
or-either false b h = inr h

or_right : (a b : Bool) → b ≡ true → (a || b) ≡ true
or_right true b h = refl
or_right false b h = h

-- one of them passes the test, or it was so before
-- meaning
pub any_is-means : (test : Event → Bool) (before : Bool) (ms : List Met) (d : Met)
    → (any_is test before ms ≡ true)
    ↔ ((before ≡ true) ⊎ ((i : ℕ) × ((i < length ms) × (test (get_or ms i d).event ≡ true))))
unfolding any_is
any_is-means test before [] d = (inl, ⊎_elim (λ h. h) (λ h. let less = h.1.0 in absurd (omega arith)))
any_is-means test before (m ∷ ms) d =
    let rest = any_is-means test (before || test m.event) ms d in
    ((λ h. ⊎_elim here later (rest.0 h)), (λ h. rest.1 (⊎_elim was there h)))
  where
    here : (before || test m.event) ≡ true → (before ≡ true) ⊎ One test d (m ∷ ms)
    here h = ⊎_elim inl (λ passes. inr (zero, (omega arith, passes))) (or-either before (test m.event) h)

    later : One test d ms → (before ≡ true) ⊎ One test d (m ∷ ms)
    later (i, (less, passes)) = inr (suc i, (omega arith, passes))

    was : before ≡ true → ((before || test m.event) ≡ true) ⊎ One test d ms
    was h = inl (ap (λ b. b || test m.event) h)

    there : One test d (m ∷ ms) → ((before || test m.event) ≡ true) ⊎ One test d ms
    there (zero, (less, passes)) = inl (or_right before (test m.event) passes)
    there (suc i, (less, passes)) = inr (i, (omega arith, passes))

pub and_left : (a b : Bool) → (a && b) ≡ true → a ≡ true
and_left true b h = refl
and_left false b h = h

pub and_right : (a b : Bool) → (a && b) ≡ true → b ≡ true
and_right true b h = h
and_right false b h = absurd (false≢true h)

-- the event at each place passes the test
-- meaning
pub every-means : (test : Event → Bool) (es : List Event) (d : Event)
    → (every test es ≡ true)
    ↔ ((i : ℕ) → i < length es → test (get_or es i d) ≡ true)
unfolding every
every-means test [] d = ((λ h i less. absurd (omega arith)), (λ all. refl))
every-means test (e ∷ es) d =
    let rest = every-means test es d in (
      (λ h. each (and_left (test e) (every test es) h) (rest.0 (and_right (test e) (every test es) h))),
      (λ all. both (test e) (all zero (omega arith)) (rest.1 (λ i less. all (suc i) (omega arith)))),
    )
  where
    each : test e ≡ true
        → ((i : ℕ) → i < length es → test (get_or es i d) ≡ true)
        → (i : ℕ)
        → i < length (e ∷ es)
        → test (get_or (e ∷ es) i d) ≡ true
    each h all zero less = h
    each h all (suc i) less = all i (omega arith)

    both : (b : Bool) → b ≡ true → every test es ≡ true → (b && every test es) ≡ true
    both true h all = all
    both false h all = h

not-means : (b : Bool) → (not b ≡ true) ↔ (b ≡ true → ⊥)
not-means true = ((λ h. absurd (false≢true h)), (λ h. absurd (h refl)))
not-means false = ((λ h. false≢true), (λ h. refl))

-- no event of the history is an acknowledgement
-- meaning
pub unacknowledged-means : (es : List Event) (d : Event)
    → (unacknowledged es ≡ true)
    ↔ ((i : ℕ) → i < length es → get_or es i d ≡ Acknowledgement → ⊥)
unacknowledged-means es d = (
  (λ h i less is.
      (not-means (is_acknowledgement (get_or es i d))).0 (means.0 h i less) ((is_acknowledgement-means (get_or es i d)).1 is)),
  (λ none. means.1 (λ i less.
      (not-means (is_acknowledgement (get_or es i d))).1 (λ is. none i less ((is_acknowledgement-means (get_or es i d)).0 is)))),
)
  where
    means : (unacknowledged es ≡ true) ↔ ((i : ℕ) → i < length es → not (is_acknowledgement (get_or es i d)) ≡ true)
    means = every-means (λ e. not (is_acknowledgement e)) es d

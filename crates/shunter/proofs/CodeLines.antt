-- What the code does with a line: who waits after a step, as the queue is made anew, and who of them is served.
-- Defines: Joined, Added, ServedAs.
-- Proves: joined-three, waiting_kept, serve-none, serve-nobody, serve-one, serve-first, serve-both.
use mathlib.Core.Path.{◌≡◌, refl, sym, ap, ap₂, subst⁻¹, ◌∙◌}
use mathlib.Core.Bool.{Bool, true, false, cond, not}
use mathlib.Core.List.{List, [], ◌∷◌, ◌++◌, append-nil, append_assoc}
use Prim.Native.Nat.{ℕ, ◌+◌, ◌≤◌, ◌<◌}
use native.Mathlib.Omega.{arith}
use lib.Dec.{eqb}
use lib.ListN.{length, take, drop, length-append, length-map, drop_of_length-le}
use lib.Seq.{take_all}
use Rattle.wire.proofs.Tests.{cond-case}
use Rattle.place.specs.Places.{is_free}
use Rattle.place.specs.declared.place.Place.{Place}
use Rattle.unit.specs.Forms.{most_actions, listed}
use Rattle.unit.specs.declared.answer.Action.{Action}
use Rattle.unit.specs.declared.answer.Actions.{Actions}
use Rattle.shunter.specs.Queues.{modem_count, no_place, somebody, waiting, queued, in_order, place_at}
use Rattle.shunter.specs.Shunting.{kept, first_requests}
use Rattle.shunter.specs.Sending.{still_held, first_request}
use Rattle.shunter.specs.declared.queue.Queue.{Queue}
use Rattle.shunter.proofs.Queued.{Named, somebody-named, named-append, waiting_none, waiting-one, waiting-two, waiting-queued}
use Rattle.shunter.proofs.Queued.{queued-ordered, queued-waiting}
use Rattle.shunter.proofs.Gathered.{kept_append}

-- what the code promises of one that joins
abbrev pub Joined : Queue → ℕ → Queue → Type 0
Joined q i r = in_order q ≡ true → length (waiting q ++ somebody i) ≤ modem_count → r ≡ queued (waiting q ++ somebody i)

-- one joins behind a row
joined-row : (is : List ℕ) (q r : Queue) (i : ℕ)
    → Named is
    → length (is ++ somebody i) ≤ modem_count
    → q ≡ queued is
    → Joined q i r
    → r ≡ queued (is ++ somebody i)
joined-row is q r i named few made joins =
    let fewer : length is ≤ modem_count = omega (arith, length-append is (somebody i)) in
    let same : waiting q ≡ is = ap waiting made ∙ waiting-queued is named fewer in
    joins (ap in_order made ∙ queued-ordered is named) (subst⁻¹ (λ l. length (l ++ somebody i) ≤ modem_count) same few)
    ∙ ap (λ l. queued (l ++ somebody i)) same

-- three join, one after the other
pub joined-three : (q₀ q₁ q₂ q₃ : Queue) (a b j : ℕ)
    → q₀ ≡ queued []
    → Joined q₀ a q₁
    → Joined q₁ b q₂
    → Joined q₂ j q₃
    → length ((somebody a ++ somebody b) ++ somebody j) ≤ modem_count
    → q₃ ≡ queued ((somebody a ++ somebody b) ++ somebody j)
joined-three q₀ q₁ q₂ q₃ a b j none first second third few =
    let two = length-append (somebody a) (somebody b) in
    let three = length-append (somebody a ++ somebody b) (somebody j) in
    let front = joined-row [] q₀ q₁ a tt (omega arith) none first in
    let both = joined-row (somebody a) q₁ q₂ b (somebody-named a) (omega arith) front second in
    let named = named-append (somebody a) (somebody b) (somebody-named a) (somebody-named b) in
    joined-row (somebody a ++ somebody b) q₂ q₃ j named few both third

module _ (after : List Place) where
  -- one half of the queue, where it still has its place
  half-kept : (i : ℕ) → kept (λ k. not (is_free (place_at after k))) (somebody i) ≡ somebody (still_held after i)
  unfolding kept
  half-kept i = by (is_free (place_at after i)) refl
    where
      by : (free : Bool)
          → is_free (place_at after i) ≡ free
          → kept (λ k. not (is_free (place_at after k))) (somebody i) ≡ somebody (cond free no_place i)
      by true is =
          cond-case (λ l. kept (λ k. not (is_free (place_at after k))) l ≡ []) (eqb i no_place) [] (i ∷ [])
          (λ none. refl)
          (λ some. ap (λ b. cond (not b) (i ∷ []) []) is)
      by false is =
          cond-case (λ l. kept (λ k. not (is_free (place_at after k))) l ≡ l) (eqb i no_place) [] (i ∷ [])
          (λ none. refl)
          (λ some. ap (λ b. cond (not b) (i ∷ []) []) is)

  -- those that wait and still have their places
  pub waiting_kept : (q : Queue)
      → kept (λ k. not (is_free (place_at after k))) (waiting q)
      ≡ somebody (still_held after q.first) ++ somebody (still_held after q.second)
  unfolding waiting
  waiting_kept q =
      kept_append (λ k. not (is_free (place_at after k))) (somebody q.first) (somebody q.second)
      ∙ ap₂ ◌++◌ (half-kept q.first) (half-kept q.second)

-- what the code promises of one more action
abbrev pub Added : Actions → Action → Actions → Type 0
Added out a r = (acts : List Action) → length acts < most_actions → out ≡ listed acts → r ≡ listed (acts ++ (a ∷ []))

-- the actions, with the requests of those that are served, and those that go on waiting
abbrev pub ServedAs : List Place → List Action → ℕ → List ℕ → Actions → Queue → Type 0
ServedAs ps acts free line a q = (a ≡ listed (acts ++ first_requests ps (take free line))) × (q ≡ queued (drop free line))

module _ (ps : List Place) (acts : List Action) (out : Actions) (is : out ≡ listed acts) (line : Queue) (free : ℕ) where
  -- no modem is free
  pub serve-none : in_order line ≡ true → free ≡ 0 → ServedAs ps acts free (waiting line) out line
  serve-none ordered none =
      subst⁻¹ (λ n. ServedAs ps acts n (waiting line) out line) none
      (is ∙ ap listed (sym (append-nil acts)), queued-waiting line ordered)

  -- there is a modem for each
  serve-all : (all : List ℕ) (a : Actions) (q : Queue)
      → waiting line ≡ all
      → length all ≤ free
      → a ≡ listed (acts ++ first_requests ps all)
      → q ≡ queued []
      → ServedAs ps acts free (waiting line) a q
  serve-all all a q wait enough made left =
      subst⁻¹ (λ l. ServedAs ps acts free l a q) wait (
        made ∙ ap (λ l. listed (acts ++ first_requests ps l)) (sym (take_all free all enough)),
        left ∙ ap queued (sym (drop_of_length-le all enough)),
      )

  -- nobody waits
  pub serve-nobody : in_order line ≡ true → line.first ≡ no_place → ServedAs ps acts free (waiting line) out line
  serve-nobody ordered empty =
      let none = waiting_none line ordered empty in
      serve-all [] out line none (omega arith) (is ∙ ap listed (sym (append-nil acts)))
      (queued-waiting line ordered ∙ ap queued none)

  module _
      (few : length (acts ++ first_requests ps (take free (waiting line))) ≤ most_actions)
      (some : free ≡ 0 → ⊥)
      (front : line.first ≡ no_place → ⊥)
      (a : Action)
      (once : Actions)
      (asked : a ≡ first_request ps line.first)
      (added : Added out a once)
    where
      -- there is room for those that are served
      room : (now : List ℕ) → take free (waiting line) ≡ now → length acts + length now ≤ most_actions
      room now same =
          omega (
            arith,
            few,
            ap (λ l. length (acts ++ first_requests ps l)) same,
            length-append acts (first_requests ps now),
            length-map now (first_request ps),
          )

      -- the first request stands behind the other actions
      first-sent : length acts < most_actions → once ≡ listed (acts ++ (first_request ps line.first ∷ []))
      first-sent fits = added acts fits is ∙ ap (λ b. listed (acts ++ (b ∷ []))) asked

      -- one waits
      pub serve-one : (q : Queue) → line.second ≡ no_place → q ≡ queued [] → ServedAs ps acts free (waiting line) once q
      serve-one q alone left =
          let wait = waiting-one line front alone in
          let enough : 1 ≤ free = omega arith in
          let fits = room _ (ap (take free) wait ∙ take_all free (line.first ∷ []) enough) in
          serve-all (line.first ∷ []) once q wait enough (first-sent (omega arith)) left

      module _ (behind : line.second ≡ no_place → ⊥) where
        -- two wait, one modem is free
        pub serve-first : free ≡ 1 → ServedAs ps acts free (waiting line) once (record { first = line.second; second = no_place })
        unfolding queued
        serve-first one =
            let wait = waiting-two line front behind in
            let now : take free (waiting line) ≡ line.first ∷ [] = ap₂ take one wait in
            let later : drop free (waiting line) ≡ line.second ∷ [] = ap₂ drop one wait in
            let fits = room _ now in
            (first-sent (omega arith) ∙ ap (λ l. listed (acts ++ first_requests ps l)) (sym now), ap queued (sym later))

        -- two wait, both modems are free
        pub serve-both : (b : Action) (twice : Actions) (q : Queue)
            → (free ≡ 1 → ⊥)
            → b ≡ first_request ps line.second
            → Added once b twice
            → q ≡ queued []
            → ServedAs ps acts free (waiting line) twice q
        serve-both b twice q more next then left =
            let wait = waiting-two line front behind in
            let enough : 2 ≤ free = omega arith in
            let both = line.first ∷ line.second ∷ [] in
            let fits = room both (ap (take free) wait ∙ take_all free both enough) in
            let sent = acts ++ (first_request ps line.first ∷ []) in
            serve-all both twice q wait enough
            (then sent (simp length-append (omega arith)) (first-sent (omega arith))
            ∙ ap (λ x. listed (sent ++ (x ∷ []))) next
            ∙ ap listed (append_assoc acts (first_request ps line.first ∷ []) (first_request ps line.second ∷ [])))
            left

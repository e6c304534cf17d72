-- Cross-checks only: rules told a second time.
-- Request Q-14: what a call of the step and one of the cold start answer and leave, in the numbers of the paper.
-- Proves: step-ten, step-unread, step-reads, step-refused, step-accepted, step-later, seen_after-empty, start-thirteen, start-ten,
-- start-done.
use mathlib.Core.Path.{◌≡◌, refl, sym, ap, ap₂, ◌∙◌}
use mathlib.Core.Logic.{◌↔◌}
use mathlib.Core.Bool.{Bool, true, false, cond}
use mathlib.Core.List.{List, [], ◌∷◌, ◌++◌}
use Prim.Native.Nat.{ℕ, zero, suc, ◌*◌, ◌≤◌, ◌<◌}
use native.Mathlib.Omega.{arith}
use lib.Dec.{eqb}
use lib.IntN.{ℤ, pos, negsuc, neg_ℤ, nat_abs}
use lib.ListN.{length, drop}
use borrow.Author.Tests.{eq-eqb, eqb-true, eqb-false, ne_eqb, le-leb}
use borrow.Table.Steps.{cases}
use Rattle.wire.specs.Refusals.{accepted, wrong_length, unknown_kind, no_room, not_sound, bad_limits}
use Rattle.wire.proofs.Tests.{true-false, cond-case}
use Rattle.record.specs.Records.{reading}
use Rattle.place.specs.declared.limits.Limits.{Limits}
use Rattle.unit.specs.Steps.{Outcome, refused}
use Rattle.unit.specs.States.{sound, limits_ok, cold, no_limits, cold_start}
use Rattle.unit.specs.OnRecords.{on_reading, on_record, written}
use Rattle.unit.specs.declared.state.State.{State}
use Rattle.unit.specs.declared.start.Started.{Started}
use Rattle.unit.proofs.Again.Writing.{written_none, written-later}
use Rattle.unit.proofs.Facts.{sound-facts}
use Rattle.unit.proofs.Starts.{cold-sound}
use Rattle.unit.proofs.Again.Starts.{cold_start-accepted, cold_start-refused}
use Rattle.image.specs.Images.{kind_a2, size_a2, image_a2, imaged_a2, write_a2, state_in, is_body_of, read_refused, read_a2}
use Rattle.image.specs.Bodies.{read_body, of_length}
use Rattle.image.specs.declared.write.Stored.{Stored}
use Rattle.image.proofs.Bytes.{image_a2-length}
use Rattle.image.proofs.Putting.{wrote-a2-no-room, wrote-a2}
use Rattle.image.proofs.RoundTrips.{read_a2-written, written_a2-read}
use Rattle.image.proofs.Rescuing.{limits-started}
use Rattle.image.specs.Calls.{on_image, image_after}
use Rattle.firmware.specs.Calls.{returned, Seen, seen_after}
use Rattle.firmware.specs.Along.{is_accepted}
use Rattle.firmware.specs.AlongWords.{count_of}
use Rattle.firmware.specs.Starts.{limits_of, start_returned, start_image}
use Rattle.image.proofs.Calling.{on_image-no-room, on_image-unread, on_image-steps}
use Rattle.firmware.proofs.Calling.{on_image-none, on_image-few, on_image-sound}
use Rattle.firmware.proofs.Calling.{on_image-next, next-written}
use Rattle.firmware.proofs.Following.{written-length, done-returned, on_image-count, on_image-fits}

module _ (image bytes actions : List ℕ) where
  -- what a call shows of an outcome
  abbrev shown : Outcome → Seen
  shown o = record { number = returned o; image = image_after o image; actions = written o.actions actions }

  -- "10 for the action buffer", and nothing written
  -- promise
  pub step-ten :
      length actions < 20
      → seen_after image bytes actions ≡ record { number = negsuc 9; image = image; actions = actions }
  unfolding seen_after
  step-ten short =
      ap shown (on_image-no-room image bytes (length actions) short)
      ∙ ap (λ l. record { number = negsuc 9; image = image; actions = l }) (written_none actions)

  module _ (enough : 20 ≤ length actions) where
    -- "then those of reading an A2 image (A1 gives 2)", and nothing written
    -- promise
    pub step-unread :
        ((read_a2 image).code ≡ accepted → ⊥)
        → seen_after image bytes actions ≡ record { number = neg_ℤ (pos (read_a2 image).code); image = image; actions = actions }
    unfolding seen_after
    step-unread other =
        let b = ne_eqb (read_a2 image).code accepted other in
        ap shown (on_image-unread image bytes (length actions) enough other)
        ∙ (λ i.
        record {
          number = cond (b i) (pos 0) (neg_ℤ (pos (read_a2 image).code));
          image = cond (b i) (image_a2 (read_a2 image).state) image;
          actions = written_none actions i;
        })

    -- "It equals reading the image, one step and writing it": "the number of actions or minus the refusal" of the step, its actions
    -- written, and the image that writing the next state leaves
    -- promise
    pub step-reads :
        (read_a2 image).code ≡ accepted
        → seen_after image bytes actions
        ≡ record {
          number =
              cond (eqb (on_record (read_a2 image).state bytes (length actions)).code 0)
              (pos (length (on_record (read_a2 image).state bytes (length actions)).actions))
              (neg_ℤ (pos (on_record (read_a2 image).state bytes (length actions)).code));
          image =
              cond (eqb (on_record (read_a2 image).state bytes (length actions)).code 0)
              (imaged_a2 (on_record (read_a2 image).state bytes (length actions)).state image)
              image;
          actions = written (on_record (read_a2 image).state bytes (length actions)).actions actions;
        }
    unfolding seen_after
    step-reads read =
        let o : Outcome = on_record (read_a2 image).state bytes (length actions) in
        let with : List ℕ → Seen =
        λ l.
        record {
          number = returned o;
          image = cond (eqb o.code accepted) l image;
          actions = written o.actions actions;
        } in
        ap shown (on_image-steps image bytes (length actions) enough read)
        ∙ ap with (sym (next-written image bytes (length actions) read))

  -- "A refusal writes neither image nor actions": a number below 0, and nothing has changed
  -- promise
  pub step-refused :
      is_accepted (seen_after image bytes actions).number ≡ false
      → ((seen_after image bytes actions).image ≡ image) × ((seen_after image bytes actions).actions ≡ actions)
  unfolding seen_after
  step-refused below =
      let o : Outcome = on_image image bytes (length actions) in
      let other = sym (done-returned o) ∙ below in (
        ap (λ b. cond b (image_a2 o.state) image) other,
        ap (λ acts. written acts actions) (on_image-none image bytes (length actions) (eqb-false o.code accepted other))
            ∙ written_none actions,
      )

  -- "the image then holds the next state": of an accepted call it has 42 bytes, and reads as the state of the step
  -- promise
  pub step-accepted :
      is_accepted (seen_after image bytes actions).number ≡ true
      → (length (seen_after image bytes actions).image ≡ 42)
      × (read_a2 (seen_after image bytes actions).image
      ≡ record { code = accepted; state = (on_record (read_a2 image).state bytes (length actions)).state })
  unfolding seen_after
  step-accepted above =
      let o : Outcome = on_image image bytes (length actions) in
      let ok = sym (done-returned o) ∙ above in
      let is = ap (λ b. cond b (image_a2 o.state) image) ok in
      let good = on_image-sound image bytes (length actions) (eqb-true o.code accepted ok) in
      let next = on_image-next image bytes (length actions) (eqb-true o.code accepted ok) in (
        ap length is ∙ image_a2-length o.state (sound-facts o.state good).four,
        ap read_a2 is ∙ read_a2-written o.state good ∙ ap (λ x. record { code = accepted; state = x }) next,
      )

  -- "later bytes stay": the buffer is as long as it was, and behind the actions as it was; four are the most
  -- promise
  pub step-later :
      (count_of (seen_after image bytes actions).number ≤ 4)
      × (length (seen_after image bytes actions).actions ≡ length actions)
      × (drop (5 * count_of (seen_after image bytes actions).number) (seen_after image bytes actions).actions
      ≡ drop (5 * count_of (seen_after image bytes actions).number) actions)
  unfolding seen_after
  step-later =
      let o : Outcome = on_image image bytes (length actions) in
      let counted = on_image-count image bytes (length actions) in (
        omega (arith, counted, on_image-few image bytes (length actions)),
        written-length o.actions actions (on_image-fits image bytes actions),
        ap (λ n. drop (5 * n) (written o.actions actions)) counted
            ∙ written-later o.actions actions
            ∙ ap (λ n. drop (5 * n) actions) (sym counted),
      )

-- 1 is not what a reading answers for the length of an image of 42 bytes
read-not-one : (image : List ℕ) → length image ≡ 42 → (read_a2 image).code ≡ 1 → ⊥
unfolding read_a2
read-not-one [] long = λ one. absurd (omega arith)
read-not-one (kind ∷ body) long =
    cond-case NotOne (eqb kind kind_a2) (of_length size_a2 (kind ∷ body) body) (read_refused unknown_kind)
    (λ known.
    cond-case NotOne (eqb (length (kind ∷ body)) size_a2) (read_body body) (read_refused wrong_length)
    (λ right.
    cond-case NotOne (is_body_of (state_in body) body) (record { code = accepted; state = state_in body }) (read_refused not_sound)
    (λ good one. absurd (omega arith))
    (λ spoilt one. absurd (omega arith)))
    (λ wrong one. absurd (eqb-false (length (kind ∷ body)) size_a2 wrong long)))
    (λ unknown one. absurd (omega arith))
  where
    NotOne : Started → Type 0
    NotOne r = r.code ≡ 1 → ⊥

empty-refused : (s : State) (room : ℕ)
    → 20 ≤ room
    → sound s ≡ true
    → on_record s [] room ≡ refused wrong_length s
unfolding on_record reading
empty-refused s room enough good =
    ap₂ (λ a b. cond a (cond b (on_reading s (reading [])) (refused not_sound s)) (refused no_room s)) (le-leb 20 room enough) good

-- an empty record asks whether an image of 42 bytes reads: 1 if it does, and nothing has changed
-- promise
pub seen_after-empty : (image actions : List ℕ)
    → length image ≡ 42
    → 20 ≤ length actions
    → ((seen_after image [] actions).number ≡ negsuc 0) ↔ ((read_a2 image).code ≡ accepted)
seen_after-empty image actions long enough = (
  (λ one. by (eqb (read_a2 image).code accepted) refl one),
  (λ read. ap (λ (x : Seen). x.number) (step-reads image [] actions enough read) ∙ refused-empty read),
)
  where
    one_of : (k : ℕ) → neg_ℤ (pos k) ≡ negsuc 0 → k ≡ 1
    one_of zero h = true-false true refl (ap is_accepted h)
    one_of (suc k) h = ap (λ z. nat_abs z) h

    by : (b : Bool)
        → eqb (read_a2 image).code accepted ≡ b
        → (seen_after image [] actions).number ≡ negsuc 0
        → (read_a2 image).code ≡ accepted
    by true is one = eqb-true (read_a2 image).code accepted is
    by false is one =
        let unread = step-unread image [] actions enough (eqb-false (read_a2 image).code accepted is) in
        absurd
        (read-not-one image long (one_of (read_a2 image).code (sym (ap (λ (x : Seen). x.number) unread) ∙ one)))

    refused-empty : (read_a2 image).code ≡ accepted
        → cond (eqb (on_record (read_a2 image).state [] (length actions)).code 0)
        (pos (length (on_record (read_a2 image).state [] (length actions)).actions))
        (neg_ℤ (pos (on_record (read_a2 image).state [] (length actions)).code))
        ≡ negsuc 0
    refused-empty read = ap returned (empty-refused (read_a2 image).state (length actions) enough (written_a2-read image read).0)

-- the call of the cold start, by the three numbers that C gives
module _ (lowest highest tries : ℕ) (image : List ℕ) where
  -- the limits that are asked for
  abbrev m : Limits
  m = limits_of lowest highest tries

  -- the number by whether the start is accepted
  abbrev numbered : Bool → ℤ
  numbered t = cond t (neg_ℤ (pos (write_a2 (cold_start m).state (length image)).code)) (neg_ℤ (pos (cold_start m).code))

  refused-thirteen : ((cold_start m).code ≡ accepted → ⊥) → (cold_start m).code ≡ 13
  refused-thirteen other =
      cases (limits_ok m)
      (λ ok. absurd (other (eqb-true (cold_start m).code accepted (limits-started m ∙ ok))))
      (λ bad. cold_start-refused m bad)

  -- 13, "an X over 7 or lowest over highest", "also for n outside 1 to 9", and nothing written
  -- promise
  pub start-thirteen :
      ((lowest ≤ highest) × (highest ≤ 7) × (1 ≤ tries) × (tries ≤ 9) → ⊥)
      → (start_returned (limits_of lowest highest tries) (length image) ≡ negsuc 12)
      × (start_image (limits_of lowest highest tries) image ≡ image)
  start-thirteen outside =
      let other : (cold_start m).code ≡ accepted → ⊥ = λ ok. outside ((cold_start-accepted m).0 ok) in
      let b = ne_eqb (cold_start m).code accepted other in (
        ap numbered b
            ∙ ap (λ k. neg_ℤ (pos k)) (refused-thirteen other),
        ap (λ t. cond t (imaged_a2 (cold_start m).state image) image) b,
      )

  module _ (within : (lowest ≤ highest) × (highest ≤ 7) × (1 ≤ tries) × (tries ≤ 9)) where
    ok : (cold_start m).code ≡ accepted
    ok = (cold_start-accepted m).1 within

    pub state-is : (cold_start m).state ≡ cold (record { lowest = lowest; highest = highest; tries = tries })
    unfolding cold_start
    state-is =
        let good = sym (limits-started m) ∙ eq-eqb (cold_start m).code accepted ok in
        let pick : Bool → Started =
        λ b. cond b (record { code = accepted; state = cold m }) (record { code = bad_limits; state = cold no_limits }) in
        ap (λ b. (pick b).state) good

    number : start_returned m (length image) ≡ neg_ℤ (pos (write_a2 (cold_start m).state (length image)).code)
    number = ap numbered (eq-eqb (cold_start m).code accepted ok)

    buffer : start_image m image ≡ imaged_a2 (cold_start m).state image
    buffer = ap (λ t. cond t (imaged_a2 (cold_start m).state image) image) (eq-eqb (cold_start m).code accepted ok)

    -- then 10, for a buffer under 42 bytes, and nothing written
    -- promise
    pub start-ten :
        length image < 42
        → (start_returned (limits_of lowest highest tries) (length image) ≡ negsuc 9)
        × (start_image (limits_of lowest highest tries) image ≡ image)
    start-ten short =
        let law = wrote-a2-no-room (cold_start m).state image short in
        (number ∙ ap (λ (x : Stored). neg_ℤ (pos x.code)) (sym law.0), buffer ∙ sym law.1)

    -- else 0, the image of the cold state at the front, and "later bytes stay"
    -- promise
    pub start-done :
        42 ≤ length image
        → (start_returned (limits_of lowest highest tries) (length image) ≡ pos 0)
        × (start_image (limits_of lowest highest tries) image
        ≡ image_a2 (cold (record { lowest = lowest; highest = highest; tries = tries })) ++ drop 42 image)
    start-done room =
        let whole = image_a2 (cold_start m).state ++ drop 42 image in
        let law = wrote-a2 (cold_start m).state image room whole (cold-sound m) refl in (
          number ∙ ap (λ (x : Stored). neg_ℤ (pos x.code)) (sym law.0),
          buffer ∙ sym law.1 ∙ ap (λ x. image_a2 x ++ drop 42 image) state-is,
        )

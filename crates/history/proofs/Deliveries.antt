-- Request Q-11 computed: its promises met by three RBCs and an RIU at work, in four places and three phases.
-- Proves: delivered-every-met, either-answers-met, either-alike-met, either-same-met, later-sets-met, later-leaves-met, row-answers-met,
-- row-alike-met, row-same-met, own-answers-met, interleaved-answers-met, interleaved-alike-met, interleaved-same-met,
-- interleaved-sums-met, interleaved-swaps-met, permuted-sums-met, permuted-interleaved-met.
use mathlib.Core.Path.{◌≡◌, refl, sym, ap, subst, ◌∙◌}
use mathlib.Core.Logic.{◌⊎◌, inl, inr}
use mathlib.Core.Bool.{Bool, true, false, cond}
use mathlib.Core.List.{List, [], ◌∷◌, ◌++◌, map, foldr}
use Prim.Native.Nat.{◌+◌}
use lib.Dec.{lit≤}
use lib.ListN.{get_or}
use Rattle.wire.specs.Bytes.{byte}
use Rattle.wire.specs.Sums.{sum}
use Rattle.wire.proofs.Tests.{All}
use Rattle.record.specs.Partners.{same_partner}
use Rattle.record.specs.Records.{reading}
use Rattle.record.specs.declared.partner.Partner.{Partner}
use Rattle.record.proofs.Partners.{same-eq}
use Rattle.unit.specs.States.{sound}
use Rattle.unit.specs.Kept.{count}
use Rattle.unit.specs.OnRecords.{trace}
use Rattle.unit.specs.declared.last.Last.TheVariants.{Known}
use Rattle.place.specs.Places.{vacant, is_free, held_phase}
use Rattle.place.specs.declared.phase.Phase.TheVariants.{Contacting, Open, Ending}
use Rattle.unit.proofs.Rows.{◌▹◌}
use Rattle.history.specs.Histories.{after}
use Rattle.history.specs.EitherOrder.{Delivered, answer_of, next, alone, Alike}
use Rattle.history.specs.Interleaved.{records_of}
use Rattle.history.specs.Permuted.{DifferAll, Different}
use Rattle.history.specs.Permuted.{Permuted}
use Rattle.history.specs.Interleaved.{of_partner, Interleaved, answers_to}
use Rattle.history.specs.Deliveries.{rbc_one, rbc_two, riu_three, version_one, timeout_two, version_two, up_three, drop_four}
use Rattle.history.specs.Deliveries.{code_and_actions}
use Rattle.history.specs.Deliveries.{working, in_turn, one_by_one, first_answered, second_answered, one_each, one_each_later}
use Rattle.history.proofs.EitherOrder.{either-answers, either-alike, either_same, later-sets, later-leaves}
use Rattle.history.proofs.EitherOrder.{row-answers, row-alike, row_same}
use Rattle.history.proofs.EitherMeans.{delivered-every, permuted-sums, permuted-insert}
use Rattle.history.proofs.Interleaved.{own-answers, interleaved-answers, interleaved-alike, interleaved-same}
use Rattle.history.proofs.InterleavedMeans.{interleaved-sums, interleaved-swaps, permuted-interleaved}

working-sound : sound working ≡ true
unfolding working
working-sound = refl

-- message 39 of RBC 7
-- instance
pub delivered-every-met : (x : Delivered) × (x.bytes ≡ 11 ∷ 0 ∷ 0 ∷ 0 ∷ 7 ∷ 39 ∷ 0 ∷ [])
unfolding reading
delivered-every-met =
    delivered-every (11 ∷ 0 ∷ 0 ∷ 0 ∷ 7 ∷ 39 ∷ 0 ∷ []) refl (inr (inr (inr (inr (inr (refl, refl))))))

-- the timeout of RBC 2 gets its 155 whether or not message 32 of RBC 1 came before it
-- instance
pub either-answers-met :
    (alone (next working version_one) timeout_two ≡ alone working timeout_two)
    × (code_and_actions (alone working timeout_two) ≡ 0 ∷ 155 ∷ [])
unfolding working version_one timeout_two
either-answers-met = (either-answers working working-sound version_one timeout_two refl, refl)

-- message 32 of RBC 1 and of RBC 2
-- instance
pub either-alike-met : Alike (next (next working version_one) version_two) (next (next working version_two) version_one)
unfolding version_one version_two
either-alike-met = either-alike working working-sound version_one version_two refl

-- message 32 of RBC 1 and the drop of RBC 4
-- instance
pub either-same-met :
    (next (next working version_one) drop_four ≡ next (next working drop_four) version_one)
    × (code_and_actions (alone working version_one) ≡ 0 ∷ 159 ∷ [])
    × (code_and_actions (alone working drop_four) ≡ 0 ∷ 156 ∷ [])
unfolding working version_one drop_four sum
either-same-met = (either_same working working-sound version_one drop_four refl (lit≤ tt), refl, refl)

-- instance
pub later-sets-met : (next (next working version_one) version_two).last ≡ Known 0 0 2
unfolding working version_one version_two count
later-sets-met = later-sets working working-sound version_one version_two refl (lit≤ tt)

-- instance
pub later-leaves-met :
    ((next (next working version_one) timeout_two).last ≡ (next working version_one).last)
    × ((next working version_one).last ≡ Known 0 0 1)
unfolding working version_one timeout_two count
later-leaves-met = (later-leaves working working-sound version_one timeout_two refl refl, refl)

one_each-different : Different one_each
unfolding one_each Different DifferAll
one_each-different = (refl ▹ refl ▹ refl ▹ tt) ▹ (refl ▹ refl ▹ tt) ▹ (refl ▹ tt) ▹ tt ▹ tt

-- a row with one event of each of the four
-- instance
pub row-answers-met :
    (map answer_of (trace working (records_of one_each)) ≡ map (alone working) one_each)
    × (map code_and_actions (map (alone working) one_each)
    ≡ (0 ∷ 159 ∷ []) ∷ (0 ∷ 155 ∷ []) ∷ (0 ∷ 155 ∷ []) ∷ (0 ∷ 156 ∷ []) ∷ [])
unfolding working one_each
row-answers-met = (row-answers working working-sound one_each one_each-different, refl)

-- RBC 1 last instead of first
one_each-permuted : Permuted one_each one_each_later
unfolding one_each one_each_later
one_each-permuted = permuted-insert version_one (timeout_two ∷ up_three ∷ drop_four ∷ []) []

-- instance
pub row-same-met :
    (after working (records_of one_each) ≡ after working (records_of one_each_later))
    × (map held_phase (after working (records_of one_each)).places ≡ Open ∷ Contacting 2 ∷ Contacting 1 ∷ Ending 1 ∷ [])
unfolding working one_each sum
row-same-met = (row_same working working-sound one_each-permuted one_each-different (lit≤ tt), refl)

-- messages 32 of RBC 1 and RBC 2 and the up of RIU 3, RBC 1 first or last: the same but for the last known RBC
-- instance
pub row-alike-met :
    Alike (after working (records_of (version_one ∷ version_two ∷ up_three ∷ [])))
    (after working (records_of (version_two ∷ up_three ∷ version_one ∷ [])))
    × ((after working (records_of (version_one ∷ version_two ∷ up_three ∷ []))).last ≡ Known 0 0 2)
    × ((after working (records_of (version_two ∷ up_three ∷ version_one ∷ []))).last ≡ Known 0 0 1)
unfolding working version_one version_two up_three Different DifferAll
row-alike-met = (
  row-alike working working-sound (permuted-insert version_one (version_two ∷ up_three ∷ []) [])
      ((refl ▹ refl ▹ tt) ▹ (refl ▹ tt) ▹ tt ▹ tt),
  refl,
  refl,
)

-- instance
pub permuted-sums-met : foldr (λ (x : Delivered) n. byte x.bytes 0 + n) 0 one_each ≡ 35
unfolding one_each_later
permuted-sums-met = permuted-sums one_each-permuted (λ x. byte x.bytes 0)

-- a partner has a place in the law, or none of a row names it
named-or-none : (P : Partner → Type 0) (p : Partner) (xs : List Delivered)
    → All (λ x. P x.partner) xs
    → P p ⊎ All (λ x. same_partner p x.partner ≡ false) xs
named-or-none P p [] each = inr tt
named-or-none P p (x ∷ xs) each = by (same_partner p x.partner) refl (named-or-none P p xs each.1)
  where
    by : (b : Bool)
        → same_partner p x.partner ≡ b
        → P p ⊎ All (λ x. same_partner p x.partner ≡ false) xs
        → P p ⊎ All (λ x. same_partner p x.partner ≡ false) (x ∷ xs)
    by true is later = inl (subst P (sym (same-eq p x.partner is)) each.0)
    by false is (inl named) = inl named
    by false is (inr none) = inr (is, none)

none-own : (p : Partner) (xs : List Delivered) → All (λ x. same_partner p x.partner ≡ false) xs → of_partner p xs ≡ []
unfolding of_partner
none-own p [] none = refl
none-own p (x ∷ xs) none =
    ap (λ b. cond b (x ∷ []) [] ++ of_partner p xs) none.0 ∙ none-own p xs none.1

-- it is enough to compare the own rows of the partners that are named
interleaved-among : (xs ys : List Delivered)
    → All (λ x. records_of (of_partner x.partner xs) ≡ records_of (of_partner x.partner ys)) xs
    → All (λ y. records_of (of_partner y.partner xs) ≡ records_of (of_partner y.partner ys)) ys
    → Interleaved xs ys
interleaved-among xs ys mine theirs p = by (named-or-none Same p xs mine) (named-or-none Same p ys theirs)
  where
    Same : Partner → Type 0
    Same q = records_of (of_partner q xs) ≡ records_of (of_partner q ys)

    by : Same p ⊎ All (λ x. same_partner p x.partner ≡ false) xs
        → Same p ⊎ All (λ y. same_partner p y.partner ≡ false) ys
        → records_of (of_partner p xs) ≡ records_of (of_partner p ys)
    by (inl same) any = same
    by (inr none) (inl same) = same
    by (inr none) (inr neither) = ap records_of (none-own p xs none ∙ sym (none-own p ys neither))

turns-interleaved : Interleaved in_turn one_by_one
unfolding in_turn one_by_one of_partner
turns-interleaved =
    interleaved-among in_turn one_by_one
    (refl ▹ refl ▹ refl ▹ refl ▹ refl ▹ refl ▹ refl ▹ refl ▹ refl ▹ refl ▹ refl ▹ tt)
    (refl ▹ refl ▹ refl ▹ refl ▹ refl ▹ refl ▹ refl ▹ refl ▹ refl ▹ refl ▹ refl ▹ tt)

answered-interleaved : Interleaved first_answered second_answered
unfolding first_answered second_answered of_partner
answered-interleaved =
    interleaved-among first_answered second_answered (refl ▹ refl ▹ refl ▹ refl ▹ refl ▹ refl ▹ refl ▹ tt)
    (refl ▹ refl ▹ refl ▹ refl ▹ refl ▹ refl ▹ refl ▹ tt)

-- among the events of the others, the three timeouts of RBC 2 get 155, 155 and its release
-- instance
pub own-answers-met :
    (answers_to rbc_two working in_turn
    ≡ map answer_of (trace working (timeout_two.bytes ∷ timeout_two.bytes ∷ timeout_two.bytes ∷ [])))
    × (map code_and_actions (answers_to rbc_two working in_turn) ≡ (0 ∷ 155 ∷ []) ∷ (0 ∷ 155 ∷ [])
    ∷ (0 ∷ 22 ∷ []) ∷ [])
unfolding working in_turn of_partner answers_to
own-answers-met = (own-answers working working-sound rbc_two in_turn, refl)

-- the same answers in both mixtures, for each partner; two RBCs have a message 32
-- instance
pub interleaved-answers-met :
    (answers_to rbc_one working first_answered ≡ answers_to rbc_one working second_answered)
    × (answers_to rbc_two working first_answered ≡ answers_to rbc_two working second_answered)
    × (answers_to riu_three working first_answered ≡ answers_to riu_three working second_answered)
    × (map code_and_actions (answers_to rbc_one working first_answered)
    ≡ (0 ∷ 159 ∷ []) ∷ (0 ∷ 156 ∷ []) ∷ (0 ∷ 22 ∷ []) ∷ [])
    × (map code_and_actions (answers_to rbc_two working first_answered)
    ≡ (0 ∷ 155 ∷ []) ∷ (0 ∷ 159 ∷ []) ∷ (0 ∷ 21 ∷ []) ∷ [])
    × (map code_and_actions (answers_to riu_three working first_answered) ≡ (0 ∷ 155 ∷ []) ∷ [])
unfolding working first_answered answers_to
interleaved-answers-met =
    let same = interleaved-answers working working-sound first_answered second_answered answered-interleaved in
    (same rbc_one, same rbc_two, same riu_three, refl, refl, refl)

-- the same state but for the last known RBC, which is the one whose message 32 came later
-- instance
pub interleaved-alike-met :
    Alike (after working (records_of first_answered)) (after working (records_of second_answered))
    × ((after working (records_of first_answered)).last ≡ Known 0 0 2)
    × ((after working (records_of second_answered)).last ≡ Known 0 0 1)
unfolding working first_answered second_answered
interleaved-alike-met =
    (interleaved-alike working working-sound first_answered second_answered answered-interleaved, refl, refl)

-- the whole state where RBC 1 alone has messages 32, the second refused: RBC 1 open again, RBC 2 released, RIU 3 at its second try, RBC 4
-- ended
-- instance
pub interleaved-same-met :
    (after working (records_of in_turn) ≡ after working (records_of one_by_one))
    × ((after working (records_of in_turn)).last ≡ Known 0 0 1)
    × (map is_free (after working (records_of in_turn)).places ≡ false ∷ true ∷ false ∷ true ∷ [])
    × (held_phase (get_or (after working (records_of in_turn)).places 0 vacant) ≡ Open)
    × (held_phase (get_or (after working (records_of in_turn)).places 2 vacant) ≡ Contacting 2)
    × (map code_and_actions (answers_to rbc_one working in_turn)
    ≡ (0 ∷ 159 ∷ []) ∷ (7 ∷ []) ∷ (0 ∷ 21 ∷ []) ∷ (0 ∷ []) ∷ [])
unfolding working in_turn of_partner sum answers_to
interleaved-same-met =
    (interleaved-same working working-sound in_turn one_by_one turns-interleaved rbc_one refl, refl, refl, refl, refl, refl)

-- instance
pub interleaved-sums-met : foldr (λ bytes n. byte bytes 0 + n) 0 (records_of in_turn) ≡ 104
unfolding one_by_one
interleaved-sums-met = interleaved-sums in_turn one_by_one turns-interleaved (λ bytes. byte bytes 0)

-- instance
pub interleaved-swaps-met : Interleaved (timeout_two ∷ version_one ∷ drop_four ∷ [])
    (timeout_two ∷ drop_four ∷ version_one ∷ [])
unfolding version_one drop_four
interleaved-swaps-met = interleaved-swaps version_one drop_four (timeout_two ∷ []) [] refl

-- instance
pub permuted-interleaved-met : Interleaved one_each one_each_later
permuted-interleaved-met = permuted-interleaved one_each-permuted one_each-different

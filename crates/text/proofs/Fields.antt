-- Cross-checks only: rules told a second time.
-- "Fields are separated by one space": a line and the last line as their fields, and what characters these have.
-- Defines: field, NoNewline.
-- Proves: line-fields, end-fields, spaced-apart, action-characters, partner-bytes, line_plain, end-plain.
use mathlib.Core.Path.{◌≡◌, refl, sym, ap, ap₂, ◌∙◌}
use mathlib.Core.List.{List, [], ◌∷◌, ◌++◌, map, append-nil, append_assoc}
use Prim.Native.Nat.{ℕ, suc, ◌/◌, ◌%◌, ◌≤◌, ◌<◌}
use native.Mathlib.Omega.{arith}
use lib.ListN.{length, get_or}
use lib.Seq.{get_or-append_seam}
use Rattle.wire.specs.Blocks.{blocks}
use Rattle.wire.specs.Bytes.{byte}
use Rattle.wire.proofs.Tests.{All}
use Rattle.record.specs.declared.partner.Partner.{Partner}
use Rattle.unit.specs.declared.answer.Action.{Action}
use Rattle.text.specs.Texts.{decimal, partner_number, action_text, line_text, end_text}
use Rattle.text.specs.Lines.{spaced}
use Rattle.text.proofs.Decimals.{all_append, all-at, digits-all}

-- an action as number:type/partner
abbrev pub field : Action → List ℕ
field a = decimal a.number ++ (58 ∷ (decimal a.partner.kind ++ (47 ∷ decimal (partner_number a.partner))))

-- the actions after another field
spaced-actions : (before : List ℕ) (acts : List Action) → spaced (before ∷ map field acts) ≡ before ++ blocks action_text acts
unfolding spaced blocks action_text
spaced-actions before [] = sym (append-nil before)
spaced-actions before (a ∷ acts) = ap (λ l. before ++ (32 ∷ l)) (spaced-actions (field a) acts)

-- "one line a record (number from 1, kind, 0 or refusal, each action as number:type/partner)": these fields, and a newline
-- promise
pub line-fields : (number kind code : ℕ) (acts : List Action)
    → line_text number kind code acts
    ≡ spaced
    (decimal number
    ∷ decimal kind
    ∷ decimal code
    ∷ map
    (λ a. decimal a.number ++ (58 ∷ (decimal a.partner.kind ++ (47 ∷ decimal (partner_number a.partner)))))
    acts)
    ++ (10 ∷ [])
unfolding line_text spaced
line-fields number kind code acts =
    sym
    (ap (λ l. (decimal number ++ (32 ∷ (decimal kind ++ (32 ∷ l)))) ++ (10 ∷ [])) (spaced-actions (decimal code) acts)
    ∙ simp append_assoc)

-- "and `end`, stop, records read": likewise
-- promise
pub end-fields : (stop read : ℕ)
    → end_text stop read ≡ spaced ((101 ∷ 110 ∷ 100 ∷ []) ∷ decimal stop ∷ decimal read ∷ []) ++ (10 ∷ [])
unfolding end_text spaced
end-fields stop read = simp append_assoc

-- two rows of characters up to a space that read the same are the same
apart : (f g x y : List ℕ)
    → ((i : ℕ) → byte f i ≡ 32 → ⊥)
    → ((i : ℕ) → byte g i ≡ 32 → ⊥)
    → f ++ (32 ∷ x) ≡ g ++ (32 ∷ y)
    → (f ≡ g) × (x ≡ y)
apart [] [] x y p q e = (refl, cc)
apart [] (d ∷ g) x y p q e = absurd (q 0 (cc))
apart (c ∷ f) [] x y p q e = absurd (p 0 (cc))
apart (c ∷ f) (d ∷ g) x y p q e =
    let first : c ≡ d = cc in
    let rest = apart f g x y (λ i. p (suc i)) (λ i. q (suc i)) (cc) in
    (ap₂ ◌∷◌ first rest.0, rest.1)

no-space : (f g y : List ℕ) → ((i : ℕ) → byte f i ≡ 32 → ⊥) → f ≡ g ++ (32 ∷ y) → ⊥
no-space f g y p e = p (length g) (ap (λ l. byte l (length g)) e ∙ get_or-append_seam g 32 y 0)

-- fields with no space in them can be told apart again
-- meaning
pub spaced-apart : (fs gs : List (List ℕ))
    → 1 ≤ length fs
    → 1 ≤ length gs
    → ((i j : ℕ) → byte (get_or fs i []) j ≡ 32 → ⊥)
    → ((i j : ℕ) → byte (get_or gs i []) j ≡ 32 → ⊥)
    → spaced fs ≡ spaced gs
    → fs ≡ gs
unfolding spaced
spaced-apart [] gs some any p q e = absurd (omega arith)
spaced-apart (f ∷ fs) [] some any p q e = absurd (omega arith)
spaced-apart (f ∷ []) (g ∷ []) some any p q e = ap (λ l. l ∷ []) e
spaced-apart (f ∷ []) (g ∷ h ∷ gs) some any p q e = absurd (no-space f g (spaced (h ∷ gs)) (p 0) e)
spaced-apart (f ∷ h ∷ fs) (g ∷ []) some any p q e = absurd (no-space g f (spaced (h ∷ fs)) (q 0) (sym e))
spaced-apart (f ∷ h ∷ fs) (g ∷ k ∷ gs) some any p q e =
    let cut = apart f g (spaced (h ∷ fs)) (spaced (k ∷ gs)) (p 0) (q 0) e in
    let rest = spaced-apart (h ∷ fs) (k ∷ gs) (omega arith) (omega arith) (λ i. p (suc i)) (λ i. q (suc i)) cut.1 in
    ap₂ ◌∷◌ cut.0 rest

-- what holds of the characters 47 to 58 holds of those of an action
field-all : (P : ℕ → Type 0) → ((c : ℕ) → (47 ≤ c) × (c ≤ 58) → P c) → (a : Action) → All P (field a)
field-all P each a =
    let all : (n : ℕ) → All P (decimal n) = digits-all P (λ c h. each c (omega arith, omega arith)) 10 in
    let kind = decimal a.partner.kind in
    let partner : List ℕ = 47 ∷ decimal (partner_number a.partner) in
    let told : All P partner = (each 47 (omega arith, omega arith), all (partner_number a.partner)) in
    all_append P (decimal a.number) (58 ∷ (kind ++ partner)) (all a.number)
    (each 58 (omega arith, omega arith), all_append P kind partner (all a.partner.kind) told)

-- no space and no newline in the field of an action: digits, the slash 47 and the colon 58 only
-- promise
pub action-characters : (a : Action) (field : List ℕ)
    → field ≡ decimal a.number ++ (58 ∷ (decimal a.partner.kind ++ (47 ∷ decimal (partner_number a.partner))))
    → (i : ℕ)
    → i < length field
    → (47 ≤ byte field i) × (byte field i ≤ 58)
action-characters a l is i below =
    let Told : ℕ → Type 0 = λ c. (47 ≤ c) × (c ≤ 58) in
    all-at Told l (rw is (field-all Told (λ c h. h) a)) i below

-- a partner's number is the 24-bit number of its three bytes
-- promise
pub partner-bytes : (p : Partner)
    → p.high < 256
    → p.middle < 256
    → p.low < 256
    → (partner_number p / 65536 ≡ p.high) × (partner_number p / 256 % 256 ≡ p.middle) × (partner_number p % 256 ≡ p.low)
partner-bytes p high middle low = (omega arith, omega arith, omega arith)

-- a line has no newline but the one that ends it
abbrev pub NoNewline : ℕ → Type 0
NoNewline c = c ≡ 10 → ⊥

spaced-all : (fields : List (List ℕ)) → All (All NoNewline) fields → All NoNewline (spaced fields)
unfolding spaced
spaced-all [] each = tt
spaced-all (field ∷ []) each = each.0
spaced-all (field ∷ next ∷ fields) each =
    all_append NoNewline field (32 ∷ spaced (next ∷ fields)) each.0 (omega arith, spaced-all (next ∷ fields) each.1)

plain : (n : ℕ) → All NoNewline (decimal n)
plain n = digits-all NoNewline (λ c digit is. omega arith) 10 n

actions-plain : (acts : List Action) → All (All NoNewline) (map field acts)
actions-plain [] = tt
actions-plain (a ∷ acts) = (field-all NoNewline (λ c told is. omega arith) a, actions-plain acts)

pub line_plain : (number kind code : ℕ) (acts : List Action)
    → All NoNewline (spaced (decimal number ∷ decimal kind ∷ decimal code ∷ map field acts))
line_plain number kind code acts =
    spaced-all (decimal number ∷ decimal kind ∷ decimal code ∷ map field acts)
    (plain number, (plain kind, (plain code, actions-plain acts)))

pub end-plain : (stop read : ℕ) → All NoNewline (spaced ((101 ∷ 110 ∷ 100 ∷ []) ∷ decimal stop ∷ decimal read ∷ []))
end-plain stop read =
    spaced-all ((101 ∷ 110 ∷ 100 ∷ []) ∷ decimal stop ∷ decimal read ∷ [])
    ((omega arith, (omega arith, (omega arith, tt))), (plain stop, (plain read, tt)))

-- Cross-checks only: rules told a second time.
-- The lines of a text, and those of a course: one for each step, and the last one.
-- Proves: lines-joined, lines_cut, lines-applies, lines-count, lines-last.
use mathlib.Core.Path.{◌≡◌, refl, sym, ap, ◌∙◌}
use mathlib.Core.Bool.{cond}
use mathlib.Core.List.{List, [], ◌∷◌, ◌++◌, map, append_assoc, append-nil}
use Prim.Native.Nat.{ℕ, suc, ◌+◌}
use native.Mathlib.Omega.{arith}
use lib.Dec.{eqb}
use lib.ListN.{length, get_or}
use borrow.Author.Tests.{ne_eqb}
use Rattle.wire.specs.Blocks.{blocks}
use Rattle.wire.specs.Bytes.{byte}
use Rattle.wire.proofs.Tests.{All, cond-case, get_or-all}
use Rattle.unit.specs.Steps.{Outcome}
use Rattle.unit.specs.Runs.{Course, stops, applies, counted, tallied}
use Rattle.unit.specs.RunWords.{steps_of}
use Rattle.unit.specs.declared.answer.Action.{Action}
use Rattle.unit.specs.declared.run.Tally.{Tally}
use Rattle.text.specs.Texts.{decimal, line_text, end_text}
use Rattle.text.specs.Sheets.{course_text}
use Rattle.text.specs.Lines.{spaced, begun, lines_of}
use Rattle.text.proofs.Fields.{NoNewline, field, line-fields, end-fields, line_plain, end-plain}

-- the lines, one after the other, are the text
begun-joined : (c : ℕ) (lines : List (List ℕ)) → blocks (λ l. l) (begun c lines) ≡ c ∷ blocks (λ l. l) lines
unfolding begun blocks
begun-joined c [] = refl
begun-joined c (line ∷ lines) = refl

-- meaning
pub lines-joined : (text : List ℕ) → blocks (λ l. l) (lines_of text) ≡ text
unfolding lines_of blocks
lines-joined [] = refl
lines-joined (c ∷ cs) =
    let rest = ap (◌∷◌ c) (lines-joined cs) in
    cond-case (λ ls. blocks (λ l. l) ls ≡ c ∷ cs) (eqb c 10) ((c ∷ []) ∷ lines_of cs) (begun c (lines_of cs))
    (λ ends. rest)
    (λ more. begun-joined c (lines_of cs) ∙ rest)

-- a line goes on to the next newline, which ends it
-- meaning
pub lines_cut : (line rest : List ℕ)
    → ((i : ℕ) → byte line i ≡ 10 → ⊥)
    → lines_of (line ++ (10 ∷ rest)) ≡ (line ++ (10 ∷ [])) ∷ lines_of rest
unfolding lines_of begun
lines_cut [] rest none = refl
lines_cut (c ∷ line) rest none =
    let rests = lines_of (line ++ (10 ∷ rest)) in
    ap (λ b. cond b ((c ∷ []) ∷ rests) (begun c rests)) (ne_eqb c 10 (none 0))
    ∙ ap (begun c) (lines_cut line rest (λ i. none (suc i)))

-- a text that is one line, then others
first-line : (text line rest : List ℕ)
    → text ≡ line ++ (10 ∷ [])
    → All NoNewline line
    → lines_of (text ++ rest) ≡ text ∷ lines_of rest
first-line text line rest is none =
    ap (λ l. lines_of (l ++ rest)) is
    ∙ ap lines_of (append_assoc line (10 ∷ []) rest)
    ∙ lines_cut line rest (get_or-all NoNewline line 0 none (λ is. omega arith))
    ∙ ap (λ l. l ∷ lines_of rest) (sym is)

line_first : (number kind code : ℕ) (acts : List Action) (rest : List ℕ)
    → lines_of (line_text number kind code acts ++ rest) ≡ line_text number kind code acts ∷ lines_of rest
line_first number kind code acts rest =
    first-line (line_text number kind code acts) (spaced (decimal number ∷ decimal kind ∷ decimal code ∷ map field acts)) rest
    (line-fields number kind code acts)
    (line_plain number kind code acts)

end-only : (stop read : ℕ) → lines_of (end_text stop read) ≡ end_text stop read ∷ []
unfolding lines_of
end-only stop read =
    ap lines_of (sym (append-nil (end_text stop read)))
    ∙ first-line (end_text stop read) (spaced ((101 ∷ 110 ∷ 100 ∷ []) ∷ decimal stop ∷ decimal read ∷ [])) []
    (end-fields stop read)
    (end-plain stop read)

-- the lines of a course: one for each step, and the last one
pub lines-applies : (read : ℕ) (bytes : List ℕ) (o : Outcome) (rest : Course)
    → lines_of (course_text read (applies bytes o rest))
    ≡ line_text (read + 1) (byte bytes 0) o.code o.actions ∷ lines_of (course_text (read + 1) rest)
unfolding course_text
lines-applies read bytes o rest =
    line_first (read + 1) (byte bytes 0) o.code o.actions (course_text (read + 1) rest)

lines-stops : (read stop : ℕ) → lines_of (course_text read (stops stop)) ≡ end_text stop read ∷ []
unfolding course_text
lines-stops read stop = end-only stop read

pub lines-count : (read : ℕ) (c : Course) → length (lines_of (course_text read c)) ≡ suc (length (steps_of c))
unfolding steps_of
lines-count read (stops stop) = ap length (lines-stops read stop)
lines-count read (applies bytes o rest) = ap length (lines-applies read bytes o rest) ∙ ap suc (lines-count (read + 1) rest)

pub lines-last : (t : Tally) (c : Course)
    → get_or (lines_of (course_text t.read c)) (length (steps_of c)) [] ≡ end_text (tallied t c).stop (tallied t c).tally.read
unfolding steps_of tallied counted
lines-last t (stops stop) = ap (λ ls. get_or ls 0 []) (lines-stops t.read stop)
lines-last t (applies bytes o rest) =
    ap (λ ls. get_or ls (suc (length (steps_of rest))) []) (lines-applies t.read bytes o rest)
    ∙ lines-last (counted t (length bytes) o) rest

-- The fields one after the other.
use Rattle.std.proofs.Common.{ℕ, ◌≡◌, List, [], ◌∷◌, ◌++◌, sym, subst}
use Rattle.text.specs.Texts.{space, newline, decimal, end_text}
use Rattle.text.specs.Making.{HasRoom, Put}
use Rattle.text.proofs.Putting.{Putting, putting-start, putting-room, putting-next, putting-last}
use Rattle.text.proofs.put_end.Goals as goal

-- the word
abbrev first : List ℕ
first = 101 ∷ 110 ∷ 100 ∷ space ∷ []

-- a number after a space
abbrev field : ℕ → List ℕ
field n = space ∷ decimal n

-- the fields, and what is left of them, the stop as it is put: before the word
module _ (stop read at : ℕ) (buffer : List ℕ) (room : HasRoom (end_text stop read) at buffer) where
  abbrev Left : List ℕ → ℕ → List ℕ → Type 0
  Left = Putting (end_text stop read) at buffer

  left-word : Left (first ++ (decimal stop ++ (field read ++ (newline ∷ [])))) at buffer
  unfolding end_text
  left-word = putting-start _ at buffer room

  -- before the stop
  module _ (n : ℕ) (b : List ℕ) (begun : Put first at buffer n b) (x : ℕ) (is-stop : x ≡ stop) where
    left-stop : Left (decimal x ++ (field read ++ (newline ∷ []))) n b
    left-stop =
        subst (λ k. Left (decimal k ++ (field read ++ (newline ∷ []))) n b) (sym is-stop)
        (putting-next _ _ _ first _ _ _ left-word _ _ begun)

    -- before the records read
    module _ (m : ℕ) (d : List ℕ) (stopped : Put (decimal x) n b m d) where
      left-read : Left (field read ++ (newline ∷ [])) m d
      left-read = putting-next _ _ _ (decimal x) _ _ _ left-stop _ _ stopped

      -- before the newline
      left-newline : (k : ℕ) (e : List ℕ) → Put (field read) m d k e → Left (newline ∷ []) k e
      left-newline k e told = putting-next _ _ _ (field read) _ _ _ left-read _ _ told

pub put_words-begun-requires : goal.put_words-begun-requires
put_words-begun-requires c =
    putting-room _ _ _ first (decimal c.args.stop ++ (field c.args.read ++ (newline ∷ []))) _ _
    (left-word c.args.stop c.args.read c.args.at c.args.buffer.now c.requires)

pub put_number-stopped-requires : goal.put_number-stopped-requires
put_number-stopped-requires c =
    putting-room _ _ _ (decimal c.from.result) (field c.args.read ++ (newline ∷ [])) _ _
    (left-stop c.args.stop c.args.read c.args.at c.args.buffer.now c.requires _ _ c.put_words-begun.ensures _ c.from.ensures)

pub put_field-told-requires : goal.put_field-told-requires
put_field-told-requires c =
    putting-room _ _ _ (field c.args.read) (newline ∷ []) _ _
    (left-read c.args.stop c.args.read c.args.at c.args.buffer.now c.requires _ _ c.put_words-begun.ensures _ c.from.ensures _ _
    c.put_number-stopped.ensures)

pub put_byte-requires : goal.put_byte-requires
put_byte-requires c =
    (left-newline c.args.stop c.args.read c.args.at c.args.buffer.now c.requires _ _ c.put_words-begun.ensures _ c.from.ensures
    _ _ c.put_number-stopped.ensures _ _ c.put_field-told.ensures).0

pub returns : goal.returns
returns c =
    putting-last _ _ _ (newline ∷ []) _ _
    (left-newline c.args.stop c.args.read c.args.at c.args.buffer.now c.requires _ _ c.put_words-begun.ensures _ c.from.ensures
    _ _ c.put_number-stopped.ensures _ _ c.put_field-told.ensures)
    _ _
    c.put_byte.ensures

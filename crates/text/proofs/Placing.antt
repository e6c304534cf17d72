-- The whole sheet in the buffer, by what the input and the buffer are.
-- Proves: sheet-none, sheet-long, header-ready, sheet-whole.
use mathlib.Core.Path.{◌≡◌, sym, ap, ◌∙◌}
use mathlib.Core.List.{List, ◌++◌}
use Prim.Native.Nat.{ℕ, ◌+◌, ◌≤◌, ◌<◌}
use native.Mathlib.Nat.{zero-add}
use native.Mathlib.Omega.{arith}
use lib.ListN.{length}
use borrow.Author.Tests.{le-leb, lt-leb}
use Rattle.unit.specs.States.{cold_start}
use Rattle.unit.specs.declared.state.State.{State}
use Rattle.text.specs.Texts.{placed}
use Rattle.text.specs.Sheets.{header_text, too_long_text, most_input, sheet_limits, sheet_text, sheet_room, sheet_count, sheet_placed}
use Rattle.text.specs.Pages.{to_come}
use Rattle.text.specs.declared.sheet.Page.{Page}
use Rattle.text.proofs.Sheets.{sheet-fits}
use Rattle.text.specs.Making.{Put}
use Rattle.text.proofs.Putting.{Putting, put_front, putting-start, putting-next, putting-last}

-- a sheet before its first line
abbrev first : State → ℕ → Page
first s used = record { state = s; at = 0; number = 0; used = used }

module _ (input buffer : List ℕ) where
  -- not every sheet has room
  pub sheet-none : length buffer < sheet_room → (0 ≡ sheet_count input (length buffer)) × (buffer ≡ sheet_placed input buffer)
  unfolding sheet_count sheet_placed
  sheet-none small = (simp (lt-leb sheet_room (length buffer) small), simp (lt-leb sheet_room (length buffer) small))

  module _ (room : sheet_room ≤ length buffer) where
    fits : length (sheet_text input) ≤ length buffer
    fits = omega (arith, room, sheet-fits input)

    -- the sheet is put to the front
    is-placed : (text : List ℕ) (r : ℕ) (after : List ℕ)
        → sheet_text input ≡ text
        → Put text 0 buffer r after
        → (r ≡ sheet_count input (length buffer)) × (after ≡ sheet_placed input buffer)
    unfolding sheet_count sheet_placed
    is-placed text r after same put =
        let enough = le-leb sheet_room (length buffer) room in
        let inside : length text ≤ length buffer = omega (arith, fits, ap length same) in (
          put.0 ∙ zero-add (length text) ∙ ap length (sym same) ∙ simp enough,
          put.1 ∙ sym (put_front text buffer inside) ∙ ap (λ l. placed l buffer) (sym same) ∙ simp enough,
        )

    -- "more prints only `too long`"
    pub sheet-long : most_input < length input
        → (r : ℕ) (after : List ℕ)
        → Put too_long_text 0 buffer r after
        → (r ≡ sheet_count input (length buffer)) × (after ≡ sheet_placed input buffer)
    unfolding sheet_text
    sheet-long long r after put = is-placed too_long_text r after (simp (lt-leb (length input) most_input long)) put

    -- the header stands first, and then the lines
    module _ (short : length input ≤ most_input) (used : ℕ) (begun : List ℕ) (header : Put header_text 0 buffer used begun)
        (s : State) (cold : s ≡ (cold_start sheet_limits).state) where
      rest : List ℕ
      rest = to_come (first s used) input

      text-is : sheet_text input ≡ header_text ++ rest
      unfolding sheet_text to_come rest
      text-is = simp (le-leb (length input) most_input short, cold)

      rest-left : Putting (header_text ++ rest) 0 buffer rest used begun
      rest-left =
          let inside : 0 + length (header_text ++ rest) ≤ length buffer = omega (arith, fits, ap length text-is) in
          putting-next _ _ _ header_text rest _ _ (putting-start (header_text ++ rest) 0 buffer inside) _ _ header

      pub header-ready : used + length (to_come (first s used) input) ≤ length begun
      unfolding rest
      header-ready = rest-left.0

      pub sheet-whole : (r : ℕ) (after : List ℕ)
          → Put (to_come (first s used) input) used begun r after
          → (r ≡ sheet_count input (length buffer)) × (after ≡ sheet_placed input buffer)
      unfolding rest
      sheet-whole r after put =
          is-placed (header_text ++ rest) r after text-is (putting-last _ _ _ rest _ _ rest-left r after put)

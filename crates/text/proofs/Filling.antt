-- The loop that writes a sheet: what is still to come is what is left to put.
-- Defines: Filling.
-- Proves: end-left, filling-less, line-follows, filling-next.
use mathlib.Core.Path.{◌≡◌, refl, sym, ap, subst, ◌∙◌}
use mathlib.Core.Logic.{◌⊎◌}
use mathlib.Core.List.{List, ◌++◌}
use Prim.Native.Nat.{ℕ, ◌+◌, ◌-◌, ◌≤◌, ◌<◌}
use native.Mathlib.Omega.{arith}
use lib.ListN.{length, take, drop}
use Rattle.record.specs.Takes.{take_one}
use Rattle.record.specs.Readings.{Reading}
use Rattle.record.specs.Takes.{Whole, Stopped, Overlong}
use Rattle.text.specs.Texts.{end_text}
use Rattle.text.specs.Making.{put_at}
use Rattle.text.specs.Sheets.{most_input}
use Rattle.text.specs.Pages.{next_line, next_page, to_come, Follows}
use Rattle.text.specs.declared.sheet.Page.{Page}
use Rattle.text.proofs.Putting.{Putting, putting-room, putting-next}
use Rattle.text.proofs.Pages.{whole_part, to-come-stop, to-come-next}

abbrev pub Filling : List ℕ → List ℕ → Page → List ℕ → Page → Type 0
Filling input buffer₀ p₀ buffer p =
    (p.at ≤ length input)
    × (p.number ≤ p.at)
    × Putting (to_come p₀ input) p₀.used buffer₀ (to_come p input) p.used buffer

module _ (input : List ℕ) (short : length input ≤ most_input) (buffer₀ : List ℕ) (p₀ : Page)
    (buffer : List ℕ) (p : Page) (so_far : Filling input buffer₀ p₀ buffer p) where
  abbrev Left : List ℕ → Type 0
  Left l = Putting (to_come p₀ input) p₀.used buffer₀ l p.used buffer

  -- at a stop the last line is left
  pub end-left : (stop : ℕ)
      → (take_one (drop p.at input) ≡ Stopped stop) ⊎ (take_one (drop p.at input) ≡ Overlong stop)
      → Putting (to_come p₀ input) p₀.used buffer₀ (end_text stop p.number) p.used buffer
  end-left stop e = subst Left (to-come-stop p input short so_far.1 stop e) so_far.2

  module _ (k : ℕ) (r : Reading) (e : take_one (drop p.at input) ≡ Whole k r)
      (bytes : List ℕ) (lent : bytes ≡ take k (drop p.at input)) where
    part : (1 ≤ k) × (p.at + k ≤ length input) × (length (take k (drop p.at input)) ≡ k)
    part = whole_part p input short so_far.1 k r e

    long : length bytes ≡ k
    long = ap length lent ∙ part.2

    -- what is left gets less
    pub filling-less : (q : Page) → q ≡ next_page p bytes → length input - q.at < length input - p.at
    unfolding next_page
    filling-less q page =
        let further : q.at ≡ p.at + length bytes = ap (λ x. x.at) page in
        omega (arith, further, long, part.0, part.1)

    -- at a whole record its line is left, and then what comes after it
    line-left : Left (next_line p bytes ++ to_come (next_page p bytes) input)
    line-left = subst Left (to-come-next p input short so_far.1 k r e bytes lent) so_far.2

    pub line-follows : Follows p bytes buffer
    line-follows = (
      omega (arith, long, part.1, short),
      so_far.1,
      putting-room _ _ _ (next_line p bytes) (to_come (next_page p bytes) input) _ _ line-left,
    )

    pub filling-next : (q : Page) (after : List ℕ)
        → q ≡ next_page p bytes
        → after ≡ put_at (next_line p bytes) p.used buffer
        → Filling input buffer₀ p₀ after q
    unfolding next_page
    filling-next q after page put =
        subst (Filling input buffer₀ p₀ after) (sym page) (
          omega (arith, long, part.1),
          omega (arith, long, part.0, so_far.1),
          putting-next _ _ _ (next_line p bytes) (to_come (next_page p bytes) input) _ _ line-left _ _ (refl, put),
        )

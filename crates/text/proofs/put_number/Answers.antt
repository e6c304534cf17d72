-- The digits of what is left, put before those that stand already, are those of the number.
use Rattle.std.proofs.Common.{◌≡◌, ◌+◌, ◌-◌, ◌/◌, ◌%◌, [], ◌∷◌, length, set, length-append, sym, ap, ◌∙◌}
use Rattle.std.proofs.Common.{arith}
use lib.ListN.{length-set}
use Rattle.text.specs.Texts.{digit_zero, decimal}
use Rattle.text.specs.Making.{put_at}
use Rattle.text.proofs.Decimals.{decimal-some}
use Rattle.text.proofs.Numbers.{decimal-one, decimal-more}
use Rattle.text.proofs.Putting.{put_byte, put_last}
use Rattle.text.proofs.put_number.Goals as goal

pub overflow_sub-i : goal.overflow_sub-i
overflow_sub-i c = omega (arith, c.loop-rest.invariant.1, decimal-some c.loop-rest.rest)

pub bounds-buffer-i : goal.bounds-buffer-i
bounds-buffer-i c = omega (arith, c.loop-rest.invariant.1, c.loop-rest.invariant.2, decimal-some c.loop-rest.rest)

pub loop-rest-preserved : goal.loop-rest-preserved
loop-rest-preserved c =
    let at = c.args.at in
    let buffer = c.loop-rest.buffer in
    let i = c.loop-rest.i in
    let rest = c.loop-rest.rest in
    let inv = c.loop-rest.invariant in
    let more = decimal-more rest c.loop-rest-test.true inv.0 in
    let size = ap length more ∙ length-append (decimal (rest / 10)) ((digit_zero + rest % 10) ∷ []) in
    let place : i - 1 ≡ at + length (decimal (rest / 10)) = omega (arith, inv.1, size) in
    let some = decimal-some rest in (
      omega (arith, inv.0),
      place,
      simp length-set (omega (arith, inv.2)),
      simp length-set inv.3,
      ap (λ k. put_at (decimal (rest / 10)) at (set buffer k (digit_zero + rest % 10))) place
          ∙ put_last (decimal (rest / 10)) buffer at (digit_zero + rest % 10) (omega (arith, place, inv.1, inv.2, some))
          ∙ ap (λ l. put_at l at buffer) (sym more)
          ∙ inv.4,
    )

pub bounds-buffer-at : goal.bounds-buffer-at
bounds-buffer-at c = omega (arith, c.loop-rest.invariant.1, c.loop-rest.invariant.2, decimal-some c.loop-rest.rest)

pub returns : goal.returns
returns c =
    let at = c.args.at in
    let buffer = c.loop-rest.buffer in
    let rest = c.loop-rest.rest in
    let inv = c.loop-rest.invariant in (
      ap (◌+◌ at) c.digit_count.ensures,
      put_byte buffer at (digit_zero + rest) (omega (arith, inv.1, inv.2, decimal-some rest))
          ∙ ap (λ l. put_at l at buffer) (sym (decimal-one rest c.loop-rest-test.false))
          ∙ inv.4,
    )

-- The records passed are told.
use Rattle.std.proofs.Common.{inl, ap, ◌≡◌, ◌+◌, ◌≤◌, length, drop, sym, ◌∙◌, arith}
use Rattle.record.specs.Takes.{take_one}
use Rattle.record.specs.Takes.{Whole}
use Rattle.record.proofs.Takes.{part-is}
use Rattle.record.specs.Readings.{told_reading}
use Rattle.record.specs.Stops.{stop_number, told_front}
use Rattle.text.specs.Texts.{end_text}
use Rattle.text.specs.Pages.{to_come}
use Rattle.text.proofs.Putting.{Putting, putting-last}
use Rattle.text.proofs.Pages.{whole_part}
use Rattle.text.proofs.Filling.{end-left, filling-less, line-follows, filling-next}
use Rattle.text.proofs.sheet.Page.fill.Goals as goal
use Rattle.text.proofs.sheet.Page.fill.Goals.{In-Stop, In-Next}

-- nothing more is taken: the last line is left
module _ (c : In-Stop) where
  left : Putting (to_come c.args.self c.args.input.now) c.args.self.used c.args.buffer.now
      (end_text (stop_number c.in-Stop.stop) c.loop-stop.page.number) c.loop-stop.page.used c.loop-stop.buffer
  left =
      let stop = stop_number c.in-Stop.stop in
      end-left c.args.input.now c.requires.1 _ _ c.loop-stop.buffer c.loop-stop.page c.loop-stop.invariant stop
      (inl (sym c.front_at.ensures ∙ ap told_front c.in-Stop.is))

pub end-requires : goal.end-requires
end-requires c = (left (goal.at.end-requires c).In-Stop).0

pub returns : goal.returns
returns c =
    putting-last _ _ _ (end_text (stop_number c.in-Stop.stop) c.loop-stop.page.number) _ _ (left (goal.at.returns c).In-Stop) _ _
    c.end.ensures

-- a whole record
module _ (c : In-Next) where
  whole : take_one (drop c.loop-stop.page.at c.args.input.now) ≡ Whole c.in-Next.length (told_reading c.in-Next.reading)
  whole = sym c.front_at.ensures ∙ ap told_front c.in-Next.is

  inside : c.loop-stop.page.at + c.in-Next.length ≤ length c.args.input.now
  inside =
      (whole_part c.loop-stop.page c.args.input.now c.requires.1 c.loop-stop.invariant.1 c.in-Next.length
      (told_reading c.in-Next.reading) whole).1

pub overflow_add-end : goal.overflow_add-end
overflow_add-end c =
    let within = inside (goal.at.overflow_add-end c).In-Next in
    omega (arith, within, c.requires.1)

pub slice_bounds-next-end : goal.slice_bounds-next-end
slice_bounds-next-end c = inside (goal.at.slice_bounds-next-end c).In-Next

pub next-page-requires : goal.next-page-requires
next-page-requires c =
    line-follows c.args.input.now c.requires.1 _ _ c.loop-stop.buffer c.loop-stop.page c.loop-stop.invariant c.in-Next.length _
    (whole (goal.at.next-page-requires c).In-Next) _
    (part-is c.args.input.now c.loop-stop.page.at c.in-Next.length)

pub loop-stop-smaller : goal.loop-stop-smaller
loop-stop-smaller c =
    filling-less c.args.input.now c.requires.1 _ _ c.loop-stop.buffer c.loop-stop.page c.loop-stop.invariant c.in-Next.length _
    (whole (goal.at.loop-stop-smaller c).In-Next) _
    (part-is c.args.input.now c.loop-stop.page.at c.in-Next.length) _ c.next-page.ensures.0

pub loop-stop-preserved : goal.loop-stop-preserved
loop-stop-preserved c =
    filling-next c.args.input.now c.requires.1 _ _ c.loop-stop.buffer c.loop-stop.page c.loop-stop.invariant c.in-Next.length _
    (whole (goal.at.loop-stop-preserved c).In-Next) _
    (part-is c.args.input.now c.loop-stop.page.at c.in-Next.length) _ _ c.next-page.ensures.0 c.next-page.ensures.1

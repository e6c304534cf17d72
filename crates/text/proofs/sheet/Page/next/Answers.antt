-- The line of the answer, put after the others.
use Rattle.std.proofs.Common.{◌+◌, ◌≤◌, length, sym, subst}
use Rattle.text.specs.Making.{Put}
use Rattle.text.proofs.Pages.{next-line, next-page}
use Rattle.text.proofs.sheet.Page.next.Goals as goal

pub put_line-used-requires : goal.put_line-used-requires
put_line-used-requires c =
    let page = c.args.self in
    let is = next-line page c.args.bytes.now _ c.apply-answer.ensures _ c.byte_at-kind.ensures in
    subst (λ l. page.used + length l ≤ length c.args.buffer.now) (sym is) c.requires.2

pub returns : goal.returns
returns c =
    let page = c.args.self in
    let bytes = c.args.bytes.now in
    let is = next-line page bytes _ c.apply-answer.ensures _ c.byte_at-kind.ensures in
    let told =
    subst (λ l. Put l page.used c.args.buffer.now c.put_line-used.result c.put_line-used.new.buffer) is
    c.put_line-used.ensures in
    (next-page page bytes _ c.apply-answer.ensures _ c.byte_at-kind.ensures _ told.0, told.1)

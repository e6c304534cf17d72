-- Four bytes; a first one of 0 is none.
use Rattle.image.specs.Images.{state_in}
use Rattle.image.proofs.Taking.{last_none, last_some}
use Rattle.image.proofs.read.last_in.Goals as goal

pub returns-then-flag-eq0 : goal.returns-then-flag-eq0
unfolding state_in
returns-then-flag-eq0 c = last_none c.args.s.now _ c.byte_at-flag.ensures c.if-flag-eq0.true

pub returns : goal.returns
unfolding state_in
returns c =
    last_some c.args.s.now _ c.byte_at-flag.ensures _ _ _ c.byte_at.ensures c.byte_at-2.ensures c.byte_at-3.ensures c.if-flag-eq0.false

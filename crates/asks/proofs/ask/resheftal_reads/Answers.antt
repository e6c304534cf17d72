-- Minus what reading answers.
use Rattle.std.proofs.Common.{ap, ◌∙◌, pos, neg_ℤ}
use Rattle.unit.specs.declared.start.Started.{Started}
use Rattle.firmware.proofs.Numbers.{back}
use Rattle.asks.proofs.ask.resheftal_reads.Goals as goal

pub returns : goal.returns
returns c = back _ _ c.minus.ensures ∙ ap (λ (r : Started). neg_ℤ (pos r.code)) c.read_a2-found.ensures

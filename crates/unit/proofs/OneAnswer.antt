-- No second answer satisfies the contract of a public function: a line for each of this crate's, over the contract as the checker names it.
-- Proves: state-apply-once, state-on-record-unchecked-once, state-on-record-once, cold-start-once, default-start-once,
-- state-is-sound-once, run-once, limits-ok-once, train-ok-once, marks-ok-once, last-is-sound-once, last-meant-once, last-recall-once,
-- in-force-once, spend-once, displaced-once.
use mathlib.Core.Path.{◌≡◌, sym, ◌∙◌}
use Rattle.unit.proofs.state.State.apply.Reads as state-apply
use Rattle.unit.proofs.state.State.on_record_unchecked.Reads as state-on-record-unchecked
use Rattle.unit.proofs.state.State.on_record.Reads as state-on-record
use Rattle.unit.proofs.start.cold_start.Reads as cold-start
use Rattle.unit.proofs.start.default_start.Reads as default-start
use Rattle.unit.proofs.state.State.is_sound.Reads as state-is-sound
use Rattle.unit.proofs.run.run.Reads as run
use Rattle.unit.proofs.state.limits_ok.Reads as limits-ok
use Rattle.unit.proofs.state.train_ok.Reads as train-ok
use Rattle.unit.proofs.state.marks_ok.Reads as marks-ok
use Rattle.unit.proofs.last.Last.is_sound.Reads as last-is-sound
use Rattle.unit.proofs.last.Last.meant.Reads as last-meant
use Rattle.unit.proofs.last.Last.recall.Reads as last-recall
use Rattle.unit.proofs.order.in_force.Reads as in-force
use Rattle.unit.proofs.order.spend.Reads as spend
use Rattle.unit.proofs.order.displaced.Reads as displaced

pub state-apply-once : (κ : _) (self : _) (bytes : _) (r₁ : _) (r₂ : _)
    → state-apply.Post κ (self, (bytes, tt)) r₁ (self, (bytes, tt))
    → state-apply.Post κ (self, (bytes, tt)) r₂ (self, (bytes, tt))
    → r₁ ≡ r₂
state-apply-once κ self bytes r₁ r₂ p q = p ∙ sym q

pub state-on-record-unchecked-once : (κ : _) (self : _) (bytes : _) (actions : _) (r₁ : _) (r₂ : _) (actions₁ : _) (actions₂ : _)
    → state-on-record-unchecked.Post κ (self, (bytes, (actions, tt))) r₁ (self, (bytes, (actions₁, tt)))
    → state-on-record-unchecked.Post κ (self, (bytes, (actions, tt))) r₂ (self, (bytes, (actions₂, tt)))
    → (r₁ ≡ r₂) × (actions₁.now ≡ actions₂.now)
state-on-record-unchecked-once κ self bytes actions r₁ r₂ actions₁ actions₂ p q = (p.0 ∙ sym q.0, p.1 ∙ sym q.1)

pub state-on-record-once : (κ : _) (self : _) (bytes : _) (actions : _) (r₁ : _) (r₂ : _) (actions₁ : _) (actions₂ : _)
    → state-on-record.Post κ (self, (bytes, (actions, tt))) r₁ (self, (bytes, (actions₁, tt)))
    → state-on-record.Post κ (self, (bytes, (actions, tt))) r₂ (self, (bytes, (actions₂, tt)))
    → (r₁ ≡ r₂) × (actions₁.now ≡ actions₂.now)
state-on-record-once κ self bytes actions r₁ r₂ actions₁ actions₂ p q = (p.0 ∙ sym q.0, p.1 ∙ sym q.1)

pub cold-start-once : (κ : _) (limits : _) (r₁ : _) (r₂ : _)
    → cold-start.Post κ (limits, tt) r₁ (limits, tt)
    → cold-start.Post κ (limits, tt) r₂ (limits, tt)
    → r₁ ≡ r₂
cold-start-once κ limits r₁ r₂ p q = p ∙ sym q

pub default-start-once : (κ : _) (lowest : _) (highest : _) (r₁ : _) (r₂ : _)
    → default-start.Post κ (lowest, (highest, tt)) r₁ (lowest, (highest, tt))
    → default-start.Post κ (lowest, (highest, tt)) r₂ (lowest, (highest, tt))
    → r₁ ≡ r₂
default-start-once κ lowest highest r₁ r₂ p q = p ∙ sym q

pub state-is-sound-once : (κ : _) (self : _) (r₁ : _) (r₂ : _)
    → state-is-sound.Post κ (self, tt) r₁ (self, tt)
    → state-is-sound.Post κ (self, tt) r₂ (self, tt)
    → r₁ ≡ r₂
state-is-sound-once κ self r₁ r₂ p q = p ∙ sym q

pub run-once : (κ : _) (state : _) (log : _) (budget : _) (r₁ : _) (r₂ : _)
    → run.Post κ (state, (log, (budget, tt))) r₁ (state, (log, (budget, tt)))
    → run.Post κ (state, (log, (budget, tt))) r₂ (state, (log, (budget, tt)))
    → r₁ ≡ r₂
run-once κ state log budget r₁ r₂ p q = p ∙ sym q

pub limits-ok-once : (κ : _) (limits : _) (r₁ : _) (r₂ : _)
    → limits-ok.Post κ (limits, tt) r₁ (limits, tt)
    → limits-ok.Post κ (limits, tt) r₂ (limits, tt)
    → r₁ ≡ r₂
limits-ok-once κ limits r₁ r₂ p q = p ∙ sym q

pub train-ok-once : (κ : _) (train : _) (r₁ : _) (r₂ : _)
    → train-ok.Post κ (train, tt) r₁ (train, tt)
    → train-ok.Post κ (train, tt) r₂ (train, tt)
    → r₁ ≡ r₂
train-ok-once κ train r₁ r₂ p q = p ∙ sym q

pub marks-ok-once : (κ : _) (marks : _) (r₁ : _) (r₂ : _)
    → marks-ok.Post κ (marks, tt) r₁ (marks, tt)
    → marks-ok.Post κ (marks, tt) r₂ (marks, tt)
    → r₁ ≡ r₂
marks-ok-once κ marks r₁ r₂ p q = p ∙ sym q

pub last-is-sound-once : (κ : _) (self : _) (r₁ : _) (r₂ : _)
    → last-is-sound.Post κ (self, tt) r₁ (self, tt)
    → last-is-sound.Post κ (self, tt) r₂ (self, tt)
    → r₁ ≡ r₂
last-is-sound-once κ self r₁ r₂ p q = p ∙ sym q

pub last-meant-once : (κ : _) (self : _) (partner : _) (r₁ : _) (r₂ : _)
    → last-meant.Post κ (self, (partner, tt)) r₁ (self, (partner, tt))
    → last-meant.Post κ (self, (partner, tt)) r₂ (self, (partner, tt))
    → r₁ ≡ r₂
last-meant-once κ self partner r₁ r₂ p q = p ∙ sym q

pub last-recall-once : (κ : _) (self : _) (partner : _) (number : _) (r₁ : _) (r₂ : _)
    → last-recall.Post κ (self, (partner, (number, tt))) r₁ (self, (partner, (number, tt)))
    → last-recall.Post κ (self, (partner, (number, tt))) r₂ (self, (partner, (number, tt)))
    → r₁ ≡ r₂
last-recall-once κ self partner number r₁ r₂ p q = p ∙ sym q

pub in-force-once : (κ : _) (cause : _) (train : _) (marks : _) (r₁ : _) (r₂ : _)
    → in-force.Post κ (cause, (train, (marks, tt))) r₁ (cause, (train, (marks, tt)))
    → in-force.Post κ (cause, (train, (marks, tt))) r₂ (cause, (train, (marks, tt)))
    → r₁ ≡ r₂
in-force-once κ cause train marks r₁ r₂ p q = p ∙ sym q

pub spend-once : (κ : _) (cause : _) (marks : _) (r₁ : _) (r₂ : _)
    → spend.Post κ (cause, (marks, tt)) r₁ (cause, (marks, tt))
    → spend.Post κ (cause, (marks, tt)) r₂ (cause, (marks, tt))
    → r₁ ≡ r₂
spend-once κ cause marks r₁ r₂ p q = p ∙ sym q

pub displaced-once : (κ : _) (partner : _) (accepting : _) (r₁ : _) (r₂ : _)
    → displaced.Post κ (partner, (accepting, tt)) r₁ (partner, (accepting, tt))
    → displaced.Post κ (partner, (accepting, tt)) r₂ (partner, (accepting, tt))
    → r₁ ≡ r₂
displaced-once κ partner accepting r₁ r₂ p q = p ∙ sym q

-- No second answer satisfies the contract of a public function: a line for each of this crate's, over the contract as the checker names it.
-- Those of the functions on readers say it in every model, of all that entails the contract.
-- Proves: finding-is-right-once, stands-at-once, open-once, moved-once, stands-once, judged-once, judge-once, produce-once.
use mathlib.Core.Path.{◌≡◌, sym, ◌∙◌}
use seplogic.Ra.Ura.{Ura}
use base.Logic.{SProp, ent}
use prog.Memory.{Memory}
use prog.Routine.{Routine}
use types.Logic.{Logic}
use contract.Monad.{Fun, fact, fact_i, fact_use}
use Rattle.judge.proofs.due.Finding.is_right.Reads as finding-is-right
use Rattle.judge.proofs.due.stands_at.Reads as stands_at
use Rattle.judge.specs.contracts.reader.Reader.open as reader-open
use Rattle.judge.specs.contracts.reader.Reader.moved as reader-moved
use Rattle.judge.specs.contracts.reader.Reader.stands as reader-stands
use Rattle.judge.specs.contracts.reader.Reader.judged as reader-judged
use Rattle.judge.proofs.judge.judge.Reads as judge
use Rattle.judge.proofs.produce.produce.Reads as produce

pub finding-is-right-once : (κ : _) (self : _) (r₁ : _) (r₂ : _)
    → finding-is-right.Post κ (self, tt) r₁ (self, tt)
    → finding-is-right.Post κ (self, tt) r₂ (self, tt)
    → r₁ ≡ r₂
finding-is-right-once κ self r₁ r₂ p q = p ∙ sym q

pub stands-at-once : (κ : _) (sheet : _) (at : _) (due : _) (r₁ : _) (r₂ : _)
    → stands_at.Post κ (sheet, (at, (due, tt))) r₁ (sheet, (at, (due, tt)))
    → stands_at.Post κ (sheet, (at, (due, tt))) r₂ (sheet, (at, (due, tt)))
    → r₁ ≡ r₂
stands-at-once κ sheet at due r₁ r₂ p q = p ∙ sym q

pub open-once : {M : Type 1} {U : Ura M} (𝓛 : Logic U) (mem : Memory → SProp U) (run : Routine → Fun U) (P : SProp U)
    (κ : _) (sheet : _) (r₁ : _) (r₂ : _)
    → ent U P ((reader-open.clauses 𝓛 mem run κ (sheet, tt)).ensures tt r₁ (sheet, tt))
    → ent U P ((reader-open.clauses 𝓛 mem run κ (sheet, tt)).ensures tt r₂ (sheet, tt))
    → ent U P (fact U (r₁ ≡ r₂))
open-once {U = U} 𝓛 mem run P κ sheet r₁ r₂ p q = fact_use U _ p (λ e. fact_use U _ q (λ f. fact_i U _ P (e ∙ sym f)))

pub moved-once : {M : Type 1} {U : Ura M} (𝓛 : Logic U) (mem : Memory → SProp U) (run : Routine → Fun U) (P : SProp U)
    (κ : _) (reader : _) (at : _) (r₁ : _) (r₂ : _)
    → ent U P ((reader-moved.clauses 𝓛 mem run κ (reader, (at, tt))).ensures tt r₁ (reader, (at, tt)))
    → ent U P ((reader-moved.clauses 𝓛 mem run κ (reader, (at, tt))).ensures tt r₂ (reader, (at, tt)))
    → ent U P (fact U (r₁ ≡ r₂))
moved-once {U = U} 𝓛 mem run P κ reader at r₁ r₂ p q = fact_use U _ p (λ e. fact_use U _ q (λ f. fact_i U _ P (e ∙ sym f)))

pub stands-once : {M : Type 1} {U : Ura M} (𝓛 : Logic U) (mem : Memory → SProp U) (run : Routine → Fun U) (P : SProp U)
    (κ : _) (reader : _) (due : _) (r₁ : _) (r₂ : _)
    → ent U P ((reader-stands.clauses 𝓛 mem run κ (reader, (due, tt))).ensures tt r₁ (reader, (due, tt)))
    → ent U P ((reader-stands.clauses 𝓛 mem run κ (reader, (due, tt))).ensures tt r₂ (reader, (due, tt)))
    → ent U P (fact U (r₁ ≡ r₂))
stands-once {U = U} 𝓛 mem run P κ reader due r₁ r₂ p q = fact_use U _ p (λ e. fact_use U _ q (λ f. fact_i U _ P (e ∙ sym f)))

pub judged-once : {M : Type 1} {U : Ura M} (𝓛 : Logic U) (mem : Memory → SProp U) (run : Routine → Fun U) (P : SProp U)
    (κ : _) (reader : _) (limits : _) (r₁ : _) (r₂ : _)
    → ent U P ((reader-judged.clauses 𝓛 mem run κ (reader, (limits, tt))).ensures tt r₁ (reader, (limits, tt)))
    → ent U P ((reader-judged.clauses 𝓛 mem run κ (reader, (limits, tt))).ensures tt r₂ (reader, (limits, tt)))
    → ent U P (fact U (r₁ ≡ r₂))
judged-once {U = U} 𝓛 mem run P κ reader limits r₁ r₂ p q = fact_use U _ p (λ e. fact_use U _ q (λ f. fact_i U _ P (e ∙ sym f)))

pub judge-once : (κ : _) (limits : _) (sheet : _) (r₁ : _) (r₂ : _)
    → judge.Post κ (limits, (sheet, tt)) r₁ (limits, (sheet, tt))
    → judge.Post κ (limits, (sheet, tt)) r₂ (limits, (sheet, tt))
    → r₁ ≡ r₂
judge-once κ limits sheet r₁ r₂ p q = p ∙ sym q

pub produce-once : (κ : _) (limits : _) (log : _) (room : _) (r₁ : _) (r₂ : _) (room₁ : _) (room₂ : _)
    → produce.Post κ (limits, (log, (room, tt))) r₁ (limits, (log, (room₁, tt)))
    → produce.Post κ (limits, (log, (room, tt))) r₂ (limits, (log, (room₂, tt)))
    → (r₁ ≡ r₂) × (room₁.now ≡ room₂.now)
produce-once κ limits log room r₁ r₂ room₁ room₂ p q = (p.0 ∙ sym q.0, p.1 ∙ sym q.1)

-- No second answer satisfies the contract of a public function: a line for each of this crate's, over the contract as the checker names it.
-- Proves: write-a2-once, write-a1-once, same_once, read-a2-once, read-image-once, size-of-once, rescue-once, step-image-once.
use mathlib.Core.Path.{◌≡◌, sym, ◌∙◌}
use Rattle.image.proofs.write.write_a2.Reads as write-a2
use Rattle.image.proofs.write.write_a1.Reads as write-a1
use Rattle.image.proofs.read.same.Reads as same
use Rattle.image.proofs.read.read_a2.Reads as read-a2
use Rattle.image.proofs.read.read_image.Reads as read-image
use Rattle.image.proofs.rescue.size_of.Reads as type_size
use Rattle.image.proofs.rescue.rescue.Reads as rescue
use Rattle.image.proofs.call.step_image.Reads as step-image

pub write-a2-once : (κ : _) (state : _) (buffer : _) (r₁ : _) (r₂ : _) (buffer₁ : _) (buffer₂ : _)
    → write-a2.Post κ (state, (buffer, tt)) r₁ (state, (buffer₁, tt))
    → write-a2.Post κ (state, (buffer, tt)) r₂ (state, (buffer₂, tt))
    → (r₁ ≡ r₂) × (buffer₁.now ≡ buffer₂.now)
write-a2-once κ state buffer r₁ r₂ buffer₁ buffer₂ p q = (p.0 ∙ sym q.0, p.1 ∙ sym q.1)

pub write-a1-once : (κ : _) (state : _) (buffer : _) (r₁ : _) (r₂ : _) (buffer₁ : _) (buffer₂ : _)
    → write-a1.Post κ (state, (buffer, tt)) r₁ (state, (buffer₁, tt))
    → write-a1.Post κ (state, (buffer, tt)) r₂ (state, (buffer₂, tt))
    → (r₁ ≡ r₂) × (buffer₁.now ≡ buffer₂.now)
write-a1-once κ state buffer r₁ r₂ buffer₁ buffer₂ p q = (p.0 ∙ sym q.0, p.1 ∙ sym q.1)

pub same_once : (κ : _) (a : _) (b : _) (r₁ : _) (r₂ : _)
    → same.Post κ (a, (b, tt)) r₁ (a, (b, tt))
    → same.Post κ (a, (b, tt)) r₂ (a, (b, tt))
    → r₁ ≡ r₂
same_once κ a b r₁ r₂ p q = p ∙ sym q

pub read-a2-once : (κ : _) (bytes : _) (r₁ : _) (r₂ : _)
    → read-a2.Post κ (bytes, tt) r₁ (bytes, tt)
    → read-a2.Post κ (bytes, tt) r₂ (bytes, tt)
    → r₁ ≡ r₂
read-a2-once κ bytes r₁ r₂ p q = p ∙ sym q

pub read-image-once : (κ : _) (bytes : _) (r₁ : _) (r₂ : _)
    → read-image.Post κ (bytes, tt) r₁ (bytes, tt)
    → read-image.Post κ (bytes, tt) r₂ (bytes, tt)
    → r₁ ≡ r₂
read-image-once κ bytes r₁ r₂ p q = p ∙ sym q

pub size-of-once : (κ : _) (at : _) (r₁ : _) (r₂ : _)
    → type_size.Post κ (at, tt) r₁ (at, tt)
    → type_size.Post κ (at, tt) r₂ (at, tt)
    → r₁ ≡ r₂
size-of-once κ at r₁ r₂ p q = p ∙ sym q

pub rescue-once : (κ : _) (image : _) (r₁ : _) (r₂ : _) (image₁ : _) (image₂ : _)
    → rescue.Post κ (image, tt) r₁ (image₁, tt)
    → rescue.Post κ (image, tt) r₂ (image₂, tt)
    → (r₁ ≡ r₂) × (image₁.now ≡ image₂.now)
rescue-once κ image r₁ r₂ image₁ image₂ p q = (p.0 ∙ sym q.0, p.1 ∙ sym q.1)

pub step-image-once : (κ : _) (image : _) (bytes : _) (actions : _) (r₁ : _) (r₂ : _)
    (image₁ : _) (image₂ : _) (actions₁ : _) (actions₂ : _)
    → step-image.Post κ (image, (bytes, (actions, tt))) r₁ (image₁, (bytes, (actions₁, tt)))
    → step-image.Post κ (image, (bytes, (actions, tt))) r₂ (image₂, (bytes, (actions₂, tt)))
    → (r₁ ≡ r₂) × (image₁.now ≡ image₂.now) × (actions₁.now ≡ actions₂.now)
step-image-once κ image bytes actions r₁ r₂ image₁ image₂ actions₁ actions₂ p q =
    (p.0 ∙ sym q.0, p.1 ∙ sym q.1, p.2 ∙ sym q.2)

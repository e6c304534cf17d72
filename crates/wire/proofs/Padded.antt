-- A list held in an array of a fixed size, the rest of it filled up.
-- Proves: padded-push, padded-take.
use mathlib.Core.Path.{◌≡◌, refl, sym, ap, ◌∙◌}
use mathlib.Core.List.{List, [], ◌∷◌, ◌++◌, append_assoc}
use Prim.Native.Nat.{ℕ, zero, suc, ◌≤◌, ◌<◌}
use native.Mathlib.Omega.{arith}
use lib.ListN.{length, take, set, replicate, length-append, length-replicate}
use lib.Seq.{take-set-lt, set-append_seam, take-append-le, take-take, take-append_seam}

replicate-last : {A : Type 0} (m : ℕ) (d : A) → replicate m d ++ (d ∷ []) ≡ d ∷ replicate m d
replicate-last zero d = refl
replicate-last (suc m) d = ap (◌∷◌ d) (replicate-last m d)

-- what is stored after the last one stands last in the list
pub padded-push : {A : Type 0} (m : ℕ) (d a : A) (l : List A)
    → length l < suc m
    → set (take (suc m) (l ++ replicate (suc m) d)) (length l) a ≡ take (suc m) ((l ++ (a ∷ [])) ++ replicate (suc m) d)
padded-push m d a l room =
    let long : suc m ≤ length (l ++ (a ∷ replicate m d)) = simp (length-append, length-replicate) (omega arith) in
    sym (take-set-lt (suc m) (l ++ (d ∷ replicate m d)) (length l) a room)
    ∙ ap (take (suc m)) (set-append_seam l d (replicate m d) a)
    ∙ sym (take-append-le (suc m) (l ++ (a ∷ replicate m d)) (d ∷ []) long)
    ∙ ap (take (suc m))
    (append_assoc l (a ∷ replicate m d) (d ∷ [])
    ∙ ap (λ r. l ++ (a ∷ r)) (replicate-last m d)
    ∙ sym (append_assoc l (a ∷ []) (d ∷ replicate m d)))

-- the list is what is counted of the array
pub padded-take : {A : Type 0} (n : ℕ) (d : A) (l : List A) → length l ≤ n → take (length l) (take n (l ++ replicate n d)) ≡ l
padded-take n d l few = take-take (length l) n (l ++ replicate n d) few ∙ take-append_seam l (replicate n d)

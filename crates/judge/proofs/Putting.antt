-- Bytes put at a place of a room: the bytes before and after them stay.
-- Proves: put_sets, sets_more, entry-put, sets-front.
use mathlib.Core.Path.{◌≡◌, sym, ap, ap₂, ◌∙◌}
use mathlib.Core.List.{List, [], ◌∷◌, ◌++◌, append_assoc}
use Prim.Native.Nat.{ℕ, suc, ◌+◌, ◌-◌, ◌≤◌}
use native.Mathlib.Nat.{zero-add}
use native.Mathlib.Omega.{arith}
use lib.ListN.{length, set, take, drop, length-set}
use lib.Seq.{sets, sets-eq, length-sets}
use borrow.Rule.Slice.PartMut.{put_mid, Post-is}

-- bytes that take the place of as many
pub put_sets : (room : List ℕ) (at : ℕ) (bytes part : List ℕ)
    → at + length bytes ≤ length room
    → part ≡ bytes
    → put_mid at (at + length bytes - at) room part ≡ sets room at bytes
put_sets room at bytes part fits same =
    ap₂ (λ l m. take at room ++ (l ++ m)) same (Post-is at (at + length bytes) room (omega arith))
    ∙ sym (append_assoc (take at room) bytes (drop (at + length bytes) room))
    ∙ sym (sets-eq bytes room at fits)

-- bytes put one behind the other are put as one
pub sets_more : (room : List ℕ) (at : ℕ) (xs ys : List ℕ) → sets room at (xs ++ ys) ≡ sets (sets room at xs) (at + length xs) ys
sets_more room at [] ys = let same : at ≡ at + 0 = omega arith in ap (λ n. sets room n ys) same
sets_more room at (x ∷ xs) ys =
    let same : suc at + length xs ≡ at + suc (length xs) = omega arith in
    sets_more (set room at x) (suc at) xs ys ∙ ap (λ n. sets (sets (set room at x) (suc at) xs) n ys) same

-- a record's bytes, the two bytes of an answer, and the bytes behind them
pub entry-put : (room : List ℕ) (at : ℕ) (bytes : List ℕ) (kind code : ℕ) (behind first second : List ℕ)
    → at + (length bytes + (2 + length behind)) ≤ length room
    → first ≡ bytes
    → second ≡ behind
    → put_mid (at + length bytes + 2) (at + length bytes + 2 + length behind - (at + length bytes + 2))
    (set (set (put_mid at (at + length bytes - at) room first) (at + length bytes) kind) (at + length bytes + 1) code) second
    ≡ sets room at (bytes ++ (kind ∷ code ∷ behind))
entry-put room at bytes kind code behind first second fits first-is second-is =
    let to = at + length bytes in
    let one : to + 1 ≡ suc to = omega arith in
    let two : to + 2 ≡ suc (suc to) = omega arith in
    let front = put_sets room at bytes first (omega arith) first-is in
    let answered = set (set (sets room at bytes) to kind) (to + 1) code in
    let inside : to + 2 + length behind ≤ length answered = simp (length-set, length-sets) (omega arith) in
    ap (λ l. put_mid (to + 2) (to + 2 + length behind - (to + 2)) (set (set l to kind) (to + 1) code) second) front
    ∙ put_sets answered (to + 2) behind second inside second-is
    ∙ ap₂ (λ m n. sets (set (set (sets room at bytes) to kind) m code) n behind) one two
    ∙ sym (sets_more room at bytes (kind ∷ code ∷ behind))

-- put at the front
pub sets-front : (room : List ℕ) (bytes : List ℕ)
    → length bytes ≤ length room
    → sets room 0 bytes ≡ bytes ++ drop (length bytes) room
sets-front room bytes fits =
    sets-eq bytes room 0 (omega arith) ∙ ap (λ n. bytes ++ drop n room) (zero-add (length bytes))

-- Cross-checks only: nobody has to believe what stands here.
-- What demand 3 allows for each accepted order, call and loss, and how many timeouts release a waiting partner, of n tries.
-- Defines: per_order, per_call, per_loss, timeouts_to_release, held_tries.
use Rattle.std.specs.Prelude.{ℕ, ◌+◌, ◌*◌}
use Rattle.place.specs.Places.{tries, on_holding}
use Rattle.place.specs.declared.place.Place.{Place}

-- the tries used at a place, 0 where it is free
abbrev pub held_tries : Place → ℕ
held_tries place = on_holding 0 (λ d ph p. tries ph) place.holding

-- the most actions for each accepted order, call 38 and loss, n being the limit of tries: 11, 5 and 3 where it is 3
abbrev pub per_order : ℕ → ℕ
per_order n = 3 * n + 2

abbrev pub per_call : ℕ → ℕ
per_call n = n + 2

abbrev pub per_loss : ℕ → ℕ
per_loss n = n

-- the timeouts after which a partner that waits is released
abbrev pub timeouts_to_release : ℕ → ℕ
timeouts_to_release n = n

-- "the other events that name a partner", in the order of the columns of 01's phase table.
-- Defines: by_event.
use Rattle.std.specs.Prelude.{ℕ}
use Rattle.record.specs.declared.event.PartnerEvent.{PartnerEvent}
use Rattle.record.specs.declared.event.PartnerEvent.TheVariants.{Drop, Up, Loss, Timeout, Version, Ended}

-- an answer for each event: drop, up, lost, timeout, 32 with its version, 39
abbrev pub by_event : {A : Type 0} → A → A → A → A → (ℕ → A) → A → PartnerEvent → A
by_event at_drop at_up at_loss at_timeout at_version at_ended Drop = at_drop
by_event at_drop at_up at_loss at_timeout at_version at_ended Up = at_up
by_event at_drop at_up at_loss at_timeout at_version at_ended Loss = at_loss
by_event at_drop at_up at_loss at_timeout at_version at_ended Timeout = at_timeout
by_event at_drop at_up at_loss at_timeout at_version at_ended (Version v) = at_version v
by_event at_drop at_up at_loss at_timeout at_version at_ended Ended = at_ended
